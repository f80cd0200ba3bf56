use Rattle.conn_scan.proofs.Words.{◌≡◌, length, All, leaving_from, HasSameRoom, IsWithin}
use Rattle.conn_scan.specs.Arrivals.{has_all}
use Rattle.conn_scan.proofs.arrivals.has_all.Given as goal

-- of the departures that are left none is missed exactly where of all of them none was
abbrev pub invariant-loop-d : goal.invariant-loop-d
invariant-loop-d l =
    (has_all (length l.changes.stops) l.best l.d-iterator l.known ≡ has_all (length l.changes.stops) l.best (leaving_from l.order l.fn.from) l.fn.known)
    × All (IsWithin (length l.changes.stops) (length l.order.entries)) l.d-iterator
    × HasSameRoom l.fn.known l.known
