use Rattle.conn_scan.proofs.Words.{◌≡◌, length, All, leaving_from, scanned, HasSameRoom, IsWithin}
use Rattle.conn_scan.proofs.scan.scan.Given as goal

-- the departures that are left make of what is known what all of them make of what was
abbrev pub invariant-loop-d : goal.invariant-loop-d
invariant-loop-d l =
    (scanned l.changes l.asked.query l.d-iterator l.known ≡ scanned l.changes l.asked.query (leaving_from l.order l.asked.query.time) l.fn.known)
    × All (IsWithin (length l.changes.stops) (length l.order.entries)) l.d-iterator
    × HasSameRoom l.fn.known l.known
