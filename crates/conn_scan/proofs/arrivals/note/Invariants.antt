use Rattle.std.proofs.Common.{◌≡◌, drop}
use Rattle.conn_scan.specs.Arrivals.{noted}
use Rattle.conn_scan.specs.Scanned.{HasSameRoom}
use Rattle.conn_scan.proofs.arrivals.note.Given as goal

-- the stops that are left make of what is known what all of them make of what was
abbrev pub invariant-loop-x : goal.invariant-loop-x
invariant-loop-x l =
    (noted l.changes (drop l.x-index l.reached) l.known ≡ noted l.changes l.reached l.fn.known) × HasSameRoom l.fn.known l.known
