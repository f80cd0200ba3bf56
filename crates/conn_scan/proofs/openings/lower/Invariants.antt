use Rattle.std.proofs.Common.{◌≡◌, drop, length}
use Rattle.conn_scan.specs.Openings.{lowered}
use Rattle.conn_scan.proofs.openings.lower.Given as goal

-- the changes that are left make of what is known what all of them make of what was
abbrev pub invariant-loop-change : goal.invariant-loop-change
invariant-loop-change l =
    (lowered l.at l.ride (drop l.change-index l.changes) l.openings ≡ lowered l.at l.ride l.changes l.fn.openings)
    × (length l.openings.times ≡ length l.fn.openings.times)
    × (length l.openings.rides ≡ length l.fn.openings.rides)
