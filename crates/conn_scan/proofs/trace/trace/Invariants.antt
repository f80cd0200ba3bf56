use Rattle.conn_scan.proofs.Words.{◌≡◌, access_of, ride_along}
use Rattle.std.proofs.Common.{vec_capacity}
use Rattle.conn_scan.proofs.WayBack.{left_of, IsOnWay}
use Rattle.conn_scan.proofs.trace.trace.Given as goal

-- the rides are the way back so far, in the room that there was
abbrev pub invariant-loop-before : goal.invariant-loop-before
invariant-loop-before l = IsOnWay (access_of l.t.state l.order l.openings) (ride_along l.t.state l.order l.last) l.rides.items l.before × (vec_capacity l.rides ≡ vec_capacity l.fn.rides)

abbrev pub decreases-loop-before : goal.decreases-loop-before
decreases-loop-before l = left_of l.before
