use Rattle.std.proofs.Common.{◌≡◌, true, length}
use Rattle.train_nodes.specs.Calls.{has_call}
use Rattle.journey_cert.specs.Calls.{arrival_by, calls_after}
use Rattle.journey_cert.proofs.ride.arrival_by.Given as goal

-- the arrival is found from here exactly where it is found from the beginning
abbrev pub invariant-loop-arrival : goal.invariant-loop-arrival
invariant-loop-arrival g l =
    (arrival_by l.t.network l.t.state l.train l.alight (calls_after l.t.state l.train l.label)
    ≡ arrival_by l.t.network l.t.state l.train l.alight (calls_after l.t.state l.train l.fn.board))
    × (has_call l.t.state l.train l.label ≡ true)

abbrev pub decreases-loop-arrival : goal.decreases-loop-arrival
decreases-loop-arrival g l = length (calls_after l.t.state l.train l.label)
