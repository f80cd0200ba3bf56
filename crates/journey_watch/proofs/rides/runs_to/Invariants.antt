use Rattle.std.proofs.Common.{◌≡◌, true, is_some, length}
use Rattle.train_nodes.specs.Calls.{has_call}
use Rattle.standing_laws.specs.Standings.{reached_call}
use Rattle.journey_watch.proofs.RideLemmas.{calls_behind}
use Rattle.journey_watch.proofs.rides.runs_to.Given as goal

-- the call is reached from here exactly where it is reached from the beginning
abbrev pub invariant-loop-next : goal.invariant-loop-next
invariant-loop-next l =
    (is_some (reached_call l.alight (calls_behind l.t.state l.train l.label))
    ≡ is_some (reached_call l.alight (calls_behind l.t.state l.train l.fn.board)))
    × (has_call l.t.state l.train l.label ≡ true)

abbrev pub decreases-loop-next : goal.decreases-loop-next
decreases-loop-next l = length (calls_behind l.t.state l.train l.label)
