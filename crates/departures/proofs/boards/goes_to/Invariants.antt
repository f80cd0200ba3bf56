use Rattle.std.proofs.Common.{◌≡◌, true, length}
use Rattle.train_nodes.specs.Calls.{has_call}
use Rattle.board_laws.specs.Boards.{goes_to}
use Rattle.departures.specs.Rows.{goes_from}
use Rattle.departures.proofs.CallLemmas.{calls_behind}
use Rattle.departures.proofs.boards.goes_to.Given as goal

-- from here the train goes where it goes from the beginning
abbrev pub invariant-loop-next : goal.invariant-loop-next
invariant-loop-next l = record {
  onward : goes_to l.to (calls_behind l.trains l.train l.label) ≡ goes_from l.fn.trains l.fn.from;
  there : has_call l.trains l.train l.label ≡ true;
}

abbrev pub decreases-loop-next : goal.decreases-loop-next
decreases-loop-next l = length (calls_behind l.trains l.train l.label)
