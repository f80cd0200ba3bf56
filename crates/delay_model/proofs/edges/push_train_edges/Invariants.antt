use Rattle.std.proofs.Common.{◌≡◌, ◌++◌, drop}
use Rattle.delay_model.specs.Edges.{train_edges}
use Rattle.delay_model.proofs.edges.push_train_edges.Given as goal

abbrev pub invariant-loop-number : goal.invariant-loop-number
invariant-loop-number l = l.all.items ++ train_edges l.opts l.number (drop l.number l.trains) ≡ l.initial.all.items ++ train_edges l.opts 0 l.trains
