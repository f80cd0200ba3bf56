use Rattle.std.proofs.Common.{◌≡◌, ◌++◌, drop}
use Rattle.delay_model.specs.Edges.{edges_along}
use Rattle.delay_model.proofs.edges.push_edges_along.Given as goal

abbrev pub invariant-loop-i : goal.invariant-loop-i
invariant-loop-i l = l.all.items ++ edges_along l.opts (drop l.i l.own) ≡ l.initial.all.items ++ edges_along l.opts l.own
