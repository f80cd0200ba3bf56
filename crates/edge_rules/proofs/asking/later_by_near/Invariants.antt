use Rattle.edge_rules.proofs.SoFar.{IsSoFar}
use Rattle.edge_rules.proofs.asking.later_by_near.Given as goal

abbrev pub invariant-loop-edge : goal.invariant-loop-edge
invariant-loop-edge g l = IsSoFar l.times l.fn.so_far l.fn.steps l.fn.edges l.time l.steps l.edge-iterator
