use Rattle.edge_rules.proofs.Words.{true, kept_at}
use Rattle.edge_rules.proofs.SoFar.{IsSoFar}
use Rattle.edge_rules.proofs.asking.later_by_kept.Given as goal

abbrev pub invariant-loop-edge : goal.invariant-loop-edge
invariant-loop-edge g l = IsSoFar l.times l.so_far l.fn.steps (kept_at l.graph true l.at) l.time l.steps l.edge-iterator
