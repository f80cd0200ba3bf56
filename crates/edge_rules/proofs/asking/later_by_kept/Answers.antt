use Rattle.edge_rules.proofs.Words.{[], ◌∷◌}
use Rattle.edge_rules.proofs.SoFar.{goes-on}
use Rattle.edge_rules.proofs.asking.later_by_kept.Goals as goal

pub loop-edge-preserved : goal.loop-edge-preserved
loop-edge-preserved g c =
    goes-on (c.in-Some-edge.edge ∷ []) c.next.new.self _ _ (rw c.in-Some-edge.ensures.steps at c.loop-edge.invariant) c.later_by-time.ensures
