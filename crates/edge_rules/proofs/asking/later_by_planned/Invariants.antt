use Rattle.edge_rules.proofs.Words.{Into, drop, flat_map, planned_at, planned_by, waits_at}
use Rattle.edge_rules.proofs.SoFar.{IsSoFar}
use Rattle.edge_rules.proofs.asking.later_by_planned.Given as goal

-- the changes that are left
abbrev pub invariant-loop-change : goal.invariant-loop-change
invariant-loop-change g l =
    let wanted = Into (waits_at l.graph l.at) in
    IsSoFar l.times l.so_far l.fn.steps (planned_at l.graph l.index.entries wanted l.at) l.time l.steps (flat_map (planned_by l.graph l.index.entries wanted l.at) (drop l.change-index l.changes))
