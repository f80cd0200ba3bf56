use Rattle.edge_rules.proofs.Words.{[], flat_map, leaving, length, unwrap_or, of_entry, planned_by, planned_with}
use Rattle.edge_rules.specs.InsidePlanned.{IsConsistentFrom}
use Rattle.edge_rules.proofs.Taken.{IsTaken}
use Rattle.edge_rules.proofs.planned_from.PlannedFromIterator.next.Given as goal

-- the edge that was taken, and what is left
abbrev pub invariant-loop-edge : goal.invariant-loop-edge
invariant-loop-edge l =
    let a = l.self-inside in
    let g = a.graph.now in
    IsConsistentFrom a
    × IsTaken l.fn.self l.edge (flat_map (of_entry g.state (planned_with g (leaving a.shift) a.at a.seconds)) (unwrap_or a.near [])) (flat_map (planned_by g a.index.now.entries (leaving a.shift) a.at) a.changes.now)

abbrev pub decreases-loop-edge : goal.decreases-loop-edge
decreases-loop-edge l = length l.self-inside.changes.now
