use Rattle.edge_rules.proofs.Words.{◌≡◌, Into, flat_map, HaveLiveEvents, of_entry, planned_with}
use Rattle.edge_rules.proofs.planned_into.next_near.Given as goal

-- the entries so far have no edge
abbrev pub invariant-loop-entry : goal.invariant-loop-entry
invariant-loop-entry l =
    let f = of_entry l.graph.state (planned_with l.graph (Into l.waits) l.at l.seconds) in
    HaveLiveEvents l.graph.state l.entries × (flat_map f l.initial.entries ≡ flat_map f l.entries)
