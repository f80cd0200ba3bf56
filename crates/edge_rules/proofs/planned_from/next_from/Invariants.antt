use Rattle.edge_rules.proofs.Words.{◌≡◌, flat_map, HaveLiveEvents, leaving, of_entry, planned_with}
use Rattle.edge_rules.proofs.planned_from.next_from.Given as goal

-- the entries so far have no edge
abbrev pub invariant-loop-entry : goal.invariant-loop-entry
invariant-loop-entry l =
    let f = of_entry l.graph.state (planned_with l.graph (leaving l.shift) l.at l.seconds) in
    HaveLiveEvents l.graph.state l.entries × (flat_map f l.initial.entries ≡ flat_map f l.entries)
