use Rattle.edge_rules.proofs.Words.{◌≡◌, flat_map, of_name, kept_with}
use Rattle.edge_rules.proofs.kept.next_kept.Given as goal

-- the names so far have no edge
abbrev pub invariant-loop-name : goal.invariant-loop-name
invariant-loop-name l =
    let f = of_name l.graph.state (kept_with l.graph l.into l.at) in
    flat_map f l.initial.names ≡ flat_map f l.names
