use Rattle.edge_rules.proofs.Words.{arith, Shift}
use Rattle.edge_rules.proofs.GraphLemmas.{changing-found}
use Rattle.edge_rules.proofs.graph.Graph.transfers_changing.Goals as goal

pub returns : goal.returns
returns c =
    let shift : Shift = record { was = c.args.was; is = c.args.is; longest_wait = c.longest_wait.result } in
    grind (arith, changing-found c.self.invariant c.self.view_is c.requires.there shift, c.longest_wait.ensures.longest)
