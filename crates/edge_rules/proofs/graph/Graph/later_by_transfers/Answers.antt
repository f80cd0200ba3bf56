use Rattle.edge_rules.proofs.GraphLemmas.{ready-transfers, later-transfers}
use Rattle.edge_rules.proofs.graph.Graph.later_by_transfers.Goals as goal

pub later_by_planned-planned-requires-clause-ready : goal.later_by_planned-planned-requires-clause-ready
later_by_planned-planned-requires-clause-ready g c = (ready-transfers c.self.invariant c.self.view_is c.requires.there c.args.times.now c.requires.ready).0

pub later_by_kept-requires-clause-ready : goal.later_by_kept-requires-clause-ready
later_by_kept-requires-clause-ready g c = (ready-transfers c.self.invariant c.self.view_is c.requires.there c.args.times.now c.requires.ready).1

pub returns : goal.returns
returns g c = later-transfers c.self.invariant c.self.view_is c.requires.there c.args.times.now _ _ _ _ _ _ c.later_by_planned-planned.ensures c.later_by_kept.ensures
