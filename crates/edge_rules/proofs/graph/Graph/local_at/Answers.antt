use Rattle.edge_rules.proofs.Words.{node_of}
use Rattle.edge_rules.proofs.Neighbours.{named-there}
use Rattle.edge_rules.proofs.LocalRule.{later-parts, ready-parts, rule-at}
use Rattle.edge_rules.proofs.graph.Graph.local_at.Goals as goal

pub later_along-along-requires-clause-ready : goal.later_along-along-requires-clause-ready
later_along-along-requires-clause-ready g c =
    (ready-parts c.args.times.now c.args.self.now c.args.at.now c.trains-trains.ensures.labels c.requires.there c.requires.held c.requires.fits).0

pub later_by_transfers-time-requires-clause-ready : goal.later_by_transfers-time-requires-clause-ready
later_by_transfers-time-requires-clause-ready g c =
    (ready-parts c.args.times.now c.args.self.now c.args.at.now c.trains-trains.ensures.labels c.requires.there c.requires.held c.requires.fits).1

pub by_reports-requires-clause-there : goal.by_reports-requires-clause-there
by_reports-requires-clause-there g c =
    rw c.trains-trains.ensures.trains (named-there c.args.self.now.state (node_of c.args.at.now.key) c.args.at.now c.requires.there)

pub returns : goal.returns
returns g c =
    let v = c.args.at.now in
    let all = later-parts c.args.times.now c.args.self.now v c.trains-trains.ensures.labels c.requires.there _ _ _ _ _ _ c.later_along-along.ensures c.later_by_transfers-time.ensures in
    record {
      rule = rule-at c.args.self.now c.args.times.now (node_of v.key) v _ _ c.trains-trains.ensures.labels c.requires.there (rw c.floor.ensures.value at all.value) (rw c.trains-trains.ensures.trains at c.by_reports.ensures);
      cost = all.cost;
    }
