use Rattle.edge_rules.proofs.Words.{node_of}
use Rattle.edge_rules.proofs.Caps.{cap-is}
use Rattle.edge_rules.proofs.Neighbours.{named-there}
use Rattle.edge_rules.proofs.graph.Graph.reported.Goals as goal

pub by_reports-requires-clause-there : goal.by_reports-requires-clause-there
by_reports-requires-clause-there c =
    rw c.trains-trains.ensures.trains (named-there c.args.self.now.state (node_of c.args.at.now.key) c.args.at.now c.requires.there)

pub returns : goal.returns
returns c =
    rw (cap-is c.args.self.now.state (node_of c.args.at.now.key) c.args.at.now c.requires.there) (rw c.trains-trains.ensures.trains at c.by_reports.ensures)
