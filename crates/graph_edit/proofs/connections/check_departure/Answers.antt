use Rattle.train_nodes.proofs.EventLemmas.{live-there}
use Rattle.graph_edit.proofs.connections.check_departure.Goals as goal

pub event-event-requires : goal.event-event-requires
event-event-requires c = rw c.trains.ensures.trains (live-there c.args.g.now.state c.args.n.now c.requires)
