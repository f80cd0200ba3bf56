use Rattle.train_nodes.proofs.EventLemmas.{live-there}
use Rattle.graph_edit.proofs.values.check_withdrawal.Goals as goal

pub forecast-requires : goal.forecast-requires
forecast-requires c = rw c.trains.ensures.trains (live-there c.args.g.now.state c.args.n.now c.requires.live)
