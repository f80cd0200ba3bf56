use Rattle.train_nodes.proofs.Words.{◌∙◌, ap, sym, Some, call_of, event-named}
use Rattle.train_nodes.proofs.trains.Trains.event.Goals as goal

pub returns : goal.returns
returns c =
    event-named c.args.self.now c.args.n c.route.result (call_of c.call.result.now) c.call.ensures c.route.ensures
    ∙ ap Some (sym c.stored_event.ensures)
