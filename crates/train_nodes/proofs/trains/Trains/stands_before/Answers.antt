use Rattle.train_nodes.proofs.Words.{◌∙◌}
use Rattle.train_nodes.proofs.FoundParts.{stands-found}
use Rattle.train_nodes.proofs.trains.Trains.stands_before.Goals as goal

pub returns : goal.returns
returns c = c.is_some.ensures ∙ stands-found _ _ _ c.args.t c.args.from c.args.to c.find_part.result c.self.invariant c.deref.ensures.value c.self.view_is c.find_part.ensures
