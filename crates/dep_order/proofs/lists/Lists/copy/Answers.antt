use Rattle.dep_order.proofs.Words.{◌∙◌}
use Rattle.dep_order.proofs.BuildLemmas.{kept-same}
use Rattle.dep_order.proofs.lists.Lists.copy.Goals as goal

pub returns-clause-kept : goal.returns-clause-kept
returns-clause-kept c = kept-same c.args.self.now _ c.in_ok-copy.ensures (c.in_ok-from_slice.ensures.items ∙ c.deref.ensures.value)
