use Rattle.dep_order.proofs.SlotLemmas.{previous-set}
use Rattle.dep_order.proofs.StoredLemmas.{end-slot, end-within}
use Rattle.dep_order.proofs.lists.Lists.set_previous.Goals as goal

pub set_before-requires : goal.set_before-requires
set_before-requires c = end-within c.args.self.now c.args.number c.requires.number c.if-number-eq-NOBODY.false

pub returns-else-number-eq-NOBODY : goal.returns-else-number-eq-NOBODY
returns-else-number-eq-NOBODY c =
    let l = c.args.self.now in
    let some = c.if-number-eq-NOBODY.false in
    previous-set l c.args.bucket c.args.number c.args.before c.set_before.new.self some (end-within l c.args.number c.requires.number some) (end-slot l c.args.number c.requires.number some) c.requires.before c.set_before.ensures
