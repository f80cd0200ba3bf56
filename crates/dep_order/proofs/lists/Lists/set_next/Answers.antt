use Rattle.dep_order.proofs.SlotLemmas.{next-set}
use Rattle.dep_order.proofs.lists.Lists.set_next.Goals as goal

pub set_after-requires : goal.set_after-requires
set_after-requires c = c.requires.number c.if-number-eq-NOBODY.false

pub returns-else-number-eq-NOBODY : goal.returns-else-number-eq-NOBODY
returns-else-number-eq-NOBODY c =
    let some = c.if-number-eq-NOBODY.false in
    next-set c.args.self.now c.args.bucket c.args.number c.args.after c.set_after.new.self some (c.requires.number some) c.set_after.ensures
