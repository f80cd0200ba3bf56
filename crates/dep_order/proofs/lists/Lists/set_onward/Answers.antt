use Rattle.dep_order.proofs.Words.{arith, length-map, onward_in}
use Rattle.dep_order.proofs.ChangeLemmas.{told}
use Rattle.dep_order.proofs.lists.Lists.set_onward.Goals as goal

pub set_onward-requires : goal.set_onward-requires
set_onward-requires c = omega (arith, c.requires.there, length-map c.args.self.now.slots onward_in)

pub returns : goal.returns
returns c =
    let x = told c.args.self.now c.set_onward.new.self c.args.number c.args.onward.now c.set_onward.ensures c.requires.kept c.requires.next in
    record { kept = x.0; entries = x.1; onwards = x.2 }
