use Rattle.dep_order.proofs.Words.{arith}
use Rattle.dep_order.proofs.TableLemmas.{hot-read, low-parts}
use Rattle.dep_order.proofs.slot_table.SlotTable.hot.Goals as goal

pub index-requires : goal.index-requires
index-requires c = omega (arith, (low-parts c.self.inside c.args.number c.args.self.now c.self.invariant c.self.view_is c.requires).0)

pub returns : goal.returns
returns c =
    let a = c.self.inside in
    let l = (low-parts a c.args.number c.args.self.now c.self.invariant c.self.view_is c.requires).2 in
    rw (← c.self.view_is) (hot-read a.hot.items a.cold.items c.args.number c.index.result.now c.self.invariant l c.index.ensures)
