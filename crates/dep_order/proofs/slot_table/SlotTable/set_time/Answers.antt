use Rattle.dep_order.proofs.Words.{arith, Hot}
use Rattle.dep_order.proofs.TableLemmas.{hot-change, low-parts}
use Rattle.dep_order.proofs.slot_table.SlotTable.set_time.Goals as goal

pub index_mut-requires : goal.index_mut-requires
index_mut-requires c = omega (arith, (low-parts c.self.inside c.args.number c.args.self.now c.self.invariant c.self.view_is c.requires).0)

pub returns : goal.returns
returns c =
    let a = c.self.inside in
    let l = (low-parts a c.args.number c.args.self.now c.self.invariant c.self.view_is c.requires).2 in
    rw (← c.self.view_is) (hot-change a.hot.items a.cold.items c.args.number c.self.invariant l (λ (x : Hot). record x { time = c.args.time }) c.index_mut.result.now c.index_mut.ensures.value)
