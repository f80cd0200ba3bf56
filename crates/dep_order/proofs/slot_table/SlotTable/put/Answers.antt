use Rattle.dep_order.proofs.Words.{arith, Hot, Cold}
use Rattle.dep_order.proofs.TableLemmas.{both-change, low-parts}
use Rattle.dep_order.proofs.slot_table.SlotTable.put.Goals as goal

pub index_mut-hot-requires : goal.index_mut-hot-requires
index_mut-hot-requires c = omega (arith, (low-parts c.self.inside c.args.number c.args.self.now c.self.invariant c.self.view_is c.requires).0)

pub index_mut-requires : goal.index_mut-requires
index_mut-requires c = omega (arith, (low-parts c.self.inside c.args.number c.args.self.now c.self.invariant c.self.view_is c.requires).1)

pub returns : goal.returns
returns c =
    let a = c.self.inside in
    let d = c.args.departure.now in
    let cold : Cold = record { scheduled = d.key.time; train = d.key.train; label = d.key.label; before = c.args.before } in
    let l = (low-parts a c.args.number c.args.self.now c.self.invariant c.self.view_is c.requires).2 in
    rw (← c.self.view_is) (both-change a.hot.items a.cold.items c.args.number c.self.invariant l (λ (x : Hot). record x { time = d.time; stop = d.stop; after = c.args.after }) c.index_mut-hot.result.now cold c.index_mut-hot.ensures.value)
