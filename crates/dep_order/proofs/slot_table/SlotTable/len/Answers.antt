use Rattle.dep_order.proofs.Words.{ap, arith, length}
use Rattle.dep_order.proofs.TableLemmas.{length-joined}
use Rattle.dep_order.proofs.slot_table.SlotTable.len.Goals as goal

pub returns : goal.returns
returns c = omega (arith, c.len.ensures, length-joined c.self.inside.hot.items c.self.inside.cold.items c.self.invariant, ap length c.self.view_is)
