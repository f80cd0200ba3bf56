use Rattle.dep_order.proofs.Words.{arith}
use Rattle.dep_order.proofs.TableLemmas.{fresh-joined}
use Rattle.dep_order.proofs.slot_table.SlotTable.fresh.Goals as goal

pub returns : goal.returns
returns c =
    fresh-joined _ _ c.args.room _ _ (c.in_ok-vec.ensures.items_if_clones_equal (λ y h. h)) (c.in_ok-vec-2.ensures.items_if_clones_equal (λ y h. h)) (grind arith) (grind arith)
