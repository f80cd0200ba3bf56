use Rattle.std.proofs.Common.{sym, ◌∙◌, Option, None, Some, IfNone}
use Rattle.std.specs.BinaryHeap.{heap_items}
use Rattle.mt_base.specs.declared.keys.Key.{Key}
use Rattle.rank_order.specs.InOrder.{keys_in}
use Rattle.rank_order.proofs.InsertLemmas.{RisesTo}
use Rattle.rank_order.proofs.OrderLemmas.{in_order-all}
use Rattle.rank_order.proofs.HeapLemmas.{least-off, none-in, none-sooner}
use Rattle.rank_order.proofs.late_marks.LateMarks.take_least.Goals as goal

if-none : (r : Option Key) (P : Type 0) → P → IfNone r P
if-none None P h = h
if-none (Some k) P h = tt

pub returns-in_err-least-clause-none : goal.returns-in_err-least-clause-none
returns-in_err-least-clause-none c = if-none c.from_residual.result _ (sym c.self.view_is ∙ none-in c.self.inside.heap c.in_err-least.ensures.none)

pub take_off-requires : goal.take_off-requires
take_off-requires c =
    record {
      least = record {
        heap_order = (c.in_ok-least.ensures.heap_order c.self.invariant).0;
        none_before = none-sooner c.in_ok-least.field-0 (heap_items c.pop.new.self) (c.in_ok-least.ensures.below_top c.self.invariant);
      };
    }

pub returns-clause-taken : goal.returns-clause-taken
returns-clause-taken c =
    sym c.self.view_is ∙ least-off (heap_items c.self.inside.heap) (heap_items c.pop.new.self) c.in_ok-least.field-0 (keys_in c.take_off.new.heap) c.in_ok-least.ensures.permutation c.take_off.ensures.after c.take_off.ensures.keys

pub returns-clause-least : goal.returns-clause-least
returns-clause-least c = in_order-all (RisesTo c.in_ok-least.field-0.0) (keys_in c.take_off.new.heap) c.take_off.ensures.after
