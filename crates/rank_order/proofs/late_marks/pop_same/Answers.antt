use Rattle.std.proofs.Common.{arith, refl, ◌≡◌, false, subst, sym, ◌∙◌, true}
use Rattle.std.specs.BinaryHeap.{heap_items}
use Rattle.mt_base.specs.Order.{is_before, is_same}
use Rattle.std.specs.declared.cmp.Reverse.{Reverse}
use Rattle.mt_base.specs.declared.keys.Key.{Key}
use Rattle.rank_order.specs.InOrder.{keys_in}
use Rattle.rank_order.proofs.InsertLemmas.{higher}
use Rattle.rank_order.proofs.HeapLemmas.{all-after, left-beside, none-sooner, one-top, pop-all, top-at}
use Rattle.rank_order.proofs.late_marks.pop_same.Goals as goal

pub returns-then-not-is_same-clause-after : goal.returns-then-not-is_same-clause-after
returns-then-not-is_same-clause-after c = λ _.
    let rs = heap_items c.args.heap.now in
    let k = c.args.k.now in
    let top = c.in-Some.top.now in
    let some = c.in-Some.ensures.variant.0 refl in
    let later = top-at rs top (omega arith) c.in-Some.ensures.lookup (λ q. is_before q k ≡ false) c.requires.least.none_before in
    all-after k top.0 (keys_in c.args.heap.now) (higher top.0 k later (sym c.is_same.ensures ∙ c.if-not-is_same.true)) (none-sooner top rs (c.in-Some.ensures.greatest c.requires.least.heap_order))

pub returns-clause-least : goal.returns-clause-least
returns-clause-least c =
    record {
      heap_order = (c.in-Some-pop.ensures.heap_order c.requires.least.heap_order).0;
      none_before = pop-all (λ q. is_before q c.args.k.now ≡ false) (heap_items c.args.heap.now) (heap_items c.pop.new.self) c.in-Some-pop.field-0 c.in-Some-pop.ensures.permutation c.requires.least.none_before;
    }

pub returns-clause-keys : goal.returns-clause-keys
returns-clause-keys c = λ q.
    let rs = heap_items c.args.heap.now in
    let some = c.in-Some.ensures.variant.0 refl in
    let one = one-top rs c.in-Some.top.now c.in-Some-pop.field-0 (omega arith) c.in-Some.ensures.lookup c.in-Some-pop.ensures.top in
    left-beside rs (heap_items c.pop.new.self) c.in-Some-pop.field-0 c.args.k.now q (subst (λ (r : Reverse Key). is_same r.0 c.args.k.now ≡ true) one (sym c.is_same.ensures ∙ c.if-not-is_same.false)) c.in-Some-pop.ensures.permutation
