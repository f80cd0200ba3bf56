use Rattle.std.proofs.Common.{arith, refl, rules, ◌≡◌, sym, ◌∙◌, All, [], subst}
use Rattle.std.specs.BinaryHeap.{heap_items, heap_len}
use Rattle.rank_order.specs.InOrder.{keys_in}
use Rattle.rank_order.proofs.InsertLemmas.{RisesTo}
use Rattle.rank_order.proofs.OrderLemmas.{in_order-all}
use Rattle.rank_order.proofs.HeapLemmas.{all-after, least-after, none-in, none-sooner}
use Rattle.rank_order.proofs.late_marks.LateMarks.are_after.Goals as goal

pub returns-in-Some-clause-after : goal.returns-in-Some-clause-after
returns-in-Some-clause-after c = λ sooner.
    let k = c.args.k.now in
    let heap = c.self.inside.heap in
    let least = c.in-Some.least.now in
    subst (All (RisesTo k)) c.self.view_is (in_order-all (RisesTo k) (keys_in heap) (all-after k least.0 (keys_in heap) (sym c.is_before.ensures ∙ sooner) (none-sooner least (heap_items heap) (c.in-Some.ensures.greatest c.self.invariant))))

pub returns-in-Some-clause-all : goal.returns-in-Some-clause-all
returns-in-Some-clause-all c = λ after.
    let k = c.args.k.now in
    let some = c.in-Some.ensures.variant.0 refl in
    let ok = c.self.inside.heap.data.ok in
    c.is_before.ensures ∙ least-after (heap_items c.self.inside.heap) c.in-Some.least.now k (omega arith) c.in-Some.ensures.lookup (subst (All (RisesTo k)) (sym c.self.view_is) after)

pub returns-in-None-clause-after : goal.returns-in-None-clause-after
returns-in-None-clause-after c = λ _.
    let k = c.args.k.now in
    let none : heap_len c.self.inside.heap ≡ 0 = search rules in
    let nil : c.args.self.now ≡ [] = sym c.self.view_is ∙ none-in c.self.inside.heap none in
    subst (All (RisesTo k)) (sym nil) (λ i d l. absurd (omega arith))
