use Rattle.std.proofs.Common.{◌≡◌, ◌||◌}
use Rattle.std.specs.BinaryHeap.{heap_items}
use Rattle.mt_base.specs.Order.{is_same}
use Rattle.rank_order.specs.InOrder.{in_order, keys_in}
use Rattle.rank_order.specs.Marked.{has_key}
use Rattle.std.proofs.Common.{subst}
use Rattle.rank_order.proofs.HeapLemmas.{push-has}
use Rattle.rank_order.proofs.OrderLemmas.{one-more}
use Rattle.rank_order.proofs.late_marks.LateMarks.set.Goals as goal

pub returns-clause-set : goal.returns-clause-set
returns-clause-set c = λ _ q.
    let old = c.self.inside.heap in
    let new = c.push.new.self in
    let k = c.args.k.now in
    subst (λ ks. has_key (in_order (keys_in new)) q ≡ (is_same k q || has_key ks q)) c.self.view_is
    (one-more (keys_in old) (keys_in new) k (λ a. push-has (heap_items old) (heap_items new) (record { 0 = k }) a c.in-Ok.ensures.permutation) q)
