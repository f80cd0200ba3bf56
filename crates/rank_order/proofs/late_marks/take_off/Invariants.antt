use Rattle.std.proofs.Common.{◌≡◌, ◌||◌}
use Rattle.std.specs.BinaryHeap.{heap_len}
use Rattle.mt_base.specs.declared.keys.Key.{Key}
use Rattle.mt_base.specs.Order.{is_same}
use Rattle.rank_order.specs.InOrder.{Heaped, keys_in}
use Rattle.rank_order.specs.Marked.{has_key}
use Rattle.rank_order.proofs.late_marks.take_off.Given as goal

abbrev pub invariant-same : goal.invariant-same
invariant-same l =
    record {
      least : Heaped l.k l.heap;
      keys : (q : Key) → (is_same l.k q || has_key (keys_in l.heap) q) ≡ (is_same l.k q || has_key (keys_in l.initial.heap) q);
    }

abbrev pub decreases-same : goal.decreases-same
decreases-same l = heap_len l.heap
