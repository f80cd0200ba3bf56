use Rattle.std.proofs.Common.{◌≡◌, ◌++◌, length}
use Rattle.std.specs.VecDeque.{deque_capacity}
use Rattle.rank_order.specs.InOrder.{in_order}
use Rattle.rank_order.specs.Marked.{Ascends}
use Rattle.rank_order.proofs.gathering.gather.Given as goal

abbrev pub invariant-loop-key : goal.invariant-loop-key
invariant-loop-key l =
    record {
      ascends : Ascends l.keys.items;
      whole : l.spare.items ++ in_order (l.keys.items ++ l.late) ≡ in_order (l.initial.keys.items ++ l.initial.late);
      capacity : deque_capacity l.keys ≡ deque_capacity l.initial.keys;
      spare_capacity : deque_capacity l.spare ≡ deque_capacity l.initial.spare;
    }

abbrev pub decreases-loop-key : goal.decreases-loop-key
decreases-loop-key l = length (in_order (l.keys.items ++ l.late))
