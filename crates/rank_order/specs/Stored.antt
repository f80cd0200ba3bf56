-- How marks are stored: the least key first, and some of them in a heap.
use Rattle.std.specs.Prelude.{◌≡◌, ◌≤◌, ◌++◌, [], List, length}
use Rattle.std.specs.BinaryHeap.{heap_items, IsHeap}
use Rattle.std.specs.VecDeque.{deque_capacity}
use Rattle.mt_base.specs.declared.keys.Key.{Key}
use Rattle.rank_order.specs.InOrder.{in_order, keys_in, later_cmp}
use Rattle.rank_order.specs.Marked.{Ascends, Marked}
use Rattle.rank_order.specs.declared.late_marks.LateMarks.TheInside as late
use Rattle.rank_order.specs.declared.marks.Marks.TheInside as marks

abbrev pub late_seen : late.Inside → List Key
late_seen a = in_order (keys_in a.heap)

-- the least key is at the top
abbrev pub IsLateStored : late.Inside → Type 0
IsLateStored a = IsHeap later_cmp (heap_items a.heap)

abbrev pub seen : marks.Inside → Marked
seen a = record { keys = in_order (a.keys.items ++ a.late); room = a.room }

-- the keys ascend, and there is room for as many as can be marked
pub record IsStored (a : marks.Inside) : Type 0 where
  pub ascends : Ascends a.keys.items
  pub spare : a.spare.items ≡ []
  pub room : a.room ≤ deque_capacity a.keys
  pub spare_room : a.room ≤ deque_capacity a.spare
  pub fits : length (in_order (a.keys.items ++ a.late)) ≤ a.room
