use Rattle.core.proofs.slice.Searches.{Narrowed}
use Rattle.block_lists.proofs.Words.{ComputesKey, Ordering, length, ◌+◌, ◌≤◌, ◌<◌}
use Rattle.block_lists.proofs.block_list.BlockList.binary_search_by.Given as goal

-- what is known of the elements before the part that is left, and of those behind it
abbrev pub invariant-loop-size : goal.invariant-loop-size
invariant-loop-size g l =
    (0 < l.size) × (l.base + l.size ≤ length l.self.items) × goal.F-IsAlwaysCallable g l.compare
    × ((ord : g.row.T.Denot → Ordering) → ComputesKey g.F.FnMut ord l.initial.compare → ComputesKey g.F.FnMut ord l.compare × Narrowed ord l.self.items l.base l.size)

abbrev pub decreases-loop-size : goal.decreases-loop-size
decreases-loop-size g l = l.size
