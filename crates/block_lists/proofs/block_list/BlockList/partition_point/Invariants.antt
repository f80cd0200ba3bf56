use Rattle.core.proofs.slice.Searches.{Halved}
use Rattle.block_lists.proofs.Words.{Bool, ComputesKey, length, ◌+◌, ◌≤◌, ◌<◌}
use Rattle.block_lists.proofs.block_list.BlockList.partition_point.Given as goal

-- what is known of the elements before the part that is left, and of those behind it
abbrev pub invariant-loop-size : goal.invariant-loop-size
invariant-loop-size g l =
    (0 < l.size) × (l.base + l.size ≤ length l.self.items) × goal.F-IsAlwaysCallable g l.passes
    × ((p : g.row.T.Denot → Bool) → ComputesKey g.F.FnMut p l.initial.passes → ComputesKey g.F.FnMut p l.passes × Halved p l.self.items l.base l.size)

abbrev pub decreases-loop-size : goal.decreases-loop-size
decreases-loop-size g l = l.size
