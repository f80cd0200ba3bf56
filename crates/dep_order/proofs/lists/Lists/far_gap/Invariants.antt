use Rattle.dep_order.proofs.Words.{◌≡◌, entries_of, leaves_before, left}
use Rattle.dep_order.specs.Gaps.{IsBetween}
use Rattle.dep_order.proofs.lists.Lists.far_gap.Given as goal

-- the walks are in the same bucket, and not past the gap
abbrev pub invariant-far : goal.invariant-far
invariant-far l = record { bucket : l.rest.bucket ≡ l.fn.ends.bucket; between : IsBetween l.self l.departure l.rest }

abbrev pub decreases-far : goal.decreases-far
decreases-far l = left leaves_before (entries_of l.self) l.rest.front
