use Rattle.schedule_build.proofs.BucketLemmas.{AreFilled}
use Rattle.schedule_build.proofs.buckets.slot_ends.Given as goal

-- the ends of the slots so far
abbrev pub invariant-loop-slot : goal.invariant-loop-slot
invariant-loop-slot l = AreFilled l.scale l.entries l.ends.items l.slot-counter
