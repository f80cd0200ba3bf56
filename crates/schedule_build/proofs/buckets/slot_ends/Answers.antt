use Rattle.std.proofs.Common.{arith, rules}
use Rattle.std.specs.Prelude.{nat_le}
use Rattle.std.proofs.lemmas.List.Sorted.{IsPartitionPoint-from_clause}
use Rattle.schedule_build.specs.Buckets.{slot_of}
use Rattle.schedule_build.proofs.BucketLemmas.{filled-all, filled-more, slots-parted}
use Rattle.schedule_build.proofs.buckets.slot_ends.Goals as goal

pub loop-slot-preserved : goal.loop-slot-preserved
loop-slot-preserved c =
    let es = c.args.entries.now in
    let scale = c.args.scale in
    let k = c.loop-slot.slot-counter in
    let end = c.partition_point-end.result in
    let point = IsPartitionPoint-from_clause (λ e. nat_le (slot_of scale e.key) k) es end c.partition_point-end.ensures.partitioned (slots-parted scale k es c.requires.order) (λ a r f h. search rules) in
    rw c.in_ok-push.ensures.items (filled-more scale es c.loop-slot.ends.items k end c.loop-slot.invariant c.partition_point-end.ensures.bound point)

pub returns : goal.returns
returns c =
    filled-all c.args.scale c.args.entries.now c.loop-slot.ends.items c.loop-slot.slot-counter c.loop-slot.invariant (λ i d l. omega (arith, c.last_slot-last.ensures i d l))
