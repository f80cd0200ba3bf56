use Rattle.station_index.proofs.Words.{rules, arith, nat_le, IsPartitionPoint-from_clause, slot_of}
use Rattle.station_index.proofs.SlotLemmas.{filled-all, filled-more, slots-parted}
use Rattle.station_index.proofs.loaded.slot_ends.Goals as goal

pub loop-slot-preserved : goal.loop-slot-preserved
loop-slot-preserved c =
    let es = c.args.entries.now in
    let k = c.loop-slot.slot-counter in
    let end = c.partition_point-end.result in
    let point = IsPartitionPoint-from_clause (λ e. nat_le (slot_of e) k) es end c.partition_point-end.ensures.partitioned (slots-parted es k c.requires.order) (λ a r f h. search rules) in
    rw c.in_ok-push.ensures.items (filled-more es c.loop-slot.ends.items k end c.loop-slot.invariant c.partition_point-end.ensures.bound point)

pub returns : goal.returns
returns c =
    filled-all c.args.entries.now c.loop-slot.ends.items c.loop-slot.slot-counter c.loop-slot.invariant (λ i d l. omega (arith, c.last_slot-last.ensures i d l))
