use Rattle.std.proofs.Common.{length, sym}
use Rattle.schedule_build.proofs.BucketLemmas.{last-slot, some-from}
use Rattle.schedule_build.proofs.buckets.last_slot.Goals as goal

pub returns : goal.returns
returns c =
    rw c.slot_of.ensures (last-slot c.args.scale c.args.entries.now c.requires (some-from (length c.args.entries.now) (sym c.if-is_empty.ensures)) (record { key = 0; number = 0 }))
