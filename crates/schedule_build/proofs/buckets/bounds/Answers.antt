use Rattle.schedule_build.proofs.BucketLemmas.{in-order}
use Rattle.schedule_build.proofs.buckets.bounds.Goals as goal

pub returns-clause-order : goal.returns-clause-order
returns-clause-order c =
    rw (c.start_of.ensures, c.end_of.ensures) (in-order c.args.scale c.args.entries.now c.args.ends.now c.requires c.args.slot (record { key = 0; number = 0 }))

pub returns-clause-within : goal.returns-clause-within
returns-clause-within c = rw c.end_of.ensures (c.requires.bound c.args.slot)
