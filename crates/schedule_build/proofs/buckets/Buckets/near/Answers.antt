use Rattle.schedule_build.proofs.BucketLemmas.{near}
use Rattle.schedule_build.proofs.buckets.Buckets.near.Goals as goal

pub bounds-start-requires : goal.bounds-start-requires
bounds-start-requires c = rw (c.deref.ensures.value, c.deref-2.ensures.value) c.self.invariant.slots

pub returns-clause-near : goal.returns-clause-near
returns-clause-near c =
    let a = c.self.inside in
    let b = c.bounds-start.ensures in
    let start = rw (c.slot_of-slot.ensures, c.deref.ensures.value, c.deref-2.ensures.value) at b.start in
    let end = rw (c.slot_of-slot.ensures, c.deref.ensures.value, c.deref-2.ensures.value) at b.end in
    let within = rw c.deref.ensures.value at b.within in
    rw (c.deref-3.ensures.value, ← c.self.view_is) (near a.scale a.entries.items a.ends.items c.self.invariant.slots c.args.key c.bounds-start.result.0 c.bounds-start.result.1 start end b.order within)
