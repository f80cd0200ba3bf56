use Rattle.dep_order.proofs.Words.{arith, entries_of}
use Rattle.dep_order.proofs.ChangeLemmas.{free-held, inserted, put-ends, same-slots, with_slots}
use Rattle.dep_order.proofs.StoredLemmas.{new-key, same-end}
use Rattle.dep_order.proofs.lists.Lists.insert.Goals as goal

pub gap-gap-requires : goal.gap-gap-requires
gap-gap-requires c = record { kept = c.requires.kept; bucket = c.bucket_of-bucket.ensures.within; new_key = new-key (entries_of c.args.self.now) c.args.departure.key c.requires.new_call }

pub put-requires : goal.put-requires
put-requires c = (free-held c.args.self.now c.args.number c.requires.free).0

pub returns : goal.returns
returns c =
    let g = c.gap-gap in
    let x = inserted c.args.self.now c.join.new.self c.join-2.new.self c.put.new.self c.bucket_of-bucket.result c.args.number g.result.before g.result.after c.args.departure c.requires.departs c.put.ensures c.requires.kept c.requires.free c.requires.new_call c.bucket_of-bucket.ensures.is g.ensures.after g.ensures.before c.join.ensures c.join-2.ensures in
    record { kept = x.0; entries = x.1; onwards = x.2 }

pub join-requires : goal.join-requires
join-requires c =
    let g = c.gap-gap in
    let x = put-ends c.args.self.now c.put.new.self c.bucket_of-bucket.result c.args.number g.result.before g.result.after c.args.departure c.requires.departs c.put.ensures c.requires.kept c.requires.free g.ensures.after g.ensures.before in
    record { few = x.0; bucket = c.bucket_of-bucket.ensures.within; before = x.1; after = x.2 }

pub join-requires-2 : goal.join-requires-2
join-requires-2 c =
    let g = c.gap-gap in
    let j = c.join.ensures in
    let r = with_slots c.args.self.now c.put.new.self in
    let x = put-ends c.args.self.now c.put.new.self c.bucket_of-bucket.result c.args.number g.result.before g.result.after c.args.departure c.requires.departs c.put.ensures c.requires.kept c.requires.free g.ensures.after g.ensures.before in
    record {
      few = rw (same-slots r c.join.new.self j.entries) x.0;
      bucket = omega (arith, c.bucket_of-bucket.ensures.within, j.buckets);
      before = same-end r c.join.new.self c.args.number j.entries x.2;
      after = same-end r c.join.new.self g.result.after j.entries x.3;
    }
