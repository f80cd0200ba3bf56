use Rattle.dep_order.proofs.Words.{arith, ap, Cold, Hot, bucket_count, bucket_of, entries_of, held, leaves_after, leaves_before, Some}
use Rattle.dep_order.proofs.ChangeLemmas.{removed-as, same-slots}
use Rattle.dep_order.proofs.StoredLemmas.{link-end, read, some-of, within}
use Rattle.dep_order.proofs.lists.Lists.remove.Goals as goal

pub hot-hot-requires : goal.hot-hot-requires
hot-hot-requires c =
    let l = c.args.self.now in
    let d = some-of (held (entries_of l) c.args.number) c.requires.there in
    within l c.args.number d.0 d.1

pub cold-before-requires : goal.cold-before-requires
cold-before-requires c =
    let l = c.args.self.now in
    let d = some-of (held (entries_of l) c.args.number) c.requires.there in
    within l c.args.number d.0 d.1

pub set_before-requires : goal.set_before-requires
set_before-requires c =
    let l = c.args.self.now in
    let d = some-of (held (entries_of l) c.args.number) c.requires.there in
    omega (arith, within l c.args.number d.0 d.1, same-slots l c.join.new.self c.join.ensures.entries)

pub join-requires : goal.join-requires
join-requires c =
    let l = c.args.self.now in
    let d = some-of (held (entries_of l) c.args.number) c.requires.there in
    let x = read l c.args.number d.0 c.requires.kept d.1 in
    let by = bucket_of (bucket_count l) in
    record {
      few = c.requires.kept.few;
      bucket = c.bucket_of-bucket.ensures.within;
      before = rw (ap (λ (a : Cold). a.before) c.cold-before.ensures) (link-end leaves_after by l (by d.0) _ (Some d.0) x.previous);
      after = rw (ap (λ (h : Hot). h.after) c.hot-hot.ensures) (link-end leaves_before by l (by d.0) _ (Some d.0) x.next);
    }

pub returns : goal.returns
returns c =
    let l = c.args.self.now in
    let d = some-of (held (entries_of l) c.args.number) c.requires.there in
    let x = removed-as l c.join.new.self c.set_before.new.self c.bucket_of-bucket.result c.args.number c.hot-hot.result c.cold-before.result d.0 c.requires.kept d.1 c.hot-hot.ensures c.cold-before.ensures c.bucket_of-bucket.ensures.is c.join.ensures c.set_before.ensures in
    record { kept = x.0; entries = x.1; onwards = x.2 }
