use Rattle.dep_order.proofs.Words.{ap, bucket_count, bucket_of, Hot, leaves_before}
use Rattle.dep_order.proofs.AheadLemmas.{ahead-next, in-buckets}
use Rattle.dep_order.proofs.StepLemmas.{leaving-read}
use Rattle.dep_order.proofs.StoredLemmas.{within}
use Rattle.dep_order.proofs.lists.Lists.step.Goals as goal

pub hot-hot-requires : goal.hot-hot-requires
hot-hot-requires c =
    let d = c.requires.place c.requires.there in
    within c.args.self.now c.args.number d.0 d.1

pub first_ahead-requires : goal.first_ahead-requires
first_ahead-requires c =
    let d = c.requires.place c.requires.there in
    record { kept = c.requires.kept; bucket = rw (← d.2) (in-buckets c.args.self.now c.requires.kept d.0) }

pub returns : goal.returns
returns c =
    let l = c.args.self.now in
    let d = c.requires.place c.requires.there in
    let by = bucket_of (bucket_count l) in
    let ahead = rw (d.2, ← ap (λ (h : Hot). h.after) c.hot-hot.ensures) at (ahead-next l c.requires.kept c.args.number d.0 d.1) in
    record {
      departure = d.0;
      there = d.1;
      leaving_is = leaving-read l c.requires.kept c.args.number d.0 c.hot-hot.result (within l c.args.number d.0 d.1) d.1 c.hot-hot.ensures;
      ahead = c.first_ahead.ensures (leaves_before d.0) ahead;
    }
