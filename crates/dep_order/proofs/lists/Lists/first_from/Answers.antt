use Rattle.dep_order.proofs.Words.{◌≡◌, Some, true, nat_le, Departure, held, bucket_count, bucket_of, entries_of, leaves_before}
use Rattle.dep_order.proofs.AheadLemmas.{ahead-time, further-at, late-is, walk-none, walk-passes, walk-within}
use Rattle.dep_order.proofs.OrderLemmas.{before-strict}
use Rattle.dep_order.proofs.ReachLemmas.{reach-first}
use Rattle.dep_order.proofs.StoredLemmas.{bucket}
use Rattle.dep_order.proofs.lists.Lists.first_from.Goals.{else-walk-test, then-walk-test+then-le}
use Rattle.dep_order.proofs.lists.Lists.first_from.Goals as goal

pub walk-init : goal.walk-init
walk-init c =
    let l = c.args.self.now in
    let b = c.bucket_of-bucket.result in
    let x = c.index.result.now in
    reach-first leaves_before before-strict (bucket_of (bucket_count l)) (entries_of l) b (λ d. nat_le c.args.time d.time) x.first (bucket l b x c.requires c.bucket_of-bucket.ensures.within c.index.ensures).first

pub hot-hot-requires : goal.hot-hot-requires
hot-hot-requires c = walk-within c.args.self.now c.requires c.bucket_of-bucket.result (λ d. nat_le c.args.time d.time) c.walk.number c.walk.invariant c.walk-test.true

pub walk-smaller : goal.walk-smaller
walk-smaller c =
    let time = rw c.hot-hot.ensures at c.le.ensures in
    (further-at c.args.self.now c.requires c.bucket_of-bucket.result (λ d. nat_le c.args.time d.time) c.walk.number c.walk.invariant c.hot-hot.result c.hot-hot.ensures c.walk-test.true (late-is c.args.time _ c.le.result _ time c.if-le.false)).1

pub walk-preserved : goal.walk-preserved
walk-preserved c =
    let time = rw c.hot-hot.ensures at c.le.ensures in
    (further-at c.args.self.now c.requires c.bucket_of-bucket.result (λ d. nat_le c.args.time d.time) c.walk.number c.walk.invariant c.hot-hot.result c.hot-hot.ensures c.walk-test.true (late-is c.args.time _ c.le.result _ time c.if-le.false)).0

pub returns : goal.returns
returns c =
    let l = c.args.self.now in
    let passes : (d : Departure) → held (entries_of l) c.walk.number ≡ Some d → nat_le c.args.time d.time ≡ true = elim c.walk-test.branch [
      | then-walk-test+then-le w ↦ (
          let time = rw w.hot-hot.ensures at w.le.ensures in
          walk-passes l c.requires c.bucket_of-bucket.result (λ d. nat_le c.args.time d.time) c.walk.number c.walk.invariant (late-is c.args.time _ w.le.result _ time w.if-le.true))
      | else-walk-test w ↦ walk-none l c.requires c.bucket_of-bucket.result (λ d. nat_le c.args.time d.time) c.walk.number c.walk.invariant w.walk-test.false
    ] in
    c.first_ahead.ensures (λ d. nat_le c.args.time d.time) (ahead-time l c.requires c.args.time c.bucket_of-bucket.result c.walk.number c.bucket_of-bucket.ensures.is c.walk.invariant passes)
