use Rattle.dep_order.proofs.Words.{arith}
use Rattle.dep_order.proofs.AheadLemmas.{first-here, none-here}
use Rattle.dep_order.proofs.StoredLemmas.{bucket}
use Rattle.dep_order.proofs.lists.Lists.first_of_buckets.Goals as goal

pub returns-then-number : goal.returns-then-number
returns-then-number c =
    let l = c.args.self.now in
    let k = c.requires.kept in
    let b = c.loop-bucket.bucket in
    let x = c.index.result.now in
    first-here l k c.args.from b x (bucket l b x k (omega arith) c.index.ensures) c.if-number.true (omega arith) c.loop-bucket.invariant

pub loop-bucket-preserved : goal.loop-bucket-preserved
loop-bucket-preserved c =
    let l = c.args.self.now in
    let k = c.requires.kept in
    let b = c.loop-bucket.bucket in
    let x = c.index.result.now in
    none-here l k c.args.from b x (bucket l b x k (omega arith) c.index.ensures) c.if-number.false c.loop-bucket.invariant
