use Rattle.dep_order.proofs.GapLemmas.{both-begin, empty-gap}
use Rattle.dep_order.proofs.StoredLemmas.{bucket}
use Rattle.dep_order.proofs.lists.Lists.gap.Goals as goal

pub returns-then-front : goal.returns-then-front
returns-then-front c =
    let l = c.args.self.now in
    let r = c.requires in
    let y = c.index-2.result.now in
    let x = empty-gap l c.args.bucket c.args.departure.now r.kept r.new_key y (bucket l c.args.bucket y r.kept r.bucket c.index-2.ensures) c.if-front.true in
    record { after = x.0; before = x.1 }

pub walk-requires-clause-between : goal.walk-requires-clause-between
walk-requires-clause-between c =
    let l = c.args.self.now in
    let r = c.requires in
    let x = c.index.result.now in
    let y = c.index-2.result.now in
    let all = both-begin l c.args.bucket c.args.departure.now r.kept r.new_key y x (bucket l c.args.bucket y r.kept r.bucket c.index-2.ensures) (bucket l c.args.bucket x r.kept r.bucket c.index.ensures) c.if-front.false in
    record { forward = all.0; front_is = c.if-front.false; backward = all.1; back_is = all.2 }
