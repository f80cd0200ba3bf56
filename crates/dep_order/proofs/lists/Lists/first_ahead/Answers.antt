use Rattle.dep_order.proofs.AheadLemmas.{ahead-here, ahead-later}
use Rattle.dep_order.proofs.lists.Lists.first_ahead.Goals as goal

pub returns-then-number-eq-NOBODY : goal.returns-then-number-eq-NOBODY
returns-then-number-eq-NOBODY c = λ passes w.
    ahead-later c.args.self.now c.requires.kept c.args.bucket passes c.args.number c.first_of_buckets.result.bucket c.first_of_buckets.result.number c.if-number-eq-NOBODY.true w c.first_of_buckets.ensures

pub returns-else-number-eq-NOBODY : goal.returns-else-number-eq-NOBODY
returns-else-number-eq-NOBODY c = λ passes w. ahead-here c.args.self.now c.requires.kept c.args.bucket passes c.args.number c.if-number-eq-NOBODY.false w
