use Rattle.waiting_rules.proofs.Words.{subst, HasSome}
use Rattle.std.proofs.lemmas.List.{take_all}
use Rattle.waiting_rules.proofs.BoundLemmas.{bounds-all}
use Rattle.waiting_rules.proofs.bounds.by_trains.Goals as goal

pub returns : goal.returns
returns c =
    let rules = c.args.rules.now in
    let places = c.args.first_rules.now in
    let bounds = c.loop-rule.bounds in
    bounds-all rules places bounds c.requires.first.places
    (subst (λ some. HasSome rules places some bounds) (take_all c.loop-rule.rule-index rules c.loop-rule-test.false) c.loop-rule.invariant)
