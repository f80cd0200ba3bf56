use Rattle.waiting_rules.proofs.Words.{min, unwrap_or, ap, ◌∙◌, arith, scope_cmp}
use Rattle.waiting_rules.proofs.Ranges.{sorted-range}
use Rattle.waiting_rules.proofs.parts.earlier.Goals as goal

pub returns-in-Some : goal.returns-in-Some
returns-in-Some c = λ connecting sorted part.
    c.min.ensures ∙ ap (λ o. min c.args.place (unwrap_or o c.args.place))
    (c.in-Some.ensures connecting (sorted-range scope_cmp c.args.rules.now c.args.part.now.start c.args.part.now.end sorted) part.trains ∙ part.all c.args.feeder.now)

pub returns-in-None : goal.returns-in-None
returns-in-None c = λ connecting sorted part.
    let e = ap (λ o. min c.args.place (unwrap_or o c.args.place))
    (c.in-None.ensures connecting (sorted-range scope_cmp c.args.rules.now c.args.part.now.start c.args.part.now.end sorted) part.trains ∙ part.all c.args.feeder.now) in
    omega arith
