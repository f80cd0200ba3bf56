use Rattle.waiting_rules.proofs.Words.{rules, option_cmp, nat_cmp}
use Rattle.std.proofs.lemmas.Fn.{always_returns_same}
use Rattle.waiting_rules.proofs.RouteLemmas.{bounds-found, bounds-missed, stops-rise}
use Rattle.waiting_rules.proofs.routes.bounds_at.Goals as goal

pub returns-in-Ok : goal.returns-in-Ok
returns-in-Ok c = λ route sorted same.
    let stop = c.args.stop in
    let d = c.index-row-at.result in
    bounds-found c.args.row.now route stop c.in-Ok.at d sorted same c.in-Ok.ensures.bound
    (c.in-Ok.ensures.position (λ b. option_cmp nat_cmp b.0.stop stop) (always_returns_same _ _ _ (λ a r f called. search rules)) d)

pub returns-in-Err : goal.returns-in-Err
returns-in-Err c = λ route sorted same.
    let stop = c.args.stop in
    bounds-missed c.args.row.now route stop c.in-Err.field-0 same
    (c.in-Err.ensures.position (λ b. option_cmp nat_cmp b.0.stop stop) (always_returns_same _ _ _ (λ a r f called. search rules)) (stops-rise c.args.row.now route stop sorted same))
