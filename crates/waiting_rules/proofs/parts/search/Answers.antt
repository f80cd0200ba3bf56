use Rattle.waiting_rules.proofs.Words.{rules, option_cmp, nat_cmp}
use Rattle.std.proofs.lemmas.Fn.{always_returns_same}
use Rattle.waiting_rules.proofs.PartLemmas.{place-found, place-missed, feeders-rise}
use Rattle.waiting_rules.proofs.parts.search.Goals as goal

pub returns-in-Ok : goal.returns-in-Ok
returns-in-Ok c = λ connecting sorted same.
    let feeder = c.args.feeder.now in
    let d = c.index-rules-at.result in
    place-found c.args.rules.now connecting feeder c.in-Ok.at d sorted same c.in-Ok.ensures.bound
    (c.in-Ok.ensures.position (λ e. option_cmp nat_cmp e.0.feeder feeder) (always_returns_same _ _ _ (λ a r f called. search rules)) d)

pub returns-in-Err : goal.returns-in-Err
returns-in-Err c = λ connecting sorted same.
    let feeder = c.args.feeder.now in
    place-missed c.args.rules.now connecting feeder c.in-Err.field-0 same
    (c.in-Err.ensures.position (λ e. option_cmp nat_cmp e.0.feeder feeder) (always_returns_same _ _ _ (λ a r f called. search rules)) (feeders-rise c.args.rules.now connecting feeder sorted same))
