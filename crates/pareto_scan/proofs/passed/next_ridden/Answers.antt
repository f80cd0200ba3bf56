use Rattle.conn_scan.proofs.Words.{◌≡◌, ◌-◌, true, false, [], sym, ◌∙◌, ap, subst, arith, All, All-tail}
use Rattle.pareto_scan.specs.Passed.{from_ridden, is_passed, HasRows}
use Rattle.pareto_scan.specs.Ridden.{known}
use Rattle.pareto_scan.proofs.PassedOver.{from-here, from-later, from-none, is-passed}
use Rattle.pareto_scan.proofs.passed.next_ridden.Goals as goal

pub returns-then-bound-eq0-clause-none : goal.returns-then-bound-eq0-clause-none
returns-then-bound-eq0-clause-none c =
    let s = known c.args.levels.now c.args.riders.now in
    subst (λ top. from_ridden top s c.args.departures.now ≡ []) (sym c.if-bound-eq0.true) (from-none s c.args.departures.now)

pub returns-then-not-is_quiet-clause-some : goal.returns-then-not-is_quiet-clause-some
returns-then-not-is_quiet-clause-some c =
    let s = known c.args.levels.now c.args.riders.now in
    let b = c.args.bound.now in
    let ridden : is_passed b.top s c.in-Some.d ≡ false = is-passed (b.top - 1) c.in-Some.d s b c.open_after-times.result.now c.is_quiet.result
    (omega arith) c.is_quiet.ensures.small c.requires.bound.end c.open_after-times.ensures c.is_quiet.ensures.quiet ∙ c.if-not-is_quiet.true in
    c.loop-d.invariant.rest ∙ ap (from_ridden b.top s) c.in-Some.ensures.steps ∙ from-here b.top s c.in-Some.d c.next.new.self ridden

pub loop-d-preserved : goal.loop-d-preserved
loop-d-preserved c =
    let s = known c.args.levels.now c.args.riders.now in
    let b = c.args.bound.now in
    let passed : is_passed b.top s c.in-Some.d ≡ true = is-passed (b.top - 1) c.in-Some.d s b c.open_after-times.result.now c.is_quiet.result
    (omega arith) c.is_quiet.ensures.small c.requires.bound.end c.open_after-times.ensures c.is_quiet.ensures.quiet ∙ c.if-not-is_quiet.false in
    record {
      rest = c.loop-d.invariant.rest ∙ ap (from_ridden b.top s) c.in-Some.ensures.steps ∙ from-later b.top s c.in-Some.d c.next.new.self passed;
      rows = All-tail (HasRows s) c.in-Some.d c.next.new.self (subst (All (HasRows s)) c.in-Some.ensures.steps c.loop-d.invariant.rows);
    }
