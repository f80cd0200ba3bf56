use Rattle.waiting_rules.proofs.Words.{[], ◌≡◌, ◌≤◌, length, get_or, arith, position_or_len, is_in, scope, None, Connecting, subst, min}
use Rattle.std.proofs.lemmas.List.{take_all}
use Rattle.waiting_rules.proofs.Firsts.{first-none}
use Rattle.waiting_rules.proofs.FitLemmas.{first-more}
use Rattle.waiting_rules.proofs.PlaceLemmas.{earlier-place}
use Rattle.waiting_rules.proofs.classes.first.Goals as goal

pub loop-part-init : goal.loop-part-init
loop-part-init c = λ rules trains h parts l. let e : length rules ≡ position_or_len (is_in [] c.args.feeder.now) rules = first-none rules in omega arith

pub loop-part-preserved : goal.loop-part-preserved
loop-part-preserved c = λ rules trains h parts l.
    let i = c.loop-part.part-index in
    let none : Connecting = record { route = None; stop = None } in
    let train = get_or trains i none in
    let feeder = c.args.feeder.now in
    let so_far = c.loop-part.invariant rules trains h parts l in
    let small : c.loop-part.first ≤ length rules = omega arith in
    let at = parts.each i none (record { start = 0; end = 0 }) (omega (arith, c.told-parts, c.loop-part-test.true)) in
    let e = earlier-place rules c.args.first_rules.now h.places (scope train feeder) c.loop-part.first c.earlier-first.result small (c.earlier-first.ensures train h.sorted at) in
    let more = first-more rules trains feeder i none (omega (arith, parts.count, c.told-parts, c.loop-part-test.true)) in
    omega arith

pub returns : goal.returns
returns c = λ rules trains h parts l.
    subst (λ some. c.loop-part.first ≡ min c.args.place (position_or_len (is_in some c.args.feeder.now) rules)) (take_all c.loop-part.part-index trains (omega (arith, parts.count, c.told-parts, c.loop-part-test.false))) (c.loop-part.invariant rules trains h parts l)
