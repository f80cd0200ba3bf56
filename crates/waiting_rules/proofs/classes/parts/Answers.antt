use Rattle.waiting_rules.proofs.Words.{Option, Some, None, ℕ, trains}
use Rattle.waiting_rules.proofs.BoundLemmas.{bound-by, parts-of}
use Rattle.waiting_rules.proofs.classes.parts.Goals as goal

pub returns-clause-parts : goal.returns-clause-parts
returns-clause-parts c = λ rules places h.
    let all = c.args.bounds.now in
    let route : Option ℕ = Some c.args.route in
    let every : Option ℕ = None in
    let stop : Option ℕ = Some c.args.stop in
    let station : Option ℕ = Some c.args.station in
    let own = c.of-own in
    let any = c.of-any in
    parts-of rules places (trains route stop) (trains route station) (trains route None) (trains every stop) (trains every station) (trains every None) c.bounds_at-stop_own.result c.bounds_at-station_own.result c.bounds_at-all_own.result c.bounds_at-stop_any.result c.bounds_at-station_any.result c.bounds_at-all_any.result
    (bound-by rules places all own.result.now (trains route stop) _ h (c.bounds_at-stop_own.ensures route own.ensures.order own.ensures.route) (own.ensures.all stop))
    (bound-by rules places all own.result.now (trains route station) _ h (c.bounds_at-station_own.ensures route own.ensures.order own.ensures.route) (own.ensures.all station))
    (bound-by rules places all own.result.now (trains route None) _ h (c.bounds_at-all_own.ensures route own.ensures.order own.ensures.route) (own.ensures.all None))
    (bound-by rules places all any.result.now (trains every stop) _ h (c.bounds_at-stop_any.ensures every any.ensures.order any.ensures.route) (any.ensures.all stop))
    (bound-by rules places all any.result.now (trains every station) _ h (c.bounds_at-station_any.ensures every any.ensures.order any.ensures.route) (any.ensures.all station))
    (bound-by rules places all any.result.now (trains every None) _ h (c.bounds_at-all_any.ensures every any.ensures.order any.ensures.route) (any.ensures.all None))
