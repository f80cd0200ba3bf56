use Rattle.dep_order.proofs.Words.{◌≡◌, Some, sym, subst, Departure, IsNewKey, held}
use Rattle.dep_order.specs.Ordered.{Ordered}
use Rattle.dep_order.proofs.ChangeLemmas.{fewer-calls}
use Rattle.dep_order.proofs.InsideLemmas.{held-within}
use Rattle.dep_order.proofs.PlaceLemmas.{take-none, take-order, without-none, without-one}
use Rattle.dep_order.proofs.StoredLemmas.{distinct-keys}
use Rattle.dep_order.proofs.order.DepartureOrder.take.Goals as goal

pub returns-in-Some-clause-departures : goal.returns-in-Some-clause-departures
returns-in-Some-clause-departures c =
    let es = c.self.inside.numbered.entries in
    let calls = c.numbers_are_lawful.ensures.calls in
    let n = c.in-Some.number in
    let k = c.args.key.now in
    let d = subst (λ (o : Ordered). (d : Departure) × (held o.entries n ≡ Some d) × (d.key ≡ k)) (sym c.self.view_is) c.in-Some.ensures.some in
    let low = held-within es n d.0 d.1 in
    rw (← c.self.view_is, c.take.ensures.entries) (take-order es (distinct-keys es calls) n d.0 low d.1 k d.2 (distinct-keys _ (fewer-calls es n low calls)))

pub returns-in-Some-clause-entries : goal.returns-in-Some-clause-entries
returns-in-Some-clause-entries c =
    let es = c.self.inside.numbered.entries in
    let n = c.in-Some.number in
    let k = c.args.key.now in
    let d = subst (λ (o : Ordered). (d : Departure) × (held o.entries n ≡ Some d) × (d.key ≡ k)) (sym c.self.view_is) c.in-Some.ensures.some in
    rw (← c.self.view_is, c.take.ensures.entries) (sym (without-one es k n d.0 (distinct-keys es c.numbers_are_lawful.ensures.calls) d.1 d.2))

pub returns-in_default-clause-departures : goal.returns-in_default-clause-departures
returns-in_default-clause-departures c =
    let es = c.self.inside.numbered.entries in
    let k = c.args.key.now in
    let new = subst (λ (o : Ordered). IsNewKey o.entries k) (sym c.self.view_is) c.in_default.ensures.none in
    rw (← c.self.view_is) (sym (take-none es (distinct-keys es c.numbers_are_lawful.ensures.calls) k new))

pub returns-in_default-clause-entries : goal.returns-in_default-clause-entries
returns-in_default-clause-entries c =
    let k = c.args.key.now in
    let new = subst (λ (o : Ordered). IsNewKey o.entries k) (sym c.self.view_is) c.in_default.ensures.none in
    rw (← c.self.view_is) (sym (without-none c.self.inside.numbered.entries k new))
