use Rattle.dep_order.proofs.Words.{◌≡◌, ◌∙◌, Some, refl, sym, subst, Departure, IsNewKey, departures_in_order, held}
use Rattle.mt_base.specs.Order.{is_same}
use Rattle.mt_base.proofs.KeyLemmas.{same-itself}
use Rattle.dep_order.specs.Ordered.{Ordered}
use Rattle.dep_order.proofs.ChangeLemmas.{moved-calls, with_time-is}
use Rattle.dep_order.proofs.InsideLemmas.{held-within}
use Rattle.dep_order.proofs.OneOrder.{any-in}
use Rattle.dep_order.proofs.PlaceLemmas.{any-other, listed, move-none, move-order, moved-none, moved-one}
use Rattle.dep_order.proofs.StoredLemmas.{distinct-keys}
use Rattle.dep_order.proofs.order.DepartureOrder.move_to.Goals as goal

pub returns-in-Some-clause-there : goal.returns-in-Some-clause-there
returns-in-Some-clause-there c =
    let es = c.self.inside.numbered.entries in
    let n = c.in-Some.number in
    let k = c.args.key.now in
    let d = subst (λ (o : Ordered). (d : Departure) × (held o.entries n ≡ Some d) × (d.key ≡ k)) (sym c.self.view_is) c.in-Some.ensures.some in
    rw (← c.self.view_is) (sym (any-in (λ d. is_same d.key k) (departures_in_order es) d.0 (listed es n d.0 d.1) (rw d.2 (same-itself k))))

pub returns-in-Some-clause-departures : goal.returns-in-Some-clause-departures
returns-in-Some-clause-departures c =
    let es = c.self.inside.numbered.entries in
    let calls = c.numbers_are_lawful.ensures.calls in
    let n = c.in-Some.number in
    let k = c.args.key.now in
    let time = c.args.time in
    let d = subst (λ (o : Ordered). (d : Departure) × (held o.entries n ≡ Some d) × (d.key ≡ k)) (sym c.self.view_is) c.in-Some.ensures.some in
    let low = held-within es n d.0 d.1 in
    let is = c.move_to.ensures.entries ∙ with_time-is es n time d.0 d.0 d.1 refl in
    rw (← c.self.view_is, is) (move-order es (distinct-keys es calls) n d.0 low d.1 k time d.2 (distinct-keys _ (moved-calls es n d.0 time low d.1 calls)))

pub returns-in-Some-clause-entries : goal.returns-in-Some-clause-entries
returns-in-Some-clause-entries c =
    let es = c.self.inside.numbered.entries in
    let n = c.in-Some.number in
    let k = c.args.key.now in
    let time = c.args.time in
    let d = subst (λ (o : Ordered). (d : Departure) × (held o.entries n ≡ Some d) × (d.key ≡ k)) (sym c.self.view_is) c.in-Some.ensures.some in
    let is = c.move_to.ensures.entries ∙ with_time-is es n time d.0 d.0 d.1 refl in
    rw (← c.self.view_is, is) (sym (moved-one es k time n d.0 (distinct-keys es c.numbers_are_lawful.ensures.calls) d.1 d.2))

pub returns-in-None-clause-there : goal.returns-in-None-clause-there
returns-in-None-clause-there c =
    let es = c.self.inside.numbered.entries in
    let k = c.args.key.now in
    let new = subst (λ (o : Ordered). IsNewKey o.entries k) (sym c.self.view_is) c.in-None.ensures.none in
    rw (← c.self.view_is) (sym (any-other es (distinct-keys es c.numbers_are_lawful.ensures.calls) k new))

pub returns-in-None-clause-departures : goal.returns-in-None-clause-departures
returns-in-None-clause-departures c =
    let es = c.self.inside.numbered.entries in
    let k = c.args.key.now in
    let new = subst (λ (o : Ordered). IsNewKey o.entries k) (sym c.self.view_is) c.in-None.ensures.none in
    rw (← c.self.view_is) (sym (move-none es (distinct-keys es c.numbers_are_lawful.ensures.calls) k new c.args.time))

pub returns-in-None-clause-entries : goal.returns-in-None-clause-entries
returns-in-None-clause-entries c =
    let k = c.args.key.now in
    let new = subst (λ (o : Ordered). IsNewKey o.entries k) (sym c.self.view_is) c.in-None.ensures.none in
    rw (← c.self.view_is) (sym (moved-none c.self.inside.numbered.entries k c.args.time new))
