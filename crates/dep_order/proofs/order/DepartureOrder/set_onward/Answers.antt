use Rattle.dep_order.proofs.Words.{◌≡◌, ◌<◌, ℕ, Some, sym, ap, subst, arith, Departure, Onward, held, number_or_past}
use Rattle.dep_order.specs.Ordered.{Ordered}
use Rattle.dep_order.proofs.NumberLemmas.{number-within, one-number, own-call}
use Rattle.dep_order.proofs.OnwardLemmas.{told-one}
use Rattle.dep_order.proofs.order.DepartureOrder.set_onward.Goals as goal

pub returns-clause-onwards : goal.returns-clause-onwards
returns-clause-onwards c =
    let a = c.self.inside in
    let law = c.numbers_are_lawful.ensures in
    let d = c.args.departure.now in
    let there = subst (λ (o : Ordered). held o.entries c.args.number ≡ Some d) (sym c.self.view_is) c.requires in
    let is = one-number a.numbered.entries d.key.train d.key.label c.args.number d law.calls there (own-call d) in
    let next = subst (λ (o : Ordered). c.number_or_past-next.result ≡ number_or_past o.entries d.key.train c.args.next) (sym c.self.view_is) c.number_or_past-next.ensures.is in
    let made : ℕ → Onward = λ m. record { arrival = c.args.arrival; to = c.args.to; next = m } in
    rw (← c.self.view_is, c.set_onward.ensures.onwards) (told-one a.numbered.entries a.numbered.onwards law.calls d.key.train d.key.label (λ o. made (number_or_past a.numbered.entries d.key.train c.args.next)) c.args.number _ is (omega (arith, number-within a.numbered.entries d.key.train d.key.label c.args.number is, law.onwards)) (ap made next))
