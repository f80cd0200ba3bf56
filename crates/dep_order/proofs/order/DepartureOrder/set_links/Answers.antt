use Rattle.dep_order.proofs.Words.{◌≡◌, ◌<◌, ◌∙◌, ℕ, Some, None, sym, ap, subst, arith, length, Onward, number_of, number_or_past}
use Rattle.dep_order.specs.Ordered.{Ordered}
use Rattle.dep_order.proofs.OnwardLemmas.{told-none, told-one}
use Rattle.dep_order.proofs.order.DepartureOrder.set_links.Goals as goal

pub returns-in-Some-clause-onwards : goal.returns-in-Some-clause-onwards
returns-in-Some-clause-onwards c =
    let a = c.self.inside in
    let law = c.numbers_are_lawful.ensures in
    let n = c.in-Some.number in
    let is = subst (λ (o : Ordered). number_of o.entries c.args.t c.args.l ≡ Some n) (sym c.self.view_is) (sym c.in-Some.ensures.is) in
    let low = subst (λ (o : Ordered). n < length o.entries) (sym c.self.view_is) c.in-Some.ensures.within in
    let f : Onward → Onward = λ o. record o { to = c.args.to; next = number_or_past a.numbered.entries c.args.t c.args.next } in
    let next = subst (λ (o : Ordered). c.number_or_past-next.result ≡ number_or_past o.entries c.args.t c.args.next) (sym c.self.view_is) c.number_or_past-next.ensures.is in
    let made : ℕ → Onward = λ m. record { arrival = c.onward-onward.result.arrival; to = c.args.to; next = m } in
    rw (← c.self.view_is, c.set_onward.ensures.onwards) (told-one a.numbered.entries a.numbered.onwards law.calls c.args.t c.args.l f n _ is (omega (arith, low, law.onwards)) (ap made next ∙ ap f c.onward-onward.ensures))

pub returns-in_default-clause-onwards : goal.returns-in_default-clause-onwards
returns-in_default-clause-onwards c =
    let a = c.self.inside in
    let f : Onward → Onward = λ o. record o { to = c.args.to; next = number_or_past a.numbered.entries c.args.t c.args.next } in
    let none = subst (λ (o : Ordered). number_of o.entries c.args.t c.args.l ≡ None) (sym c.self.view_is) (sym c.in_default.ensures.is) in
    rw (← c.self.view_is) (told-none a.numbered.entries a.numbered.onwards c.numbers_are_lawful.ensures.calls c.args.t c.args.l f none)
