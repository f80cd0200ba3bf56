use Rattle.dep_order.proofs.Words.{◌≡◌, ◌<◌, Some, None, sym, ap, subst, arith, length, Onward, number_of}
use Rattle.dep_order.specs.Ordered.{Ordered}
use Rattle.dep_order.proofs.OnwardLemmas.{told-none, told-one}
use Rattle.dep_order.proofs.order.DepartureOrder.set_arrival.Goals as goal

pub returns-in-Some-clause-onwards : goal.returns-in-Some-clause-onwards
returns-in-Some-clause-onwards c =
    let a = c.self.inside in
    let law = c.numbers_are_lawful.ensures in
    let n = c.in-Some.number in
    let is = subst (λ (o : Ordered). number_of o.entries c.args.t c.args.l ≡ Some n) (sym c.self.view_is) (sym c.in-Some.ensures.is) in
    let low = subst (λ (o : Ordered). n < length o.entries) (sym c.self.view_is) c.in-Some.ensures.within in
    let f : Onward → Onward = λ o. record o { arrival = c.args.arrival } in
    rw (← c.self.view_is, c.set_onward.ensures.onwards) (told-one a.numbered.entries a.numbered.onwards law.calls c.args.t c.args.l f n _ is (omega (arith, low, law.onwards)) (ap f c.onward-onward.ensures))

pub returns-in_default-clause-onwards : goal.returns-in_default-clause-onwards
returns-in_default-clause-onwards c =
    let a = c.self.inside in
    let f : Onward → Onward = λ o. record o { arrival = c.args.arrival } in
    let none = subst (λ (o : Ordered). number_of o.entries c.args.t c.args.l ≡ None) (sym c.self.view_is) (sym c.in_default.ensures.is) in
    rw (← c.self.view_is) (told-none a.numbered.entries a.numbered.onwards c.numbers_are_lawful.ensures.calls c.args.t c.args.l f none)
