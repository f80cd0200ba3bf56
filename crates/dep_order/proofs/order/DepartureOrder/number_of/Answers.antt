use Rattle.dep_order.proofs.Words.{◌≡◌, ◌∙◌, arith, false, is_of_call, nat_tests, true}
use Rattle.dep_order.proofs.InsideLemmas.{number-gone, number-none, number-other, number-there}
use Rattle.dep_order.proofs.order.DepartureOrder.number_of.Goals.{else-eq-via-then-eq+else-eq-2, else-eq-via-else-eq}
use Rattle.dep_order.proofs.order.DepartureOrder.number_of.Goals as goal

pub returns-in_err-number-clause-is : goal.returns-in_err-number-clause-is
returns-in_err-number-clause-is c = rw (← c.self.view_is) (c.from_residual.ensures ∙ number-none c.self.inside c.self.invariant c.args.t c.args.l c.in_err-number.ensures)

pub returns-in_err-departure-clause-is : goal.returns-in_err-departure-clause-is
returns-in_err-departure-clause-is c =
    rw (← c.self.view_is) (c.from_residual-in_err-departure.ensures ∙ number-gone c.self.inside c.self.invariant c.args.t c.args.l c.in_ok-number.number c.in_ok-number.ensures c.in_err-departure.ensures)

pub returns-then-eq-2-clause-is : goal.returns-then-eq-2-clause-is
returns-then-eq-2-clause-is c =
    let d = c.in_ok-departure.departure in
    let own : is_of_call c.args.t c.args.l d ≡ true = grind (arith, nat_tests, c.eq.ensures, c.if-eq.true, c.eq-then-eq.ensures, c.if-eq-2.true) in
    rw (← c.self.view_is) (number-there c.self.inside c.self.invariant c.args.t c.args.l c.in_ok-number.number d c.in_ok-departure.ensures own)

pub returns-else-eq-clause-is : goal.returns-else-eq-clause-is
returns-else-eq-clause-is c =
    let d = c.in_ok-departure.departure in
    let other : is_of_call c.args.t c.args.l d ≡ false = elim c.else-eq.branch [
      | else-eq-via-then-eq+else-eq-2 w ↦ grind (arith, nat_tests, w.eq-then-eq.ensures, w.if-eq-2.false)
      | else-eq-via-else-eq w ↦ grind (arith, nat_tests, c.eq.ensures, w.if-eq.false)
    ] in
    rw (← c.self.view_is) (number-other c.self.inside c.self.invariant c.args.t c.args.l c.in_ok-number.number d c.in_ok-number.ensures c.in_ok-departure.ensures other)
