use Rattle.dep_order.proofs.Words.{◌∙◌, sym}
use Rattle.mt_base.proofs.KeyLemmas.{same-is}
use Rattle.dep_order.proofs.InsideLemmas.{key-other}
use Rattle.dep_order.proofs.order.DepartureOrder.number_with.Goals as goal

pub returns-then-is_same-clause-some : goal.returns-then-is_same-clause-some
returns-then-is_same-clause-some c =
    let d = c.in_ok-departure.departure in
    rw (← c.self.view_is) (d, sym c.in_ok-departure.ensures, same-is d.key c.args.key.now (sym c.is_same.ensures ∙ c.if-is_same.true))

pub returns-else-is_same-clause-none : goal.returns-else-is_same-clause-none
returns-else-is_same-clause-none c =
    let d = c.in_ok-departure.departure in
    rw (← c.self.view_is) (key-other c.self.inside c.self.invariant c.args.key.now c.in_ok-number.number d c.in_ok-number.ensures c.in_ok-departure.ensures (sym c.is_same.ensures ∙ c.if-is_same.false))
