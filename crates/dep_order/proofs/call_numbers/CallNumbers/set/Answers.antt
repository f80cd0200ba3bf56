use Rattle.dep_order.proofs.Words.{◌<◌, inl, inr, sym, ◌∙◌, ap, subst, arith, get_or, length}
use Rattle.dep_order.specs.CallNumbering.{StoredNumbers, labels_of, number_at}
use Rattle.dep_order.proofs.CallLemmas.{has-place, place-slot, set-law, set-seen}
use Rattle.dep_order.proofs.LinkLemmas.{some-or-none}
use Rattle.dep_order.proofs.call_numbers.CallNumbers.set.Goals as goal

pub unreachable-requires : goal.unreachable-requires
unreachable-requires c =
    let low = subst (λ (k : StoredNumbers). c.args.l < get_or (labels_of k) c.args.t 0) (sym c.self.view_is) c.requires in
    elim (some-or-none c.slot.result) [
      | inl f ↦ c.in_default.not-Some f.0 f.1
      | inr gone ↦ place-slot c.self.inside c.args.t c.args.l low (sym c.slot.ensures ∙ gone)
    ]

pub returns-clause-stored : goal.returns-clause-stored
returns-clause-stored c =
    let a = c.self.inside in
    let i = c.in-Some.slot in
    let is = sym c.in-Some.ensures in
    let once = c.numbers_are_lawful.ensures.once in
    let low : i < length a.numbers.items = omega (arith, c.self.invariant.all, c.numbers_are_lawful.ensures.below c.args.t c.args.l i is) in
    rw (← c.self.view_is, set-seen a c.args.t c.args.l i c.args.number (is, low, λ u m e. once u m c.args.t c.args.l i e is))

pub returns-clause-number : goal.returns-clause-number
returns-clause-number c = λ u m.
    ap (λ (k : StoredNumbers). number_at k u m) (returns-clause-stored c)
    ∙ set-law c.args.self.now c.args.t c.args.l u m c.args.number (has-place c.args.self.now c.args.t c.args.l c.requires)
