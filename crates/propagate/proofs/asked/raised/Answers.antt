use Rattle.std.proofs.Common.{refl, sym, ◌∙◌}
use Rattle.propagate.proofs.OneKey.{of-one}
use Rattle.propagate.proofs.asked.raised.Goals as goal

pub returns-in-Some-clause-others : goal.returns-in-Some-clause-others
returns-in-Some-clause-others c = λ q apart.
    rw apart (sym (of-one c.args.entry c.args.k.now q apart c.in-Some.entry.asked (rw (c.in-Some.is, sym c.is_same.ensures ∙ c.if-is_same.true) refl)))
