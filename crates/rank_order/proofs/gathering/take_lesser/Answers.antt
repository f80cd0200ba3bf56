use Rattle.std.proofs.Common.{◌≡◌, ◌∷◌, ◌++◌, sym, ◌∙◌, subst}
use Rattle.std.proofs.lemmas.Bool.{both_ways}
use Rattle.rank_order.specs.InOrder.{in_order}
use Rattle.rank_order.specs.Marked.{Ascends}
use Rattle.rank_order.proofs.GatherLemmas.{ascends-rest, both-taken, first-taken, late-alone, late-taken, none-late}
use Rattle.rank_order.proofs.gathering.take_lesser.Goals as goal

pub returns-in_default-clause-none : goal.returns-in_default-clause-none
returns-in_default-clause-none c = none-late c.args.keys.now.items c.args.late.now c.take_least.result c.in_default.ensures.none c.take_least.ensures.none

pub returns-in_default-clause-taken : goal.returns-in_default-clause-taken
returns-in_default-clause-taken c =
    late-alone c.args.keys.now.items c.args.late.now c.take_least.new.self c.take_least.result c.in_default.ensures.none c.take_least.ensures.taken c.take_least.ensures.least

pub returns-then-are_after-clause-ascends : goal.returns-then-are_after-clause-ascends
returns-then-are_after-clause-ascends c = subst Ascends (sym c.drop_first.ensures.items) (ascends-rest c.args.keys.now.items c.requires.ascends)

pub returns-then-are_after-clause-taken : goal.returns-then-are_after-clause-taken
returns-then-are_after-clause-taken c =
    subst (λ ks. in_order (c.args.keys.now.items ++ c.args.late.now) ≡ c.in-Some.first ∷ in_order (ks ++ c.args.late.now)) (sym c.drop_first.ensures.items)
    (first-taken c.args.keys.now.items c.args.late.now c.in-Some.first c.requires.ascends c.in-Some.ensures.some (c.are_after.ensures.after c.if-are_after.true))

pub returns-then-is_before-clause-taken : goal.returns-then-is_before-clause-taken
returns-then-is_before-clause-taken c =
    late-taken c.args.keys.now.items c.args.late.now c.take_least-2.new.self c.in-Some.first c.in-Some-take_least.least c.requires.ascends c.in-Some.ensures.some (sym c.is_before.ensures ∙ c.if-is_before.true)
    c.in-Some-take_least.ensures.taken c.in-Some-take_least.ensures.least

pub returns-clause-ascends : goal.returns-clause-ascends
returns-clause-ascends c = subst Ascends (sym c.drop_first-2.ensures.items) (ascends-rest c.args.keys.now.items c.requires.ascends)

pub returns-clause-taken : goal.returns-clause-taken
returns-clause-taken c =
    subst (λ ks. in_order (c.args.keys.now.items ++ c.args.late.now) ≡ c.in-Some.first ∷ in_order (ks ++ c.take_least-2.new.self)) (sym c.drop_first-2.ensures.items)
    (both-taken c.args.keys.now.items c.args.late.now c.take_least-2.new.self c.in-Some.first c.in-Some-take_least.least c.requires.ascends c.in-Some.ensures.some (sym c.is_before.ensures ∙ c.if-is_before.false)
    (λ h. both_ways _ c.if-are_after.false (c.are_after.ensures.all h)) c.in-Some-take_least.ensures.taken c.in-Some-take_least.ensures.least)
