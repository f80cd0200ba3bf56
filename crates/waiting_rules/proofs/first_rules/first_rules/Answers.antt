use Rattle.waiting_rules.proofs.Words.{arith, length, subst, sym, ◌<◌, ◌≡◌, ◌^◌, IfOk-weaker}
use Rattle.waiting_rules.specs.Indexed.{AreFirst}
use Rattle.waiting_rules.proofs.first_rules.first_rules.Goals as goal

pub returns-clause-first : goal.returns-clause-first
returns-clause-first c =
    IfOk-weaker _ _ _ (λ v same. subst (AreFirst c.args.rules.now) (sym same) (record { sorted = c.in_order.ensures.sorted; places = c.in_ok-places.ensures.places })) c.in_order.ensures.items

pub returns-clause-few : goal.returns-clause-few
returns-clause-few c =
    let few : length c.in_ok-places.places.entries < 2 ^ 32 = omega (arith, c.in_ok-places.ensures.few, c.requires) in
    IfOk-weaker c.in_order.result (λ v. v.items ≡ c.in_ok-places.places.entries) (λ v. length v.items < 2 ^ 32) (λ v same. subst (λ places. length places < 2 ^ 32) (sym same) few) c.in_order.ensures.items
