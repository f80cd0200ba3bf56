use Rattle.std.proofs.Common.{rules}
use Rattle.std.proofs.lemmas.List.Sorted.{answers_always}
use Rattle.delay_model.specs.declared.state.Event.{Event}
use Rattle.delay_model.proofs.evaluate.key_order.Goals as goal

pub returns-clause-sorted : goal.returns-clause-sorted
returns-clause-sorted c = c.in_ok-sort_by_key.ensures.sorted (λ (v : Event). v.key) (answers_always _ _ _ (λ f a r q k. search rules))
