use Rattle.schedule_build.proofs.Words.{rules, ◌∙◌, ap, answers_always, IsNonDecreasingBy-from_sort, All-permutation, filter, sequence, IsTimely, sorted-is, tie}
use Rattle.schedule_build.proofs.trip_calls.sorted.Goals as goal

pub returns-clause-order : goal.returns-clause-order
returns-clause-order c =
    let given = rw c.in_ok-all.ensures.items at c.in_ok-extend_from_slice.ensures.items in
    sorted-is sequence c.args.rows.now c.sort_by_key.new.self.items
    (IsNonDecreasingBy-from_sort sequence _ (c.in_ok-sort_by_key.ensures.sorted sequence (answers_always _ _ _ (λ f a r g h. search rules))))
    (λ z. c.in_ok-sort_by_key.ensures.stable sequence (answers_always _ _ _ (λ f a r g h. search rules)) z ∙ ap (filter (tie sequence z)) given)

pub returns-clause-timely : goal.returns-clause-timely
returns-clause-timely c = All-permutation IsTimely _ _ c.in_ok-sort_by_key.ensures.permutation (rw (c.in_ok-extend_from_slice.ensures.items, c.in_ok-all.ensures.items) c.requires.timely)
