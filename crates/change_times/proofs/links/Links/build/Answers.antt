use Rattle.change_times.proofs.Words.{rules, answers_always, IsNonDecreasingBy-from_sort, place_of}
use Rattle.change_times.proofs.links.Links.build.Goals as goal

pub invariant_of-result : goal.invariant_of-result
invariant_of-result c =
    IsNonDecreasingBy-from_sort place_of _ (c.in_ok-sort_by_key.ensures.sorted place_of (answers_always _ _ _ (λ f a r g h. search rules)))
