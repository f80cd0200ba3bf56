use Rattle.schedule_build.proofs.Words.{rules, order_of}
use Rattle.std.proofs.lemmas.List.Sorted.{IsNonDecreasingBy-from_sort_by_key}
use Rattle.schedule_build.proofs.train_names.sorted_entries.Goals as goal

-- the closure gives the number by which an entry stands
pub returns-clause-sorted : goal.returns-clause-sorted
returns-clause-sorted c =
    IsNonDecreasingBy-from_sort_by_key order_of _ c.sort_unstable_by_key.ensures.sorted (λ a r q k. search rules)
