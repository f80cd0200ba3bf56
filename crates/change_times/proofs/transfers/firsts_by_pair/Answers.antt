use Rattle.change_times.proofs.Words.{rules, All, subst, sym, All-contains_itself, All-dedup, answers_always, IsNonDecreasingBy-from_sort, Contains, from_of, to_of, is_same_pair, HaveOwnPairs, HaveSameFirsts, IsByPair}
use Rattle.std.proofs.lemmas.List.Sorted.{IsPermutation-trans, All-permutation}
use Rattle.change_times.proofs.PairLemmas.{stays-by-pair, own-pairs}
use Rattle.change_times.proofs.RowLemmas.{AreSorted, by-pair, same-firsts}
use Rattle.change_times.proofs.transfers.firsts_by_pair.Goals as goal

sorted : (c : goal.After-keep_first_of_each_pair) → AreSorted c.args.rows.items c.sort_by_key.new.self.items c.sort_by_key-2.new.self.items
sorted c = record {
  first = IsNonDecreasingBy-from_sort to_of _ (c.in_ok-sort_by_key.ensures.sorted to_of (answers_always _ _ _ (λ f a r g h. search rules)));
  second = IsNonDecreasingBy-from_sort from_of _ (c.in_ok-sort_by_key-2.ensures.sorted from_of (answers_always _ _ _ (λ f a r g h. search rules)));
  first_stable = c.in_ok-sort_by_key.ensures.stable to_of (answers_always _ _ _ (λ f a r g h. search rules));
  second_stable = c.in_ok-sort_by_key-2.ensures.stable from_of (answers_always _ _ _ (λ f a r g h. search rules));
}

pub returns-clause-order : goal.returns-clause-order
returns-clause-order c =
    subst IsByPair (sym c.keep_first_of_each_pair.ensures) (stays-by-pair _ (by-pair _ _ _ (sorted c)))

pub returns-clause-once : goal.returns-clause-once
returns-clause-once c =
    subst HaveOwnPairs (sym c.keep_first_of_each_pair.ensures) (own-pairs _ (by-pair _ _ _ (sorted c)))

pub returns-clause-first : goal.returns-clause-first
returns-clause-first c =
    subst (HaveSameFirsts c.args.rows.items) (sym c.keep_first_of_each_pair.ensures) (same-firsts _ _ _ (sorted c))

pub returns-clause-given : goal.returns-clause-given
returns-clause-given c =
    let given = Contains c.args.rows.items in
    let moved = IsPermutation-trans _ _ _ c.in_ok-sort_by_key.ensures.permutation c.in_ok-sort_by_key-2.ensures.permutation in
    subst (All given) (sym c.keep_first_of_each_pair.ensures) (All-dedup is_same_pair given _ (All-permutation given _ _ moved (All-contains_itself c.args.rows.items)))
