use Rattle.station_index.proofs.Words.{◌∙◌}
use Rattle.std.proofs.lemmas.Result.{on_ok_weaker}
use Rattle.station_index.proofs.NumberLemmas.{numbers-move, numbers-ordered}
use Rattle.station_index.proofs.OrderLemmas.{sorted-ascends}
use Rattle.station_index.proofs.sorting.sort_entries.Goals as goal

pub returns-in_default-clause-order : goal.returns-in_default-clause-order
returns-in_default-clause-order c = sorted-ascends _ _ c.requires c.sort_unstable.ensures.permutation c.sort_unstable.ensures.sorted

pub returns-clause-permutation : goal.returns-clause-permutation
returns-clause-permutation c =
    let same = rw c.in-Some.is at c.in_ok-numbers.ensures in
    on_ok_weaker c.list_entries.result (λ is. rw is (numbers-move _ c.deref-2.result.now _ (same ∙ c.deref.ensures.value) (rw c.deref-2.ensures.value c.sort_unstable-2.ensures.permutation))) c.list_entries.ensures

pub returns-clause-order : goal.returns-clause-order
returns-clause-order c =
    let same = rw c.in-Some.is at c.in_ok-numbers.ensures in
    on_ok_weaker c.list_entries.result (λ is. rw is (numbers-ordered _ c.deref-2.result.now _ (same ∙ c.deref.ensures.value) c.requires (rw c.deref-2.ensures.value c.sort_unstable-2.ensures.permutation) (rw c.deref-2.ensures.value c.sort_unstable-2.ensures.sorted))) c.list_entries.ensures
