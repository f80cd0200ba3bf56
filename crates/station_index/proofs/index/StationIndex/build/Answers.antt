use Rattle.station_index.proofs.Words.{◌≡◌, Entry, ap, arith, ◌∙◌, All-permutation, IsPermutation-sym, length_permutation}
use Rattle.std.proofs.lemmas.List.{length-replicate}
use Rattle.block_lists.specs.Blocks.{Blocks}
use Rattle.station_index.proofs.KeptLemmas.{kept-all}
use Rattle.station_index.proofs.OrderLemmas.{AreInOrder-nil}
use Rattle.station_index.proofs.index.StationIndex.build.Goals as goal

pub build-requires-clause-few : goal.build-requires-clause-few
build-requires-clause-few c =
    rw c.deref.ensures.value (omega (arith, c.requires.few, length_permutation _ _ c.in_ok-sort_entries.ensures.permutation))

pub build-requires-clause-dep : goal.build-requires-clause-dep
build-requires-clause-dep c =
    rw c.deref.ensures.value (All-permutation (λ e. e.dep ≡ e.node.dep) _ _ c.in_ok-sort_entries.ensures.permutation c.requires.dep)

pub invariant_of-result : goal.invariant_of-result
invariant_of-result c =
    let es = c.sort_entries.new.entries.items in
    let up = c.in_ok-sort_entries.ensures.order in
    let same = c.in_ok-build.ensures ∙ c.deref.ensures.value in
    let count = c.len.ensures ∙ c.sort_entries.new.entries.ok.0 in
    let none = ap (λ (b : Blocks Entry). b.items) c.in_ok-with_room.ensures in
    record {
      loaded = rw same up;
      flags = rw (same, c.in_ok-all_live.ensures, length-replicate) count;
      added = rw none AreInOrder-nil;
      ever_added = rw none (λ k d l. absurd (omega arith));
      ordered = rw (none, c.in_ok-all_live.ensures, same, kept-all es c.len.result count) up;
      room = rw c.in_ok-with_room.ensures (omega arith);
    }

pub returns-clause-entries : goal.returns-clause-entries
returns-clause-entries c =
    rw (ap (λ (b : Blocks Entry). b.items) c.in_ok-with_room.ensures, c.in_ok-all_live.ensures, c.in_ok-build.ensures ∙ c.deref.ensures.value, kept-all _ c.len.result (c.len.ensures ∙ c.sort_entries.new.entries.ok.0)) (IsPermutation-sym _ _ c.in_ok-sort_entries.ensures.permutation)

pub returns-clause-order : goal.returns-clause-order
returns-clause-order c =
    rw (ap (λ (b : Blocks Entry). b.items) c.in_ok-with_room.ensures, c.in_ok-all_live.ensures, c.in_ok-build.ensures ∙ c.deref.ensures.value, kept-all _ c.len.result (c.len.ensures ∙ c.sort_entries.new.entries.ok.0)) c.in_ok-sort_entries.ensures.order
