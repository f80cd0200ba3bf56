-- What the proofs of this crate speak of.
pub use Rattle.mt_base.proofs.KeyLemmas.{before_entry-itself, before_entry-trans, entries_total, exact_entries}
pub use Rattle.mt_base.specs.Order.{entry_cmp}
unfoldable pub use Rattle.mt_base.specs.Order.{is_before_entry}
pub use Rattle.mt_base.specs.declared.index_entries.Entry.{Entry}
pub use Rattle.station_index.specs.Indexed.{AreInOrder, Indexed, entry_at, is_in_range, with_entry, without_entry}
unfoldable pub use Rattle.station_index.specs.Indexed.{is_same_entry}
pub use Rattle.station_index.specs.Merged.{comes_first, kept, merged}
pub use Rattle.station_index.specs.Numbers.{entry_of_number}
pub use Rattle.station_index.specs.Places.{IsRangeAt, is_before_range, is_past_range}
pub use Rattle.station_index.specs.Ranged.{loaded_left}
pub use Rattle.station_index.specs.Slots.{IsSlot, entry_of, event_in, is_at, slot_number, slot_of}
pub use Rattle.station_index.specs.declared.loaded_event.LoadedEvent.{LoadedEvent}
pub use Rattle.std.proofs.Common.{All, Bool, List, Ordering, [], ap, arith, cond, drop, false, get_or, inl, inr, leb, length, ltb, map, max, min, nat_eq, nat_le, not, refl, rules, subst, suc, sym, take, true, zero, ℕ, ◌%◌, ◌&&◌, ◌+◌, ◌-◌, ◌/◌, ◌<◌, ◌∙◌, ◌∷◌, ◌≡◌, ◌≢◌, ◌≤◌}
pub use Rattle.std.proofs.Math.ListN.{set}
pub use Rattle.std.proofs.lemmas.Bool.{and_parts, cases_Bool, cases_lt, eq-eqb, eqb-true}
pub use Rattle.std.proofs.lemmas.Bool.Decides.{nat_tests}
pub use Rattle.std.proofs.lemmas.List.{drop-map, get_or-drop, get_or-map, get_or-take, get_or_default, length-drop, length-map, length-take, length-take-le}
pub use Rattle.std.proofs.lemmas.List.Elements.{All-cons, All-filter, All-head, All-nil, All-tail, All-weaker, at_read}
pub use Rattle.std.proofs.lemmas.List.Sorted.{All-permutation, IsPartitionPoint-from_clause, IsPermutation-sym, length_permutation}
pub use Rattle.std.proofs.lemmas.Slice.{between_to_end}
pub use Rattle.std.specs.Cmp.{IsTotalOrder}
pub use Rattle.std.specs.List.{AllPairs, HoldsAt, filter}
pub use Rattle.std.specs.List.Sorted.{IsPartitionPoint, IsPartitionedBy, IsPermutation, IsSorted}
pub use Rattle.std.specs.Ordering.{bool_cmp, is_lt, nat_cmp, ordering_then}
pub use Rattle.std.specs.declared.cmp.Ordering.TheVariants.{Equal}
pub use mathlib.Core.Bool.{beq}
