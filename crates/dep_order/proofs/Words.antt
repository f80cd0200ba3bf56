-- The words of numbers, lists and departures that the proofs of this crate cite, passed on from one place.
pub use Rattle.std.proofs.Common.{◌≡◌, ◌≢◌, ℕ, zero, suc, ◌+◌, ◌-◌, ◌/◌, ◌<◌, ◌≤◌, ◌^◌, ◌⊎◌, inl, inr, List, [], ◌∷◌, ◌++◌, Bool, true, false, cond, ◌&&◌, nat_eq, nat_lt, nat_le, not, Option, None, Some}
pub use Rattle.std.proofs.Common.{refl, sym, ◌∙◌, ap, subst, arith, length, map, slice_get, take, get_or, min, rules, All}
pub use Rattle.std.proofs.Math.ListN.{set, replicate}
pub use Rattle.std.proofs.lemmas.Bool.{cases_Bool, cases_eq, cases_lt, cases_order, eq-eqb}
pub use Rattle.std.proofs.lemmas.Bool.Decides.{nat_tests}
pub use Rattle.std.proofs.lemmas.List.{length-map, length-set, length-replicate, map-set, set-set, get_or-set_same, get_or-set_other, get_or_past}
pub use Rattle.std.proofs.lemmas.Option.{slice_get-map, slice_get-get_or, slice_get_cases, slice_get_past, slice_get_within, slice_get_read}
pub use Rattle.std.specs.Option.{option_map, option_map_or, IsSome}
pub use Rattle.std.specs.List.{count_by}
pub use Rattle.mt_base.specs.declared.keys.Key.{Key}
unfoldable pub use Rattle.dep_order.specs.Departing.{leaves_before}
pub use Rattle.dep_order.specs.Departing.{departure_cmp, departures_in_order, departures_of, held}
pub use Rattle.dep_order.specs.Held.{HaveDistinctCalls, HaveDistinctKeys, IsNewCall, IsNewKey, IsFirst, IsFirstAt, leaving, leaving_among, with_time}
pub use Rattle.dep_order.specs.Linked.{AreLinked, IsAhead, IsNext, IsOf, IsReached, is_above, is_past, left, leaves_after}
pub use Rattle.mt_base.specs.Sorted.{in_order, placed}
pub use Rattle.dep_order.specs.Ordered.{blank_onward, is_of_call, number_of, number_or_past}
pub use Rattle.dep_order.specs.Scanned.{IsFirstPlace, IsPlace, departures_from, number_in}
pub use Rattle.dep_order.specs.Slots.{Slot, cold_part, departure_in, fresh_slot, hot_part, no_departure, nobody, onward_in, slot_at, stored_in, with_departure, with_onward}
pub use Rattle.dep_order.specs.Stored.{AreKept, IsNextIn, IsPreviousIn, IsJoined, IsLinkEnd, IsLinkSet, bucket_at, bucket_count, bucket_of, entries_of, next_in, onwards_of, previous_in}
pub use Rattle.dep_order.specs.declared.departure.Departure.{Departure}
pub use Rattle.dep_order.specs.declared.departure.Leaving.{Leaving}
pub use Rattle.dep_order.specs.declared.departure.Onward.{Onward}
pub use Rattle.dep_order.specs.declared.lists.Bucket.{Bucket}
pub use Rattle.dep_order.specs.declared.lists.Lists.{Lists}
pub use Rattle.dep_order.specs.declared.slot_table.Cold.{Cold}
pub use Rattle.dep_order.specs.declared.slot_table.Hot.{Hot}
