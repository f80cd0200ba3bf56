-- The words that the proofs on numbers and times cite, passed on from one place.
unfoldable pub use Rattle.mt_base.specs.Order.{is_same_node}
pub use Rattle.mt_base.specs.declared.keys.Node.{Node}
pub use Rattle.std.proofs.Common.{Bool, Global, List, None, Some, Vec, [], ap, append-nil, append_assoc, arith, cond}
pub use Rattle.std.proofs.Common.{false, get_or, inl, inr, length, map, nat_eq, nat_lt, option_map, refl, replicate, rules, slice_get, suc}
pub use Rattle.std.proofs.Common.{true, vec_capacity, zero, ℕ, ◌*◌, ◌/◌, ◌%◌, ◌++◌, ◌+◌, ◌-◌, ◌<◌, ◌∙◌, ◌∷◌, ◌≡◌, ◌≢◌, ◌≤◌, ◌⊎◌}
pub use Rattle.std.proofs.Math.ListN.{set}
pub use Rattle.std.proofs.lemmas.Bool.{cases_lt}
pub use Rattle.std.proofs.lemmas.Bool.Decides.{nat_tests}
pub use Rattle.std.proofs.lemmas.List.{get_or-replicate, get_or-set_other, get_or-set_same, get_or_past, length-append, length-replicate, length-set, map-append}
pub use Rattle.std.proofs.lemmas.List.Elements.{filter-append}
pub use Rattle.std.proofs.lemmas.Option.{slice_get-get_or, slice_get-map, slice_get_cases, slice_get_past, slice_get_within}
pub use Rattle.event_numbers.specs.Lists.{change_at}
pub use Rattle.event_numbers.specs.Numbering.{NumberedTrain, Numbering, slot_of, slots_from, with_more, with_numbered}
pub use Rattle.event_numbers.specs.StoredSlots.{AreLinked, AreStored, IsEntry, IsJump, IsLink, IsNumbering, IsSlotRow, added_slots, numbered_train, numbered_trains}
unfoldable pub use Rattle.event_numbers.specs.Times.{time_of}
pub use Rattle.event_numbers.specs.Times.{StoredTimes, blank_times, has_time, no_time, place_of, with_labels, with_time, with_train_times}
pub use Rattle.event_numbers.specs.declared.slots.AddedCall.{AddedCall}
pub use Rattle.event_numbers.specs.declared.slots.TrainSlots.{TrainSlots}
