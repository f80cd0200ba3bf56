-- The words that the proofs on lines of calls cite, passed on from one place.
pub use Rattle.call_lines.specs.Calls.{call_named, has_call, label_after, label_before, last_label, values_of}
pub use Rattle.call_lines.specs.Edits.{edited}
pub use Rattle.call_lines.specs.Lines.{AreAppended, AreReplaced, AreTakenOut, IsKilled, IsKilledCall, IsKnownFrom, IsLine, IsLineAt, IsLineCall, IsPart, IsPlacedAt}
pub use Rattle.call_lines.specs.Linked.{AreKnown, AreLaid, HasNextReports, IsEdited, IsPlaced, IsRenewed, IsRenewedCall}
pub use Rattle.call_lines.specs.Linked.{call_of, call_report, next_report_of, report_of, walk}
pub use Rattle.call_lines.specs.Loaded.{by_table, loaded_from, loaded_train, table_call, table_calls}
pub use Rattle.call_lines.specs.Places.{AreInOrder, IsFirst}
pub use Rattle.call_lines.specs.declared.calls.Edit.TheVariants.{Kill}
pub use Rattle.call_lines.specs.declared.calls.TableCall.{TableCall}
pub use Rattle.call_lines.specs.declared.stored_call.StoredCall.{StoredCall}
pub use Rattle.delay_model.specs.Cuts.{after, before, up_to}
pub use Rattle.delay_model.specs.Effect.{begin_run, calls_between, change_event, end_run, is_call, killed, new_call, new_calls, new_train, node_at}
pub use Rattle.delay_model.specs.Events.{calls_of, event_by, event_named, events_at, is_event, is_live}
pub use Rattle.delay_model.specs.Refusals.{stands_before}
pub use Rattle.delay_model.specs.Valid.{HasDistinctLabels}
pub use Rattle.delay_model.specs.declared.state.Call.{Call}
pub use Rattle.delay_model.specs.declared.state.Event.{Event}
pub use Rattle.delay_model.specs.declared.state.State.{State}
pub use Rattle.delay_model.specs.declared.state.Train.{Train}
pub use Rattle.event_numbers.proofs.ListLemmas.{get-end, get-more, get-old, get-past, same-gets, set-get, slice_get-set_other, slice_get-set_same}
pub use Rattle.event_numbers.proofs.NumberTests.{nat_eq-same}
pub use Rattle.event_numbers.proofs.NumberingLemmas.{last-there, loaded-read}
pub use Rattle.event_numbers.specs.Numbering.{slot_of}
unfoldable pub use Rattle.mt_base.specs.Order.{is_same_node}
pub use Rattle.mt_base.specs.declared.keys.Node.{Node}
pub use Rattle.mt_base.specs.declared.new_calls.NewCall.{NewCall}
pub use Rattle.std.proofs.Common.{All, Bool, List, None, Option, Some, [], ap, arith, cond, drop, false, find, get_or, inl, inr, is_some, length, map, nat_eq, nat_le}
pub use Rattle.std.proofs.Common.{nat_lt, refl, slice_get, subst, suc, sym, take, true, vec_capacity, zero, ℕ, ◌&&◌, ◌++◌, ◌+◌, ◌-◌, ◌<◌, ◌∙◌, ◌∷◌, ◌≡◌, ◌≢◌, ◌≤◌, ◌⊎◌}
pub use Rattle.std.proofs.Math.ListN.{set}
pub use Rattle.std.proofs.Math.Seq.{drop-nil}
pub use Rattle.std.proofs.lemmas.Bool.{cases_eq, cases_lt, ltb-false}
pub use Rattle.std.proofs.lemmas.Bool.Decides.{nat_tests}
pub use Rattle.std.proofs.lemmas.Grind.{common_steps, elements}
pub use Rattle.std.proofs.lemmas.List.{get_or-map, get_or-set_same, length-append, length-drop, length-map, length-set, length-take-le, length_push, take-append-drop}
pub use Rattle.std.proofs.lemmas.List.Elements.{All-drop}
pub use Rattle.std.proofs.lemmas.Option.{get_or_from_slice_get, gets, slice_get-get_or, slice_get-map, slice_get_cases, slice_get_past, slice_get_read}
pub use Rattle.std.proofs.lemmas.Option.{slice_get_within}
pub use Rattle.std.specs.List.{list_any}
pub use Rattle.std.specs.Option.{option_map, option_map_or, option_or}
pub use mathlib.Core.Bool.{beq}
