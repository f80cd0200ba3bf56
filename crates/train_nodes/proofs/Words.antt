-- The words that the proofs on stored trains cite, passed on from one place.
pub use Rattle.call_lines.proofs.CallPlaces.{All-labels, at-label, between-at, distinct-labels, first-cut, first-from, first-up_to, first-within}
pub use Rattle.call_lines.proofs.CallPlaces.{label_of, labels-length, last-at, never, none-any, past-none, stands, stands-no-first, stands-no-last}
pub use Rattle.call_lines.proofs.CallPlaces.{stands-not}
pub use Rattle.call_lines.proofs.EventLemmas.{event-named, label_after-at, label_before-at, label_before-none, live-named, live-there, name-test}
pub use Rattle.call_lines.proofs.TrainLines.{IsLineChange, changed-back}
pub use Rattle.call_lines.proofs.LoadedLemmas.{extra-length, extra-train, last-loaded, length-loaded, loaded-is, loaded-report}
pub use Rattle.call_lines.proofs.Numbered.{numbered-loaded, numbered-new}
pub use Rattle.call_lines.proofs.PartLemmas.{begins, ends, standing-test}
pub use Rattle.call_lines.proofs.RenewLemmas.{calls-alike}
pub use Rattle.call_lines.proofs.RerouteLines.{IsSplice, spliced, spliced-begins, spliced-calls, spliced-ends, spliced-last, spliced-line}
pub use Rattle.call_lines.proofs.TrainLines.{line-at, line-length, line-of, one-of, placed-at, renewed-line, same-within, some-of}
pub use Rattle.call_lines.specs.Calls.{call_named, first_label, label_after, label_before, last_label}
pub use Rattle.call_lines.specs.Lines.{IsTrainLine, AreReplaced, HasNoPart, IsKilled, IsKnownFrom, IsLineAt, IsLineCall, IsPart, IsPartOf, IsPlacedAt, killed_by}
pub use Rattle.call_lines.specs.Linked.{AreKnown, AreLaid, HasNextReports, HasNoCurrent, IsCurrentAt, IsEdited, IsLaid, IsRenewed, call_of}
pub use Rattle.call_lines.specs.Linked.{call_report, is_between, live_report, next_report_of, report_of, walk}
pub use Rattle.call_lines.specs.Loaded.{by_table, call_at, loaded_from, loaded_train, with_train}
pub use Rattle.call_lines.specs.Places.{AreInOrder, IsFirst}
pub use Rattle.call_lines.specs.declared.calls.TableCall.{TableCall}
pub use Rattle.call_lines.specs.declared.parts.Part.{Part}
pub use Rattle.call_lines.specs.declared.stored_call.StoredCall.{StoredCall}
pub use Rattle.connection_choices.proofs.KeepLemmas.{from-each, from-rises, into-each, into-rises}
pub use Rattle.connection_choices.specs.StoredOverrides.{Overrides}
pub use Rattle.delay_model.specs.Cuts.{after, before, up_to}
pub use Rattle.delay_model.specs.Effect.{calls_between, change_calls, change_event, change_labelled, change_train, events_between}
pub use Rattle.delay_model.specs.Effect.{is_among, is_call, kill_in, names_one_of, new_calls, node_at, rerouted, stretch, with_event, with_forecast, with_report}
unfoldable pub use Rattle.delay_model.specs.Effect.{effect}
pub use Rattle.delay_model.specs.Events.{calls_of, events_at, is_event}
pub use Rattle.delay_model.specs.Refusals.{has_call, stands_before}
pub use Rattle.delay_model.specs.Timing.{first_report}
pub use Rattle.delay_model.specs.Valid.{HasDistinctLabels}
pub use Rattle.delay_model.specs.declared.messages.Message.TheVariants.{Cancel, Reroute}
pub use Rattle.delay_model.specs.declared.state.Call.{Call}
pub use Rattle.delay_model.specs.declared.state.Event.{Event}
pub use Rattle.delay_model.specs.declared.state.State.{State}
pub use Rattle.delay_model.specs.declared.state.Train.{Train}
pub use Rattle.event_numbers.proofs.ListLemmas.{get-end, get-old, slice_get-set_other, slice_get-set_same, same-gets}
pub use Rattle.event_numbers.proofs.NumberTests.{nat_eq-apart, nat_eq-same}
pub use Rattle.event_numbers.proofs.NumberingLemmas.{IsGrown, calls-grown, change-length}
pub use Rattle.event_numbers.proofs.SlotLemmas.{range-get, slots-from}
pub use Rattle.event_numbers.specs.Numbering.{NumberedTrain, Numbering, slot_of, slots_from, with_more, with_numbered}
pub use Rattle.event_numbers.specs.SlotTimes.{blank_trains}
pub use Rattle.event_numbers.specs.Times.{AreSized}
unfoldable pub use Rattle.mt_base.specs.Order.{is_same_node}
pub use Rattle.mt_base.specs.declared.keys.Node.{Node}
pub use Rattle.mt_base.specs.declared.new_calls.NewCall.{NewCall}
pub use Rattle.std.proofs.Common.{All, Bool, IsTrue, List, MatchOption, None, Option, Some, [], ap, append_assoc, arith, cond, drop, false, find}
pub use Rattle.std.proofs.Common.{get_or, inl, inr, is_some, length, map, nat_eq, nat_le, nat_lt, not, refl, slice_get, subst, suc, sym, take, true}
pub use Rattle.std.proofs.Common.{vec_capacity, zero, ℕ, ◌&&◌, ◌++◌, ◌+◌, ◌-◌, ◌<◌, ◌^◌, ◌||◌, ◌∙◌, ◌∷◌, ◌≡◌, ◌≢◌, ◌≤◌, ◌⊎◌}
pub use Rattle.std.proofs.Math.ListN.{set}
pub use Rattle.std.proofs.lemmas.Bool.{cases_Bool, cases_eq, cases_lt, eq-eqb}
pub use Rattle.std.proofs.lemmas.Bool.Decides.{nat_tests}
pub use Rattle.std.proofs.lemmas.List.{length-append, length-map, length-replicate, length-set, take-append-drop}
pub use Rattle.std.proofs.lemmas.List.Folds.{list_any-append}
pub use Rattle.std.proofs.lemmas.Option.{get_or_from_slice_get, option_and_then_some, slice_get-get_or, slice_get-map, slice_get_cases}
pub use Rattle.std.proofs.lemmas.Option.{slice_get_past, slice_get_read, slice_get_within}
pub use Rattle.std.proofs.lemmas.Result.{IfOk-weaker}
pub use Rattle.std.proofs.lemmas.Simd.{map-map}
pub use Rattle.std.specs.FinMap.{len, retain_keys}
pub use Rattle.std.specs.List.{list_any}
pub use Rattle.std.specs.Option.{option_and_then, option_map, option_or}
pub use Rattle.std.specs.Prelude.{Vec}
pub use Rattle.std.specs.Vec.{with_item}
pub use Rattle.std.specs.declared.alloc.Global.{Global}
pub use Rattle.train_nodes.specs.Removed.{is_removed, names_removed}
pub use Rattle.train_nodes.specs.Reports.{report_after}
pub use Rattle.train_nodes.specs.Stored.{AreLabelled, IsCallAt, IsStored, IsTrainStored, first_slot, line_of, seen, train_by, trains_by}
pub use Rattle.train_nodes.specs.declared.train_records.TrainRecord.{TrainRecord}
pub use Rattle.train_nodes.specs.declared.trains.Trains.TheInside.{Inside}
