-- The words and the lemmas on them that most of these proofs cite, passed on from one place.
pub use Rattle.std.proofs.Common.{All, Bool, List, None, Option, Some, [], add-one, ap, append_assoc, arith, drop, false, get_or, inl, inr, length, length-append, map, nat_eq, nat_lt, not}
pub use Rattle.std.proofs.Common.{pos, refl, rules, subst, suc, sym, take, true, zero, ℕ, ◌*◌, ◌++◌, ◌+ℤ◌, ◌+◌, ◌-◌, ◌<◌, ◌^◌, ◌∙◌, ◌∷◌, ◌≡◌, ◌≤◌, ◌⊎◌}
pub use Rattle.std.proofs.lemmas.Grind.{common_steps, elements}
pub use Rattle.std.proofs.lemmas.List.{append-nil, length-map, map-append}
pub use Rattle.std.proofs.lemmas.List.Elements.{All-append, All-filter, All-map, All-nil, All-push}
pub use Rattle.std.proofs.lemmas.List.Sorted.{All-permutation, IsNonDecreasingBy-from_sort, IsPartitionPoint-from_clause, IsPartitionedBy-leb, IsPartitionedBy-ltb, answers_always}
pub use Rattle.std.proofs.lemmas.List.Sorted.{length_permutation}
pub use Rattle.std.proofs.lemmas.Slice.Eq.{bytes_eq-Decides}
pub use Rattle.std.specs.List.{filter, list_any}
pub use Rattle.std.specs.Prelude.{IfSome, bytes_eq, if◌then◌else◌, slice_index_or, string_bytes, ◌&&◌}
pub use Rattle.mt_base.specs.declared.options.Opts.{Opts}
pub use Rattle.mt_base.specs.declared.tables.CallRow.{CallRow}
pub use Rattle.mt_base.specs.declared.tables.Tables.{Tables}
pub use Rattle.mt_base.specs.declared.tables.TripRow.{TripRow}
pub use Rattle.feed_tables.proofs.OrderLemmas.{in_order-all, rising-same, sorted-is, tie}
pub use Rattle.feed_tables.specs.Calls.{both_times, has_calls, in_order, is_rising, rows_of, sequence, times_of, trip_of}
pub use Rattle.feed_tables.specs.Lawful.{IsLawful}
pub use Rattle.delay_model.specs.Events.{arrival_of, departure_of, events_at, events_of, live_report}
pub use Rattle.delay_model.specs.declared.network.Network.{Network}
pub use Rattle.delay_model.specs.declared.state.State.{State}
pub use Rattle.call_lines.proofs.LoadedLemmas.{length-loaded, loaded-is}
pub use Rattle.train_nodes.specs.Loaded.{DoNotFallFrom, call_at, loaded_from, loaded_train, with_train}
pub use Rattle.call_lines.specs.declared.calls.TableCall.{TableCall}
pub use Rattle.schedule_build.specs.Directory.{Place, day_named, days_from, name_of_run, number_from, place_of_row}
pub use Rattle.schedule_build.specs.Runs.{HasService, all_runs, day_runs, is_set, runs_from, runs_on}
pub use Rattle.schedule_build.specs.Schedule.{IsFit, count_calls, pushed, run_calls, run_train, schedule, schedule_of, too_many}
pub use Rattle.schedule_build.specs.Services.{changes, is_active, runs}
pub use Rattle.schedule_build.specs.StoredTrains.{AreNamed, AreNumbered, HasTrip, IsSmall, key_at, order_of, seen_train, train_key, trip_name}
pub use Rattle.schedule_build.specs.TripCalls.{IsTimely, timed_calls, trip_calls}
pub use Rattle.schedule_build.specs.declared.runs.Run.{Run}
pub use Rattle.schedule_build.specs.declared.train_names.StoredTrain.{StoredTrain}
pub use Rattle.state_laws.proofs.Parts.{AtEach, IsGood, IsUnreported, each-from, each-none, events-from_each, valid-from}
