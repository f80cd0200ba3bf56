-- The words of numbers, lists and the model, and the lemmas on them, that most of these proofs cite, passed on from one place.
pub use Rattle.std.proofs.Common.{Bool, List, None, Option, Ordering, Some, [], ap, append_assoc, arith, cond, false, inl, inr, is_some, length, length-append, map, max, nat_eq, nat_le}
pub use Rattle.std.proofs.Common.{get_or, nat_lt, not, refl, subst, suc, sym, true, unwrap_or, zero, ℕ, ◌&&◌, ◌++◌, ◌+◌, ◌-◌, ◌<◌, ◌^◌, ◌||◌, ◌∙◌, ◌∷◌, ◌≡◌, ◌≤◌, ◌⊎◌}
pub use Rattle.std.proofs.Math.Logic.{◌≢◌}
pub use Rattle.std.proofs.lemmas.Bool.{and_cases, and_from, and_parts, and_right, cases_Bool, cases_eq, cond-false, cond-true, cond_both, eq-eqb, eqb-false, eqb-true, false_from_ne_true}
pub use Rattle.std.proofs.lemmas.Bool.{true_from_ne_false, leb-true, ltb-false, not-false, not-true, not_from_false, or_cases, or_from, or_parts}
pub use Rattle.std.proofs.lemmas.Grind.{common_steps, elements}
pub use Rattle.std.proofs.lemmas.List.{append-nil, map-append}
pub use Rattle.std.proofs.lemmas.List.Elements.{All-append, All-cons, All-contains, All-contains_itself, All-filter, All-head, All-map, All-nil, All-push, All-tail, All-weaker}
pub use Rattle.std.proofs.lemmas.List.Elements.{Contains-append_cases, Contains-append_left, Contains-append_right, filter_passes}
pub use Rattle.std.proofs.lemmas.List.Folds.{list_any_at, list_any_none, map_fixed}
pub use Rattle.std.proofs.lemmas.Option.{same_Some, IfSome_then, get_or_from_slice_get, slice_get-get_or, slice_get_within}
pub use Rattle.std.specs.FinMap.{FinMap, empty_of_len, entries, entries-from_sorted, entries_sorted, from_sorted, get, get-empty, get-entries, get-from_sorted, get-insert, get-remove}
pub use Rattle.std.specs.FinMap.{get-retain_keys, insert, len, len-entries, len-insert, len-remove, remove, retain_keys, same_map}
pub use Rattle.std.specs.List.{All, AllPairs, Contains, find, flat_map, fold, list_any, slice_get, slice_index_or}
pub use Rattle.std.specs.Option.{IfSome, IsSome, is_none, option_and_then, option_map, option_map_or, option_or}
pub use Rattle.std.specs.Ordering.{eq_by_cmp, is_eq, nat_cmp}
pub use Rattle.std.specs.declared.cmp.Ordering.TheVariants.{Equal, Greater, Less}
unfoldable pub use Rattle.mt_base.specs.Order.{is_before, is_same, is_same_node}
pub use Rattle.mt_base.specs.Order.{node_of}
pub use Rattle.mt_base.specs.declared.keys.Key.{Key}
pub use Rattle.mt_base.specs.declared.keys.Node.{Node}
pub use Rattle.mt_base.specs.declared.options.Opts.{Opts}
pub use Rattle.mt_base.specs.declared.new_calls.NewCall.{NewCall}
pub use Rattle.delay_model.specs.Cuts.{after, before, up_to}
unfoldable pub use Rattle.delay_model.specs.Edges.{edges, transfer}
pub use Rattle.delay_model.specs.Edges.{change_between, edge_by_change, edge_of_kind, edge_on, edges_along, is_planned, may_connect, minimum_dwell, minimum_running, override_of, train_edge}
pub use Rattle.delay_model.specs.Edges.{train_edges, transfer_edges, transfer_kind, transfers_from, wait_between}
unfoldable pub use Rattle.delay_model.specs.Effect.{effect}
pub use Rattle.delay_model.specs.Effect.{begin_run, calls_between, change_calls, change_event, change_labelled, change_train, end_run, events_between, has_override, is_among}
pub use Rattle.delay_model.specs.Effect.{is_call, kill_in, killed, names_one_of, new_call, new_calls, new_train, node_at, rerouted, stretch, with_event, with_forecast, with_override}
pub use Rattle.delay_model.specs.Effect.{with_report, without_override, without_overrides_of}
unfoldable pub use Rattle.delay_model.specs.Events.{events}
pub use Rattle.delay_model.specs.Events.{arrival_of, calls_of, departure_of, event_by, event_named, events_at, events_from, events_of, is_event, is_live, live_events, live_report}
pub use Rattle.delay_model.specs.Events.{train_events}
pub use Rattle.delay_model.specs.Messages.{IsSmallCall, IsWellFormed}
pub use Rattle.delay_model.specs.Overrides.{connection, connection_cmp}
unfoldable pub use Rattle.delay_model.specs.Refusals.{refusal}
pub use Rattle.delay_model.specs.Refusals.{against_rank, against_rank_by, any_reported, are_at_stops, contradicted_at, contradiction, first_against_rank, first_reported, has_call}
pub use Rattle.delay_model.specs.Refusals.{has_no_change, has_no_connection, has_nothing, is_against_rank, is_known, is_no_connection, is_unknown, kept_edge, overrides_short, refused_if, shortage}
pub use Rattle.delay_model.specs.Refusals.{stands_before}
unfoldable pub use Rattle.delay_model.specs.Timing.{cap, event_time, incoming, local, time}
pub use Rattle.delay_model.specs.Timing.{after_key, capped, first_report, floor_of, later}
unfoldable pub use Rattle.delay_model.specs.Touched.{changed, touched}
pub use Rattle.delay_model.specs.Touched.{capped_by, is_fed_by, is_live_key, is_reported, live_only, named, names_of, new_events, time_changes, since_report}
pub use Rattle.delay_model.specs.Valid.{AreReportedFrom, HasDistinctLabels, HasReportsInOrder, HasRoom, IsConnection, IsForward, IsRun, IsSmall, IsTrain, IsValid}
pub use Rattle.delay_model.specs.declared.messages.Message.{Message}
pub use Rattle.delay_model.specs.declared.messages.Message.TheVariants.{Cancel, Correct, Drop, Extra, Forecast, Keep, Report, Reroute, Rule, Withdraw}
pub use Rattle.delay_model.specs.declared.network.Network.{Network}
pub use Rattle.delay_model.specs.declared.overrides.Connection.{Connection}
pub use Rattle.delay_model.specs.declared.overrides.Override.{Override}
pub use Rattle.delay_model.specs.declared.overrides.Override.TheVariants.{Drop as Dropped, Keep as Kept}
pub use Rattle.delay_model.specs.declared.state.Call.{Call}
pub use Rattle.delay_model.specs.declared.state.Edge.{Edge}
pub use Rattle.delay_model.specs.declared.state.EdgeKind.TheVariants.{Planned, Train as AlongTrain}
pub use Rattle.delay_model.specs.declared.state.Event.{Event}
pub use Rattle.delay_model.specs.declared.state.EventValues.{EventValues}
pub use Rattle.delay_model.specs.declared.state.State.{State}
pub use Rattle.delay_model.specs.declared.state.Train.{Train}
pub use Rattle.delay_model.proofs.Apart.{AreApart, events-apart, events-unique, events_at-train}
pub use Rattle.delay_model.proofs.ConnectionLemmas.{connections_total, exact_connections}
pub use Rattle.delay_model.proofs.Ends.{IsLiveAt}
pub use Rattle.delay_model.proofs.Lists.{All-flat_map, AllPairs-after, AllPairs-append, AllPairs-cons, AllPairs-nil, AllPairs-tail, Contains-cases, Contains-filter, Contains-there}
pub use Rattle.delay_model.proofs.Solve.{IsGraph, incoming-leads, incoming-there, time-local, valid-graph}
pub use Rattle.mt_base.proofs.KeyLemmas.{same-is, same-itself, same_node-is, same_node-itself}
