-- The words of the model, of lists and of kept times, and the lemmas on them, that most of these proofs cite, passed on from one place.
pub use Rattle.state_laws.proofs.Words.{All, All-append, All-cons, All-contains, All-contains_itself, All-filter, All-head, All-map, All-nil, All-tail, All-weaker, AllPairs, AllPairs-after}
pub use Rattle.state_laws.proofs.Words.{common_steps, elements, list_any_at, AllPairs-cons, AllPairs-nil, AllPairs-tail, AreApart, Bool, Call, Cancel, Contains, Contains-append_cases, Contains-append_left}
pub use Rattle.state_laws.proofs.Words.{Contains-append_right, Contains-cases, Contains-filter, Contains-there, Drop, Edge, Equal, Event, EventValues, Extra, Forecast, Greater, IfSome}
pub use Rattle.state_laws.proofs.Words.{IsGraph, IsLiveAt, IsSmall, IsSmallCall, IsTrain, IsValid, IsWellFormed, Keep, Key, List, Message, Network, NewCall, Node, None, Option}
pub use Rattle.state_laws.proofs.Words.{Ordering, Report, Reroute, Rule, Some, State, Train, [], and_from, and_parts, ap, append-nil, append_assoc, are_at_stops, arith, begin_run, calls_of}
pub use Rattle.state_laws.proofs.Words.{capped, cases_Bool, change_calls, change_event, change_labelled, change_train, cond, cond_both, end_run, eq-eqb, eqb-true}
pub use Rattle.state_laws.proofs.Words.{event_named, events-apart, events-unique, events_at, events_at-train, events_from, events_of, false, false_from_ne_true, filter_passes, find}
pub use Rattle.state_laws.proofs.Words.{floor_of, get_or, incoming-leads, inl, inr, is_call, is_eq, is_event, is_live, is_live_key, is_some, kill_in}
pub use Rattle.state_laws.proofs.Words.{killed, leb-true, length, length-append, list_any, live_events, live_only, ltb-false, map, map-append, names_of, nat_cmp, nat_eq, nat_le, nat_lt}
pub use Rattle.state_laws.proofs.Words.{new_calls, new_train, node_at, node_of, not, not-false, option_map, option_map_or, or_parts, refl, refused_if, rerouted, time_changes}
pub use Rattle.state_laws.proofs.Words.{same-is, same-itself, same_node-is, same_node-itself, slice_get, slice_get_within, stands_before, stretch, subst, suc, sym, time-local, train_events}
pub use Rattle.state_laws.proofs.Words.{true, unwrap_or, up_to, valid-graph, with_event, with_forecast, with_report, zero, ℕ, ◌&&◌, ◌++◌, ◌+◌, ◌-◌, ◌<◌, ◌^◌, ◌||◌, ◌∙◌, ◌∷◌, ◌≡◌, ◌≢◌, ◌≤◌, ◌⊎◌}
unfoldable pub use Rattle.state_laws.proofs.Words.{cap, changed, edges, effect, event_time, events, incoming, is_before, is_same, is_same_node, local, refusal, time}
pub use Rattle.std.proofs.Common.{Global, Vec, drop, filter, rules, set, take, vec_capacity, vec_len, ◌*◌}
pub use Rattle.std.proofs.Math.Dec.{ltb}
pub use Rattle.std.proofs.lemmas.Bool.{cases_lt, ltb-true}
pub use Rattle.std.proofs.lemmas.List.{drop_all, length-drop, length-map, length-replicate, length-set, set-get_or, set_split, take-append-drop, take_all, take_at, take_more}
pub use Rattle.std.proofs.lemmas.List.Elements.{filter-append}
pub use Rattle.std.proofs.lemmas.List.Kept.{AllPairs-filter}
pub use Rattle.std.proofs.lemmas.List.Sorted.{All-permutation, Contains-permutation, IsPartitionPoint-from_clause, IsPartitionedBy-ltb, IsPermutation-cons, IsPermutation-map}
pub use Rattle.std.proofs.lemmas.List.Sorted.{IsPermutation-middle, IsPermutation-put_mid, IsPermutation-refl, IsPermutation-sym, IsPermutation-trans, length_permutation, ranks_by}
pub use Rattle.std.proofs.lemmas.List.Sorted.{sorted_far, sum_by-IsPermutation}
pub use Rattle.std.proofs.lemmas.List.Sums.{count_by-le-length, length-filter}
pub use Rattle.std.proofs.lemmas.Simd.{map-map}
pub use Rattle.std.specs.Cmp.{IsTotalOrder}
pub use Rattle.std.specs.List.Sorted.{IsNonDecreasingBy, IsPartitionPoint, IsPartitionedBy, IsPermutation, IsSorted}
pub use Rattle.std.specs.Ordering.{is_lt, ordering_then}
pub use Rattle.mt_base.proofs.KeyLemmas.{before-asymmetric, before-itself, exact_keys, keys_total}
pub use Rattle.edge_rules.proofs.InLine.{AllPairs-before, filter-none}
pub use Rattle.edge_rules.specs.AtEvent.{edges_to, stored_time, local_at}
pub use Rattle.edge_rules.specs.GraphState.{GraphState}
pub use Rattle.state_laws.proofs.Accepted.{accepted-by, or-none, refused-none}
pub use Rattle.state_laws.proofs.Changed.{Contains-map, contains-change, later-trains, map-same, train_events-there}
pub use Rattle.state_laws.proofs.Mappings.{contains-unmap, mapping-events}
pub use Rattle.state_laws.proofs.Parts.{All-left, All-right, events-from_each, trains-each}
pub use Rattle.state_laws.proofs.Stays.{stays-valid}
pub use Rattle.state_laws.proofs.Stretches.{All-from, All-up_to, events_at-each}
pub use Rattle.state_laws.proofs.Values.{IsSetting, any-there, put_forecast, put_report, set-shape, set_at, sets-forecast, sets-report}
unfoldable pub use Rattle.train_nodes.specs.Times.{time_of}
pub use Rattle.train_nodes.specs.Calls.{call_named, has_call}
pub use Rattle.train_nodes.specs.Lists.{change_at}
pub use Rattle.train_nodes.specs.Times.{AreSized, StoredTimes, blank_times, has_time, no_time, place_of, with_labels, with_time, with_train_times}
pub use Rattle.train_nodes.specs.Kinds.{changed_train, message_by_choice, message_of, message_of_shape, message_of_value}
pub use Rattle.edge_rules.specs.AtStops.{AreAtStops, IsAtStop}
unfoldable pub use Rattle.timetable.specs.Changed.{changed_nodes}
pub use Rattle.timetable.specs.Changed.{AreInOrder, IsChangedEvent, is_changed}
unfoldable pub use Rattle.timetable.specs.Departures.{live_departures}
pub use Rattle.timetable.specs.Departures.{AreListed, IsDeparture, boarding_stop, departing, departing_at, departures_from, is_departure, may_board, stop_of, stored_departure}
pub use Rattle.dep_order.specs.Departing.{departure_cmp}
unfoldable pub use Rattle.dep_order.specs.Departing.{leaves_before}
unfoldable pub use Rattle.timetable.specs.Moved.{with_times}
pub use Rattle.timetable.specs.Moved.{AreLiveDepartures, AreTimeChanges, IsAtCall, count_new, departing_then, departs, is_new_to, is_of_none, is_of_one, time_changes_of}
pub use Rattle.timetable.specs.LiveTimes.{live_event, live_keys, live_time}
pub use Rattle.timetable.specs.TimetableState.{TimetableState}
pub use Rattle.timetable.specs.Settled.{HasItsTime, HasTimesFor, IsRoomy, IsSettled, most_live}
pub use Rattle.timetable.specs.Shapes.{HasRoomFor, IsPrepared, with_made}
pub use Rattle.mt_base.specs.Sorted.{in_order, placed}
pub use Rattle.dep_order.specs.declared.departure.Departure.{Departure}
pub use Rattle.propagate.specs.LiveKeys.{IsOrderOf, has_another, key_order, time_change_at}
pub use Rattle.propagate.specs.TimesFor.{next_labels}
pub use Rattle.rank_order.specs.Marked.{Marked, is_marked}
pub use Rattle.timetable.specs.Marking.{AreMarksOf, AreUnsettled, IsMarkedBefore, IsStateAfter, IsMarkedAndApplied}
pub use Rattle.propagate.specs.Unsettled.{AreStored}
pub use Rattle.propagate.specs.declared.time_changes.TimeChange.{TimeChange}
