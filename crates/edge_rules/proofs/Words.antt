-- What the proofs of this crate speak of.
pub use Rattle.change_times.specs.declared.change.Change.{Change}
pub use Rattle.delay_model.proofs.Apart.{AreApart, events_at-train, labels-apart}
pub use Rattle.delay_model.proofs.Ends.{train_edges-each}
pub use Rattle.delay_model.specs.Changes.{is_stop}
pub use Rattle.delay_model.specs.Cuts.{from}
pub use Rattle.delay_model.specs.Edges.{DifferInEnds, change_between, edge_on, edges_along, override_of, train_edges, wait_between}
pub use Rattle.delay_model.specs.Overrides.{connection_cmp, is_keep}
pub use Rattle.delay_model.specs.Timing.{floor_of}
unfoldable pub use Rattle.delay_model.specs.Timing.{local}
unfoldable pub use Rattle.delay_model.specs.Waits.{wait}
pub use Rattle.edge_rules.specs.Asking.{IsLater, IsReady}
pub use Rattle.edge_rules.specs.AtEvent.{along_from, along_to, edges_from, edges_to, local_at, stored_time}
unfoldable pub use Rattle.edge_rules.specs.AtEvent.{outgoing}
pub use Rattle.edge_rules.specs.AtStops.{AreAtStops, IsAtStop}
pub use Rattle.edge_rules.specs.Deciding.{may_change}
pub use Rattle.edge_rules.specs.Found.{HasLiveEvent, HaveLiveEvents, are_into, can_be_at, entries_near, first_near, joined_stops, kept_at, kept_names, kept_with, last_near, of_entry, of_name, planned_at, planned_by, planned_with, tables_in, unreported, wait_of, waits_at}
pub use Rattle.edge_rules.specs.GraphState.{GraphState}
pub use Rattle.edge_rules.specs.Indexing.{AreNew, AreThere, IsIndexOf, entries_of, entry_of, new_entries, put_in, taken_out, with_entries, without_entries}
pub use Rattle.edge_rules.specs.Inside.{HasOwnLabels, IsConsistent, seen}
pub use Rattle.edge_rules.specs.Transfers.{transfer_between, transfers_to}
pub use Rattle.edge_rules.specs.declared.graph.Graph.TheInside.{Inside}
pub use Rattle.edge_rules.specs.Wanted.{Changing, From, Into, Wanted, leaving}
pub use Rattle.edge_rules.specs.declared.shift.Shift.{Shift}
pub use Rattle.mt_base.specs.Order.{is_same, node_cmp, node_of}
pub use Rattle.mt_base.specs.declared.index_entries.Entry.{Entry}
pub use Rattle.mt_base.specs.declared.tables.RuleRow.{RuleRow}
pub use Rattle.mt_base.specs.declared.tables.StopRow.{StopRow}
pub use Rattle.state_laws.proofs.Choices.{found-there}
pub use Rattle.state_laws.proofs.Parts.{All-left, All-right, events-from_each, trains-each, transfers-each}
pub use Rattle.state_laws.proofs.Splits.{events_at-append as events-append}
pub use Rattle.state_laws.proofs.Words.{All-contains_itself, All-flat_map, All-map, All-push, AllPairs-after, AllPairs-nil, AllPairs-tail, Call, Cancel, Edge, Event, EventValues, Extra, Key, Less, Network, NewCall, Node, Opts, Override, Reroute, State, Train, after, append-nil, are_at_stops, before, begin_run, calls_of, capped, change_calls, change_event, change_labelled, change_train, common_steps, connection, elements, end_run, event_named, events_at, events_between, events_from, events_of, false_from_ne_true, with_forecast, is_call, is_event, kill_in, later, length-append, live_events, new_calls, new_train, node_at, option_map, option_map_or, with_report, rerouted, same-is, same-itself, same_node-is, same_node-itself, slice_get_within, stands_before, stretch, train_events, up_to, with_event, ◌≢◌}
unfoldable pub use Rattle.state_laws.proofs.Words.{edges, effect, events, incoming, is_same_node, transfer}
pub use Rattle.station_index.proofs.EntryLemmas.{same_entry-is, same_entry-itself}
pub use Rattle.station_index.specs.Indexed.{Indexed, is_in_range, is_same_entry}
pub use Rattle.std.proofs.Common.{Bool, Contains, List, None, Option, Some, [], ap, append_assoc, arith, cond, drop, false, filter, filter_map, find, flat_map, get_or, is_some, length, map, nat_eq, not, refl, set, slice_get, subst, suc, swap, sym, true, unwrap_or, zero, ℕ, ◌*◌, ◌++◌, ◌+◌, ◌-◌, ◌<◌, ◌^◌, ◌↔◌, ◌∙◌, ◌∷◌, ◌≡◌, ◌≤◌}
pub use Rattle.std.proofs.lemmas.List.{map-id, nil_from_length}
pub use Rattle.std.proofs.lemmas.List.Edits.{length-swap, swap_is, swapped_from_swap}
pub use Rattle.std.proofs.lemmas.List.Elements.{All-append, All-cons, All-contains, All-filter, All-nil, All-tail, Contains-append_right, Contains-get_or, filter-append, filter_passes}
pub use Rattle.std.proofs.lemmas.List.Kept.{AllPairs-filter}
pub use Rattle.std.proofs.lemmas.List.Sorted.{All-permutation, Contains-permutation, IsPermutation-append, IsPermutation-append_comm, IsPermutation-append_left, IsPermutation-append_right, IsPermutation-keeps, IsPermutation-middle, IsPermutation-refl, IsPermutation-sym, IsPermutation-trans, length_permutation}
pub use Rattle.std.specs.List.{All, AllPairs, fold, list_all, range_with_len}
pub use Rattle.std.specs.List.Sorted.{IsPermutation}
pub use Rattle.train_nodes.proofs.KeepLemmas.{from-rises, into-rises}
pub use Rattle.train_nodes.proofs.Words.{from-each, into-each, nat_tests, report_after}
pub use Rattle.train_nodes.specs.Calls.{first_label, has_call, has_event, last_label}
pub use Rattle.waiting_rules.specs.WaitTable.{WaitsAt}
