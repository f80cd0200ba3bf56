-- The words of the model, of lists, of stored times and of marks, and the lemmas on them, that these proofs cite, passed on from one place.
pub use Rattle.state_laws.proofs.Words.{All, All-append, All-cons, All-map, AllPairs-cons, AllPairs-nil, AreApart, Equal, Ordering, events-apart, events_at-train, events_of, All-contains, All-contains_itself, All-filter, All-head, All-nil, All-tail, All-weaker, AllPairs, AllPairs-after}
pub use Rattle.state_laws.proofs.Words.{common_steps, elements, list_any_at, AllPairs-tail, Bool, Contains, Contains-append_cases, Contains-append_left, cond, cond_both, cases_Bool}
pub use Rattle.state_laws.proofs.Words.{Contains-append_right, Contains-cases, Contains-filter, Contains-there, Edge, Event, State, Network, Key, Node, List, None, Some, Option}
pub use Rattle.state_laws.proofs.Words.{IsGraph, IsLiveAt, IsSmall, IsTrain, IsValid, [], and_from, and_parts, ap, append_assoc, arith, eq-eqb, eqb-true, false, true, event_named, events-unique}
pub use Rattle.state_laws.proofs.Words.{false_from_ne_true, filter_passes, find, floor_of, get_or, incoming-leads, inl, inr, is_event, is_live, is_some, leb-true, ltb-false, length, length-append, list_any}
pub use Rattle.state_laws.proofs.Words.{live_events, map, map-append, nat_eq, nat_le, nat_lt, node_of, not, not-false, option_map, option_map_or, or_parts, or_from, or_cases, refl, same-is, same-itself, same_node-is}
pub use Rattle.state_laws.proofs.Words.{same_node-itself, subst, suc, sym, time-local, train_events, unwrap_or, valid-graph, zero, ℕ, ◌&&◌, ◌++◌, ◌+◌, ◌-◌, ◌<◌, ◌^◌, ◌||◌, ◌∙◌, ◌∷◌, ◌≡◌, ◌≢◌, ◌≤◌, ◌⊎◌}
pub use Rattle.state_laws.proofs.Words.{list_any_none, later, max, capped, train_edges, transfer_edges, override_of, may_connect, edge_by_change, change_between, edge_of_kind, transfer_kind, AlongTrain, Planned}
unfoldable pub use Rattle.state_laws.proofs.Words.{transfer, cap, edges, event_time, events, incoming, is_before, is_same, is_same_node, local, time}
pub use Rattle.std.proofs.Common.{Global, Vec, drop, filter, set, take, vec_capacity, vec_len}
pub use Rattle.std.specs.List.{sum_by, count_by, fold, Any}
pub use Rattle.std.proofs.lemmas.Bool.{ltb-true}
pub use Rattle.std.proofs.lemmas.List.{take-append-drop, append-nil}
pub use Rattle.std.proofs.lemmas.List.Elements.{filter-append}
pub use Rattle.std.proofs.lemmas.List.Sorted.{All-permutation, Contains-permutation, IsPermutation-cons, IsPermutation-middle, IsPermutation-refl, IsPermutation-sym, IsPermutation-trans}
pub use Rattle.std.proofs.lemmas.List.Sorted.{length_permutation, list_any-IsPermutation, ranks_by, sorted_far}
pub use Rattle.std.proofs.lemmas.List.Kept.{AllPairs-filter}
pub use Rattle.std.proofs.lemmas.List.Sums.{sum_by-append, sum_by-cons}
pub use Rattle.std.specs.List.Sorted.{IsPermutation, IsSorted}
pub use Rattle.std.proofs.lemmas.List.{length-set}
pub use Rattle.std.specs.Cmp.{IsTotalOrder}
pub use Rattle.std.specs.Ordering.{is_eq, is_lt}
pub use Rattle.mt_base.proofs.KeyLemmas.{before-asymmetric, before-itself, before-trans, exact_keys, keys_total}
pub use Rattle.edge_rules.proofs.InLine.{AllPairs-before, filter-none}
unfoldable pub use Rattle.edge_rules.specs.AtEvent.{outgoing}
pub use Rattle.edge_rules.specs.AtEvent.{edges_to, edges_from, stored_time, local_at}
pub use Rattle.edge_rules.specs.Deciding.{may_change, may_decide}
pub use Rattle.edge_rules.specs.GraphState.{GraphState}
pub use Rattle.state_laws.proofs.Changed.{Contains-map, train_events-there}
pub use Rattle.state_laws.proofs.Mappings.{contains-unmap}
pub use Rattle.state_laws.proofs.Parts.{events-from_each, transfers-each}
unfoldable pub use Rattle.train_nodes.specs.Times.{time_of}
pub use Rattle.train_nodes.specs.Lists.{change_at}
pub use Rattle.train_nodes.specs.Times.{AreSized, StoredTimes, has_time, place_of, with_time}
pub use Rattle.rank_order.specs.Marked.{Ascends, Marked, has_key, is_marked}
pub use Rattle.propagate.specs.LiveKeys.{HasItsTime, IsOrderOf, has_another, key_order, live_keys, time_change_at}
pub use Rattle.mt_base.specs.Sorted.{in_order, placed}
pub use Rattle.propagate.specs.TimesFor.{HasTimesFor, next_labels}
pub use Rattle.propagate.specs.declared.time_changes.TimeChange.{TimeChange}
pub use Rattle.propagate.specs.Settling.{FollowsRule, is_due, has_changed_feeder, reads_at}
