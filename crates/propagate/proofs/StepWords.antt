-- The words of the model, of lists and of stored times, and the lemmas on them, that the proofs on a message cite.
pub use Rattle.state_laws.proofs.Words.{◌≡◌, ◌≤◌, ◌<◌, ◌+◌, ◌-◌, ◌^◌, ◌&&◌, ◌||◌, ◌++◌, ◌∷◌, ◌∙◌, [], All, All-append, All-cons, All-contains, All-contains_itself, All-filter, All-nil}
pub use Rattle.state_laws.proofs.Words.{AlongTrain, Bool, Contains, Contains-append_left, Contains-append_right, Contains-filter, Edge, Event, IsLiveAt, IsValid, IsWellFormed}
pub use Rattle.state_laws.proofs.Words.{Key, List, Message, Network, None, Option, Override, Planned, Some, State, and_from, and_parts, ap, arith, cases_Bool, cond, cond_both, eqb-true}
pub use Rattle.state_laws.proofs.Words.{false, false_from_ne_true, filter_passes, floor_of, get_or, inl, inr, incoming-leads, incoming-there, is_fed_by, is_live_key, later, length, list_any, live_events}
pub use Rattle.state_laws.proofs.Words.{live_only, map, named, nat_eq, event_named, node_of, not, option_map, or_cases, or_parts, override_of, refl, same-is, same-itself, same_node-itself}
pub use Rattle.state_laws.proofs.Words.{subst, suc, sym, time-local, train_edges, transfer_edges, true, true_from_ne_false, unwrap_or, valid-graph, ℕ}
unfoldable pub use Rattle.state_laws.proofs.Words.{changed, edges, effect, event_time, events, incoming, is_before, is_same, is_same_node, local, refusal, time, touched, transfer}
pub use Rattle.std.proofs.Common.{filter}
pub use Rattle.std.specs.List.{fold, sum_by}
pub use Rattle.std.specs.List.Sorted.{IsPermutation}
pub use Rattle.state_laws.proofs.Changed.{Contains-map}
pub use Rattle.state_laws.proofs.Mappings.{contains-unmap}
pub use Rattle.state_laws.proofs.Parts.{transfers-each}
pub use Rattle.state_laws.proofs.Stays.{stays-valid}
pub use Rattle.state_laws.proofs.Values.{any-there}
unfoldable pub use Rattle.train_nodes.specs.Times.{time_of}
pub use Rattle.train_nodes.specs.Times.{StoredTimes, no_time}
pub use Rattle.edge_rules.specs.AtEvent.{stored_time}
pub use Rattle.edge_rules.specs.Deciding.{may_change, may_decide}
pub use Rattle.edge_rules.specs.GraphState.{GraphState}
pub use Rattle.rank_order.specs.Marked.{Marked, is_marked}
pub use Rattle.propagate.specs.LiveKeys.{HasItsTime, has_another, key_order, live_keys, time_change_at}
pub use Rattle.propagate.specs.Reads.{reads_of}
pub use Rattle.propagate.specs.Settling.{FollowsRule, is_due, has_changed_feeder, reads_at}
pub use Rattle.mt_base.specs.Sorted.{in_order, placed}
pub use Rattle.propagate.specs.Unsettled.{AreStored, is_fed_by_new, is_unsettled}
