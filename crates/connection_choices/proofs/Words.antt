-- The words that the proofs on choices for connections cite, passed on from one place.
pub use Rattle.delay_model.proofs.ConnectionLemmas.{connections_total, exact_connections}
pub use Rattle.delay_model.specs.Overrides.{connection, connection_cmp, is_keep}
pub use Rattle.delay_model.specs.declared.overrides.Connection.{Connection}
pub use Rattle.delay_model.specs.declared.overrides.Override.{Override}
pub use Rattle.delay_model.specs.declared.overrides.Override.TheVariants.{Keep}
pub use Rattle.mt_base.proofs.KeyLemmas.{exact_nodes, nodes_total, same_node-is, same_node-itself}
unfoldable pub use Rattle.mt_base.specs.Order.{is_same_node}
pub use Rattle.mt_base.specs.Order.{node_cmp}
pub use Rattle.mt_base.specs.declared.keys.Node.{Node}
pub use Rattle.std.proofs.Common.{Bool, Contains, Equal, Greater, IfErr, IfOk, Less, List, None, Ordering, Result, Some, T, [], ap, arith, cond, drop, false, get_or}
pub use Rattle.std.proofs.Common.{length, map, nat_le, nat_lt, not, refl, rules, set, suc, sym, take, true, zero, ℕ, ◌&&◌, ◌+◌, ◌-◌, ◌<◌, ◌↔◌, ◌∙◌, ◌∷◌, ◌≡◌, ◌≤◌}
pub use Rattle.std.proofs.Math.Seq.{drop-nil, take-nil}
pub use Rattle.std.proofs.lemmas.Bool.{and_parts, cases_lt}
pub use Rattle.std.proofs.lemmas.Bool.Decides.{nat_tests}
pub use Rattle.std.proofs.lemmas.Cmp.{alike_right, eq_by_cmp_equiv, on_total, then_total, tied_back, tied_itself}
pub use Rattle.std.proofs.lemmas.Fn.{always_returns_same, filter_same}
pub use Rattle.std.proofs.lemmas.List.{length-map}
pub use Rattle.std.proofs.lemmas.List.Elements.{All-cons, filter_passes}
pub use Rattle.std.proofs.lemmas.List.Kept.{AllPairs-cons, AllPairs-filter}
pub use Rattle.std.proofs.lemmas.List.Sorted.{IsPartitionPoint-from_clause, searchable_from_sorted}
pub use Rattle.std.proofs.lemmas.Map.Views.{Contains-from_any, list_any-from_Contains, tells_apart}
pub use Rattle.std.specs.Bool.{passes}
pub use Rattle.std.specs.Cmp.{IsTotalOrder}
pub use Rattle.std.specs.FinMap.{FinMap, IsAntisymmetric, entries, entries-from_sorted, entries_sorted, find, from_entries, from_sorted, get-entries, get-from_entries}
pub use Rattle.std.specs.FinMap.{get-from_sorted, get-insert, get-remove, get-retain_keys, is_sorted, len, len-entries, len-insert, put, same_map}
pub use Rattle.std.specs.FinMap.Entries.{below_all, find-put, find-where_key, is_sorted-put, is_sorted-where_key, length-put, length_without, same_entries, where_key}
pub use Rattle.std.specs.List.{All, AllPairs, HoldsAt, filter, insert, list_any, remove}
pub use Rattle.std.specs.List.Sorted.{IsBinarySearchResult, IsPartitionPoint, IsPartitionedBy, IsSearchInRange}
pub use Rattle.std.specs.Ordering.{eq_by_cmp, is_eq, is_gt, is_le, is_lt, ordering_index, ordering_then}
unfoldable pub use Rattle.connection_choices.specs.Keeps.{kept_from, kept_into}
pub use Rattle.connection_choices.specs.OverrideRows.{end_cmp, event_across, event_at, kept_across, names_event, rows_at}
pub use Rattle.connection_choices.specs.StoredOverrides.{AreTurned}
pub use Rattle.connection_choices.specs.declared.override_rows.End.{End}
pub use Rattle.connection_choices.specs.declared.override_rows.End.TheVariants.{Arrival, Departure}
