-- What the proofs of this crate speak of.
pub use Rattle.change_times.specs.ChangeTables.{ChangeTables, HaveSameChanges, without_id}
pub use Rattle.change_times.specs.Cuts.{cut}
pub use Rattle.change_times.specs.Listed.{change_at}
unfoldable pub use Rattle.change_times.specs.Listed.{listed}
pub use Rattle.change_times.specs.Near.{AreOf, HaveMembers, HaveRows, allows, has_default, link_of, links_in, member, near, other_of, own_members, with_members}
unfoldable pub use Rattle.change_times.specs.Reach.{pairs, reached, reached_back}
pub use Rattle.change_times.specs.Stored.{HaveOwnPairs, HaveStarts, IsByPair, IsKept, from_of, is_from, is_same_pair, is_to, place_of, to_of}
unfoldable pub use Rattle.change_times.specs.Stored.{HaveSameFirsts}
pub use Rattle.change_times.specs.declared.change.Change.{Change}
pub use Rattle.change_times.specs.declared.links.Link.{Link}
pub use Rattle.change_times.specs.declared.near.Direction.{Direction}
pub use Rattle.change_times.specs.declared.near.Direction.TheVariants.{Back, Onward}
pub use Rattle.change_times.specs.declared.near.Nearby.{Nearby}
pub use Rattle.delay_model.proofs.Lists.{Contains-cases, Contains-filter}
pub use Rattle.delay_model.specs.Changes.{change_by, deciding_row, first_row, is_looked_at, is_row_of, is_stop, is_stop_or_station, kind_of, station, station_by}
unfoldable pub use Rattle.delay_model.specs.Changes.{change}
pub use Rattle.feed_tables.proofs.TripRowLemmas.{part-is}
pub use Rattle.mt_base.specs.Places.{is_platform, is_platform_or_station}
pub use Rattle.mt_base.specs.declared.places.PlaceKind.{PlaceKind}
pub use Rattle.mt_base.specs.declared.places.PlaceKind.TheVariants.{Platform}
pub use Rattle.mt_base.specs.declared.tables.StopRow.{StopRow}
pub use Rattle.mt_base.specs.declared.tables.Tables.{Tables}
pub use Rattle.mt_base.specs.declared.tables.TransferRow.{TransferRow}
pub use Rattle.std.proofs.Common.{All, Bool, IfSome, IsTrue, List, None, Option, Some, [], ap, arith, cond, drop, false, find, get_or, inl, inr, length, map, nat_eq, refl, rules, subst, suc, sym, take, true, zero, ℕ, ◌&&◌, ◌++◌, ◌+◌, ◌-◌, ◌<◌, ◌∙◌, ◌∷◌, ◌≡◌, ◌≤◌, ◌⊎◌}
pub use Rattle.std.proofs.Math.Dec.{leb, ltb}
pub use Rattle.std.proofs.lemmas.Bool.{and_parts, cases_Bool, cases_lt, cases_order, eq-eqb, eqb-true, le-ltb, lt-ltb, ltb-false, ltb-true}
pub use Rattle.std.proofs.lemmas.List.{get_or-map, length-map, take_all}
pub use Rattle.std.proofs.lemmas.List.Elements.{All-contains, All-contains_itself, All-weaker, filter_passes}
pub use Rattle.std.proofs.lemmas.List.Filters.{All-dedup}
pub use Rattle.std.proofs.lemmas.List.FromFn.{get_or-map-range_with_len, length-map-range_with_len, map-range_with_len_more}
pub use Rattle.std.proofs.lemmas.List.Sorted.{Contains-permutation, IsNonDecreasingBy-from_sort, IsPartitionPoint-from_clause, IsPartitionedBy-ltb, answers_always}
pub use Rattle.std.proofs.lemmas.Result.{IfOk-equal, IfOk-weaker}
pub use Rattle.std.specs.List.{Contains, dedup, filter, filter_map, flat_map, range_with_len, sum_by}
pub use Rattle.std.specs.List.Sorted.{IsNonDecreasingBy, IsPartitionPoint, IsPermutation, IsStrictlyIncreasing}
pub use Rattle.std.specs.Option.{option_map, option_map_or, option_or}
pub use Rattle.std.specs.Prelude.{if◌then◌else◌, slice_get}
