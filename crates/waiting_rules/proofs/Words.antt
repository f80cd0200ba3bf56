-- What the proofs of this crate speak of.
pub use Rattle.delay_model.specs.Waits.{is_empty_or}
pub use Rattle.mt_base.specs.declared.tables.RuleRow.{RuleRow}
pub use Rattle.std.proofs.Common.{All, Bool, List, None, Option, Ordering, Some, [], ap, arith, cond, drop, false, get_or, inl, inr, length, map, min, nat_eq, nat_lt, refl, rules, slice_get, slice_index_or, subst, suc, sym, take, true, unwrap_or, zero, ℕ, ◌&&◌, ◌++◌, ◌+◌, ◌<◌, ◌^◌, ◌||◌, ◌∙◌, ◌∷◌, ◌≡◌, ◌≤◌}
pub use Rattle.std.proofs.lemmas.Bool.{cases_Bool, cases_lt, false≢true, le-ltb, lt-ltb}
pub use Rattle.std.proofs.lemmas.Cmp.{eq_by_cmp_equiv}
pub use Rattle.std.proofs.lemmas.List.Folds.{list_any-append}
pub use Rattle.std.proofs.lemmas.Result.{IfOk-weaker}
pub use Rattle.std.specs.BTreeMap.{BTreeMap, get, is_at}
pub use Rattle.std.specs.Cmp.{IsEquivalence}
pub use Rattle.std.specs.List.{list_any, position, position_or_len}
pub use Rattle.std.specs.Map.{lookup}
pub use Rattle.std.specs.Option.{is_some, option_cmp, option_map_or, option_or}
pub use Rattle.std.specs.Ordering.{eq_by_cmp, is_eq, is_le, is_lt, nat_cmp, ordering_then}
pub use Rattle.std.specs.declared.cmp.Ordering.TheVariants.{Equal, Greater, Less}
pub use Rattle.waiting_rules.specs.Bounded.{ArePartsOf, HasSome, IsBoundOf, waits_among}
pub use Rattle.waiting_rules.specs.Indexed.{HasPlaces, is_in, place_of, scope}
pub use Rattle.waiting_rules.specs.Rules.{has_wait, is_for, makes_wait}
pub use Rattle.waiting_rules.specs.Scopes.{all_connecting, connecting_cmp, connecting_of, has_scope, is_connecting, row_of, scope_cmp, trains}
pub use Rattle.waiting_rules.specs.WaitTable.{WaitTable, some_waits, station_in}
pub use Rattle.waiting_rules.specs.Waiting.{HasWaiting, flag_at, in_waiting, names_stop}
pub use Rattle.waiting_rules.specs.declared.parts.Part.{Part}
pub use Rattle.waiting_rules.specs.declared.scopes.Connecting.{Connecting}
pub use Rattle.waiting_rules.specs.declared.scopes.Scope.{Scope}
