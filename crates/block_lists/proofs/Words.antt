-- The words that the proofs on blocks cite, passed on from one place.
pub use Rattle.std.proofs.Common.{◌≡◌, ◌≢◌, ℕ, zero, suc, ◌+◌, ◌-◌, ◌*◌, ◌/◌, ◌%◌, ◌<◌, ◌≤◌, List, [], ◌∷◌, length, get_or, take, drop, refl, sym, ◌∙◌, ap, subst, arith, inl, inr, min, rules, nat_eq}
pub use Rattle.std.proofs.Math.ListN.{set}
pub use Rattle.std.proofs.lemmas.Bool.{cases_eq, cases_lt}
pub use Rattle.std.proofs.lemmas.Bool.Decides.{nat_tests}
pub use Rattle.std.proofs.lemmas.List.{get_or-append_right, get_or-drop, get_or-set_other, get_or-set_same, get_or-take, get_or_append_left, get_or_default, length-drop, length-set, length-take, length-take-le, same_lists, take_at}
pub use Rattle.std.proofs.lemmas.List.Edits.{get_or-insert_above, get_or-insert_at, get_or-insert_below, get_or-remove_above, get_or-remove_below, length-insert, length-remove}
pub use Rattle.std.specs.List.{RotatedLeft, insert, remove}
pub use Rattle.block_lists.specs.Blocks.{AreBlocks, AreSame, Blocks, IsMovedBack, IsMovedOn, IsShiftedBack, IsShiftedOn, element, elements, followed, listed, moved_on, stored_at}
pub use borrow.Rule.Slice.PartMut.{mid_of, put_mid}
pub use Rattle.std.proofs.Common.{Bool, Equal, Greater, Less, Ordering, false, of_calls, true}
pub use Rattle.std.specs.Fn.{ComputesKey}
pub use Rattle.std.specs.Ordering.{is_gt}
