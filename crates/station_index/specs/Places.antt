-- Where entries stand in a list.
use Rattle.std.specs.Prelude.{◌≡◌, ℕ, ◌≤◌, Bool, List, true, false, length}
use Rattle.std.specs.declared.cmp.Ordering.{Ordering}
use Rattle.std.specs.List.{AllWithin}
use Rattle.std.specs.Ordering.{nat_cmp, bool_cmp, ordering_then, is_lt, is_gt}
use Rattle.mt_base.specs.declared.index_entries.Entry.{Entry}

-- an entry against a stop, a kind of event and a time
abbrev pub range_cmp : ℕ → Bool → ℕ → Entry → Ordering
range_cmp stop dep time e =
    ordering_then (nat_cmp e.stop stop) (ordering_then (bool_cmp e.dep dep) (nat_cmp e.time time))

-- it stands before those at the stop and of the kind that are scheduled at the time or later
abbrev pub is_before_range : ℕ → Bool → ℕ → Entry → Bool
is_before_range stop dep lo e = is_lt (range_cmp stop dep lo e)

-- it stands after those at the stop and of the kind that are scheduled at the time or earlier
abbrev pub is_past_range : ℕ → Bool → ℕ → Entry → Bool
is_past_range stop dep hi e = is_gt (range_cmp stop dep hi e)

-- the entries that pass a test stand beside each other, from one place up to another
pub record IsRangeAt (passes : Entry → Bool) (es : List Entry) (first last : ℕ) : Type 0 where
  pub order : first ≤ last
  pub within : last ≤ length es
  pub before : AllWithin (λ e. passes e ≡ false) es 0 first
  pub inside : AllWithin (λ e. passes e ≡ true) es first last
  pub after : AllWithin (λ e. passes e ≡ false) es last (length es)
