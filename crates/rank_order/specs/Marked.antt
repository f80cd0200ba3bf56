-- Events that are marked, in the order of their keys.
use Rattle.std.specs.Prelude.{◌≡◌, ℕ, List, Bool, true, refl}
use Rattle.std.specs.Coded.{Coded, code_by, coded×, coded_list, coded_ℕ}
use Rattle.std.specs.List.{AllPairs, list_any}
use Rattle.mt_base.specs.declared.keys.Key.{Key}
use Rattle.mt_base.specs.contracts.keys.Key.{the_row as key_row}
use Rattle.mt_base.specs.Order.{is_before, is_same}

-- the keys of the events that are marked, each before those after it, and how many can be marked at
-- once
pub record Marked : Type 0 where
  pub keys : List Key
  pub room : ℕ

abbrev pub keys_code : Coded (List Key)
keys_code = coded_list key_row.coded

abbrev pub marked_code : Coded Marked
marked_code =
    code_by (List Key × ℕ) (coded× keys_code coded_ℕ) (λ m. (m.keys, m.room))
    (λ p. record { keys = p.0; room = p.1 }) (λ _. refl)

-- one of these keys is this one
abbrev pub has_key : List Key → Key → Bool
has_key ks k = list_any (λ q. is_same q k) ks

-- the event of this key is marked
abbrev pub is_marked : Marked → Key → Bool
is_marked m k = has_key m.keys k

-- each key is before those after it
abbrev pub Ascends : List Key → Type 0
Ascends ks = AllPairs (λ a b. is_before a b ≡ true) ks
