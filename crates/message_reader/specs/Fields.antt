-- Members of an object: texts, labels and lists.
use Rattle.std.specs.Prelude.{ℕ, ◌^◌, List, Bool, true, false, if◌then◌else◌, Some, None, is_some, option_map, option_and_then, bytes_eq, codes}
use Rattle.std.specs.declared.option.Option.{Option}
use Rattle.mt_base.specs.Texts.{below}
use Rattle.serde_json.specs.Data.{Data, Items}
use Rattle.serde_json.specs.Find.{get, as_null, as_str, as_number, as_u64, as_array}

-- the text of a member; None where the value is no object, has no such member, or the member is no
-- text
abbrev pub text_at : List ℕ → Data → Option (List ℕ)
text_at key d = option_and_then as_str (get key d)

-- the text of a member that may be null: `Some None` where it is
abbrev pub text_or_null_at : List ℕ → Data → Option (Option (List ℕ))
text_or_null_at key d =
    option_and_then (λ m. if is_some (as_null m) then Some None
    else option_map (λ text. Some text) (as_str m))
    (get key d)

-- the whole number of a member: a literal from 0 to 2^64 - 1 with no sign, fraction or exponent
abbrev pub number_at : List ℕ → Data → Option ℕ
number_at key d = option_and_then as_u64 (option_and_then as_number (get key d))

-- the label of a member: a whole number up to 4,294,967,295
abbrev pub label_at : List ℕ → Data → Option ℕ
label_at key d = option_and_then (below (2 ^ 32)) (number_at key d)

-- the list of a member
abbrev pub items_at : List ℕ → Data → Option Items
items_at key d = option_and_then as_array (get key d)

-- whether an event is a departure
abbrev pub departure_of : List ℕ → Option Bool
departure_of text = if bytes_eq text (codes "arr") then Some false
    else (if bytes_eq text (codes "dep") then Some true else None)
