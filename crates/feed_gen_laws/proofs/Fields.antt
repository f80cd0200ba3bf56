-- Fields of plain bytes: such a field needs no quotes, has no blanks and is UTF-8.
use Rattle.feed_gen_laws.proofs.Words.{List, None, Option, Some, [], arith, default_writer, false, get_or, is_utf8, nat_tests, place_of, refl, suc, true, zero, ℕ, ◌∷◌, ◌≡◌}
use Rattle.std.proofs.Common.{reverse}
use Rattle.std.proofs.lemmas.List.{reverse-append, reverse-reverse}
use Rattle.std.proofs.lemmas.Str.{IsUtf8-from_ascii, is_utf8-from_IsUtf8}
use Rattle.std.specs.List.{list_any}
use Rattle.std.specs.Option.{option_map_or}
use Rattle.csv.specs.Writing.{needs_byte}
use Rattle.gtfs_tables.specs.Checks.{all_utf8}
use Rattle.gtfs_tables.specs.Columns.{field_at_place, field_in}
use Rattle.gtfs_tables.specs.Fields.{trim_start, trimmed}
use Rattle.feed_gen_laws.proofs.PlainTexts.{IsPlain, plain-append, plain-ascii}

-- it needs no quotes
pub plain-quotes : (field : List ℕ) → IsPlain field → list_any (needs_byte default_writer) field ≡ false
plain-quotes [] plain = refl
plain-quotes (byte ∷ field) plain = grind (arith, nat_tests, plain-quotes field)

-- it has no blanks round it
reverse-plain : (field : List ℕ) → IsPlain field → IsPlain (reverse field)
reverse-plain [] plain = refl
reverse-plain (byte ∷ field) plain =
    rw (reverse-append (byte ∷ []) field) (plain-append (reverse field) (byte ∷ []) (reverse-plain field (grind arith)) (grind arith))

start-plain : (field : List ℕ) → IsPlain field → trim_start field ≡ field
start-plain [] plain = refl
start-plain (byte ∷ field) plain = grind (arith, nat_tests)

pub plain-trimmed : (field : List ℕ) → IsPlain field → trimmed field ≡ field
plain-trimmed field plain =
    rw (start-plain field plain, start-plain (reverse field) (reverse-plain field plain)) (reverse-reverse field)

-- it is UTF-8
pub plain-utf8 : (field : List ℕ) → IsPlain field → is_utf8 field ≡ true
plain-utf8 field plain = is_utf8-from_IsUtf8 field (IsUtf8-from_ascii field (plain-ascii field plain))

-- ---- rows of such fields

abbrev pub ArePlain : List (List ℕ) → Type 0
ArePlain [] = Unit {0}
ArePlain (field ∷ fields) = IsPlain field × ArePlain fields

pub all-utf8 : (fields : List (List ℕ)) → ArePlain fields → all_utf8 fields ≡ true
all-utf8 [] plain = refl
all-utf8 (field ∷ fields) plain = rw (plain-utf8 field plain.0, all-utf8 fields plain.1) refl

-- the field of a row in a column, with what stands round it, by where each column stands
abbrev pub whole_field : {C : Type 0} → (C → Option ℕ) → List (List ℕ) → C → List ℕ
whole_field place fields column = option_map_or (λ at. get_or fields at []) (place column) []

get-plain : (fields : List (List ℕ)) (at : ℕ) → ArePlain fields → IsPlain (get_or fields at [])
get-plain [] at plain = refl
get-plain (field ∷ fields) zero plain = plain.0
get-plain (field ∷ fields) (suc at) plain = get-plain fields at plain.1

place-plain : (fields : List (List ℕ)) (place : Option ℕ) → ArePlain fields → field_at_place fields place ≡ option_map_or (λ at. get_or fields at []) place []
place-plain fields None plain = refl
place-plain fields (Some at) plain = plain-trimmed (get_or fields at []) (get-plain fields at plain)

-- blanks that are passed over change nothing
pub fields-plain : (header fields : List (List ℕ)) → ArePlain fields → field_in header fields ≡ whole_field (place_of header) fields
fields-plain header fields plain = λ i column. place-plain fields (place_of header column) plain i
