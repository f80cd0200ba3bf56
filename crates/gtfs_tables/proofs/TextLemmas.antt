-- Fields without blanks round them are text where the fields are.
use Rattle.gtfs_tables.proofs.Words.{◌≡◌, ◌<◌, ◌++◌, ◌∷◌, [], ℕ, zero, suc, List, Option, Some, None, true, length, reverse, get_or, inl, inr, ◌-◌, drop, refl, arith, IsUtf8-from_is_utf8, is_utf8-from_IsUtf8, IsUtf8, all_utf8, trim_start}
use Rattle.std.proofs.Math.Seq.{take-append_seam, get_or-append_seam}
use Rattle.std.proofs.lemmas.Bool.{cases_Bool}
use Rattle.std.proofs.lemmas.List.{reverse-append, reverse-reverse, length-append}
use Rattle.std.proofs.lemmas.Str.{IsUtf8-nil, IsUtf8-drop, IsUtf8-take, IsUtf8-from_ascii, IsAscii-drop, IsAscii-take, IsCharBoundary-after_ascii, IsCharBoundary-before_ascii}
use Rattle.std.specs.Str.{IsAscii}
use Rattle.csv.specs.Records.{cut_from}
use Rattle.gtfs_tables.specs.Columns.{field_at_place}
use Rattle.gtfs_tables.specs.Fields.{is_blank, trimmed}

-- a blank is ASCII
blank_small : (byte : ℕ) → is_blank byte ≡ true → byte < 128
blank_small byte blank = grind arith

pub trim_start_text : (bytes : List ℕ) → IsUtf8 bytes → IsUtf8 (trim_start bytes)
trim_start_text [] text = text
trim_start_text (byte ∷ bytes) text = elim (cases_Bool (is_blank byte)) [
  | inl blank ↦ rw blank (trim_start_text bytes (IsUtf8-drop (byte ∷ bytes) 1 text (IsCharBoundary-after_ascii (byte ∷ bytes) 0 text (omega arith) (blank_small byte blank))))
  | inr other ↦ rw other text
]

-- text without an ASCII byte at its end
front_text : (front : List ℕ) (byte : ℕ) → byte < 128 → IsUtf8 (front ++ byte ∷ []) → IsUtf8 front
front_text front byte small text =
    let whole = front ++ byte ∷ [] in
    let low : get_or whole (length front) 0 < 128 = rw get_or-append_seam small in
    rw (← take-append_seam front (byte ∷ [])) (IsUtf8-take whole (length front) text (IsCharBoundary-before_ascii whole (length front) (omega (arith, length-append front (byte ∷ []))) low))

trim_back_text : (back : List ℕ) → IsUtf8 (reverse back) → IsUtf8 (reverse (trim_start back))
trim_back_text [] text = text
trim_back_text (byte ∷ back) text = elim (cases_Bool (is_blank byte)) [
  | inl blank ↦ rw blank (trim_back_text back (front_text (reverse back) byte (blank_small byte blank) (rw (reverse-append (byte ∷ []) back) at text)))
  | inr other ↦ rw other text
]

pub trimmed_text : (bytes : List ℕ) → IsUtf8 bytes → IsUtf8 (trimmed bytes)
trimmed_text bytes text = trim_back_text (reverse (trim_start bytes)) (rw reverse-reverse (trim_start_text bytes text))

field_text : (fields : List (List ℕ)) (i : ℕ) → all_utf8 fields ≡ true → IsUtf8 (get_or fields i [])
field_text [] i good = IsUtf8-nil
field_text (field ∷ fields) zero good = grind (arith, IsUtf8-from_is_utf8 field)
field_text (field ∷ fields) (suc i) good = grind (arith, field_text fields i)

-- a field of a row whose fields are UTF-8 is text
pub cell_text : (fields : List (List ℕ)) (place : Option ℕ) → all_utf8 fields ≡ true → IsUtf8 (field_at_place fields place)
cell_text fields None good = IsUtf8-nil
cell_text fields (Some at) good = trimmed_text (get_or fields at []) (field_text fields at good)

-- fields of ASCII bytes are text
pub ascii-cut : (start : ℕ) (ends bytes : List ℕ) → IsAscii bytes → all_utf8 (cut_from start ends bytes) ≡ true
unfolding cut_from
ascii-cut start [] bytes ascii = refl
ascii-cut start (end ∷ ends) bytes ascii =
    let field = is_utf8-from_IsUtf8 _ (IsUtf8-from_ascii _ (IsAscii-take (drop start bytes) (end - start) (IsAscii-drop bytes start ascii))) in
    rw (field, ascii-cut end ends bytes ascii) refl
