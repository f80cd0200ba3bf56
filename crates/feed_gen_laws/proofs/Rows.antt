-- The records of a text that is rows of plain fields.
use Rattle.feed_gen_laws.proofs.Words.{List, Some, [], ap, append-nil, append_assoc, arith, codes, default_writer, flat_map, length, map, next_record, range_with_len, records_from, records_of, refl, row, strip_bom, suc, sym, texts_below, zero, ℕ, ◌++◌, ◌+◌, ◌<◌, ◌∙◌, ◌∷◌, ◌≡◌, ◌≤◌}
use Rattle.std.proofs.Common.{length-append}
use Rattle.std.proofs.lemmas.Grind.{flat_map-append}
use Rattle.std.proofs.lemmas.List.FromFn.{map-range_with_len_more}
use Rattle.std.specs.List.{join_with_byte}
use Rattle.csv.proofs.RoundTrip.{read-write-many}
use Rattle.csv.specs.Reading.{default_config}
use Rattle.csv.specs.Writing.{field_text, fields_text, is_blank}
use Rattle.csv.specs.declared.parser.State.TheVariants as st
use Rattle.feed_gen_laws.proofs.Fields.{ArePlain, plain-quotes}
use Rattle.feed_gen_laws.proofs.PlainTexts.{IsPlain}

-- ---- one row

field-is : (field : List ℕ) → IsPlain field → field_text default_writer field ≡ field
field-is field plain = rw (plain-quotes field plain) refl

-- a row as `csv` writes it, and what follows
rest-is : (field : List ℕ) (fields : List (List ℕ)) (lf : List ℕ) → ArePlain (field ∷ fields) → field_text default_writer field ++ fields_text default_writer fields ++ lf ≡ join_with_byte 44 (field ∷ fields) ++ lf
unfolding fields_text
rest-is field [] lf plain = rw (field-is field plain.0, append-nil field) refl
rest-is field (next ∷ fields) lf plain =
    rw (field-is field plain.0, append_assoc field (44 ∷ (field_text default_writer next ++ fields_text default_writer fields)) lf, append_assoc field (44 ∷ join_with_byte 44 (next ∷ fields)) lf) (ap (λ t. field ++ (44 ∷ t)) (rest-is next fields lf plain.1))

-- a row of more than one field is read as its fields, whatever follows
row-read : (fields : List (List ℕ)) (rest : List ℕ) → ArePlain fields → 2 ≤ length fields → next_record default_config st.StartRecord [] [] (row fields ++ rest) ≡ Some (fields, st.StartRecord, rest)
unfolding is_blank
row-read [] rest plain many = absurd (omega arith)
row-read (field ∷ []) rest plain many = absurd (omega arith)
row-read (field ∷ next ∷ fields) rest plain many =
    rw (← rest-is field (next ∷ fields) (10 ∷ []) plain) (read-write-many field next fields rest)

-- ---- all rows

-- plain fields, and more than one of them
abbrev pub IsRow : List (List ℕ) → Type 0
IsRow fields = ArePlain fields × (2 ≤ length fields)

abbrev AreRows : List (List (List ℕ)) → Type 0
AreRows [] = Unit {0}
AreRows (fields ∷ rows) = IsRow fields × AreRows rows

-- no row is left
from-end : (n : ℕ) → records_from default_config n st.StartRecord [] ≡ []
unfolding records_from next_record
from-end zero = refl
from-end (suc n) = refl

-- with more turns than bytes, each row is a record
from-rows : (n : ℕ) (rows : List (List (List ℕ))) → AreRows rows → length (flat_map row rows) < n → records_from default_config n st.StartRecord (flat_map row rows) ≡ rows
unfolding records_from
from-rows n [] h few = from-end n
from-rows zero (fields ∷ rows) h few = absurd (omega arith)
from-rows (suc n) (fields ∷ rows) h few =
    rw (row-read fields (flat_map row rows) h.0.0 h.0.1) (ap (λ rest. fields ∷ rest) (from-rows n rows h.1 (omega (arith, length-append (row fields) (flat_map row rows), length-append (join_with_byte 44 fields) (codes "\n")))))

-- the numbers from 0 to below n
abbrev pub numbers : ℕ → List ℕ
numbers n = range_with_len 0 n

-- P holds of each number below n
abbrev pub Each : (ℕ → Type 0) → ℕ → Type 0
Each P n = (k : ℕ) → k < n → P k

rows-from : (fields : ℕ → List (List ℕ)) (at n : ℕ) → Each (λ k. IsRow (fields k)) (at + n) → AreRows (map fields (range_with_len at n))
rows-from fields at zero h = tt
rows-from fields at (suc n) h = (h at (omega arith), rows-from fields (at + 1) n (λ k l. h k (omega arith)))

pub one-more : {A : Type 0} (f : ℕ → A) (n : ℕ) → map f (numbers (suc n)) ≡ map f (numbers n) ++ f n ∷ []
one-more f n = let e : suc n ≡ n + 1 = omega arith in ap (λ m. map f (numbers m)) e ∙ map-range_with_len_more f 0 n n (omega arith)

-- the texts of rows, one behind the other
texts-rows : (fields : ℕ → List (List ℕ)) (n : ℕ) → texts_below (λ k. row (fields k)) n ≡ flat_map row (map fields (numbers n))
unfolding texts_below
texts-rows fields zero = refl
texts-rows fields (suc n) =
    ap (λ t. t ++ row (fields n)) (texts-rows fields n) ∙ ap (λ t. flat_map row (map fields (numbers n)) ++ t) (sym (append-nil (row (fields n))))
    ∙ sym (flat_map-append row (map fields (numbers n)) (fields n ∷ [])) ∙ ap (flat_map row) (sym (one-more fields n))

-- the records of a table are its header and its rows
pub table-records : (table : List ℕ) (header : List (List ℕ)) (fields : ℕ → List (List ℕ)) (n : ℕ) → strip_bom table ≡ table → table ≡ row header ++ texts_below (λ k. row (fields k)) n → IsRow header → Each (λ k. IsRow (fields k)) n
    → records_of table ≡ header ∷ map fields (numbers n)
unfolding records_of
table-records table header fields n plain is first each =
    let whole : table ≡ flat_map row (header ∷ map fields (numbers n)) = is ∙ ap (λ t. row header ++ t) (texts-rows fields n) in
    rw (plain, whole) (from-rows (length (flat_map row (header ∷ map fields (numbers n))) + 1) (header ∷ map fields (numbers n)) (first, rows-from fields 0 n (λ k l. each k (omega arith))) (omega arith))
