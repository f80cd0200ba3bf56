-- A table of rows of plain fields, read row by row.
use Rattle.feed_gen_laws.proofs.Words.{List, Ok, Some, [], ap, arith, holds, le-ltb, length, length-map-range_with_len, map, nat_tests, place_of, range_with_len, records_of, refl, row, rows_from, strip_bom, suc, table_from, texts_below, true, zero, ℕ, ◌++◌, ◌+◌, ◌<◌, ◌∙◌, ◌∷◌, ◌≡◌, ◌≤◌}
use Rattle.std.proofs.Common.{◌==◌}
use Rattle.std.proofs.lemmas.List.FromFn.{get_or-map-range_with_len}
use Rattle.std.proofs.lemmas.Option.{slice_get-get_or}
use Rattle.std.specs.Prelude.{slice_get}
use Rattle.gtfs_tables.specs.Checks.{Step}
use Rattle.gtfs_tables.specs.Columns.{column_name, has_columns}
use Rattle.gtfs_tables.specs.Feeds.{content_of}
use Rattle.feed_gen_laws.proofs.Fields.{ArePlain, all-utf8, fields-plain, whole_field}
use Rattle.feed_gen_laws.proofs.Rows.{Each, IsRow, numbers, table-records}

-- the type of what a function takes: it names a type that its crate keeps to itself
abbrev pub domain : {A B : Type 0} → (A → B) → Type 0
domain {A} f = A

-- a row of plain fields, as many as the header has, makes of the state before it the one after it
pub record IsGood {S : Type 0} (step : Step S) (header fields : List (List ℕ)) (row : ℕ) (before after : S) : Type 0 where
  pub plain : ArePlain fields
  pub width : length fields ≡ length header
  pub steps : step row (whole_field (place_of header) fields) before ≡ Ok after

good-row : {S : Type 0} (step : Step S) (header fields : List (List ℕ)) (row : ℕ) (before after : S) (rest : List (List (List ℕ))) → IsGood step header fields row before after
    → rows_from step header row before (fields ∷ rest) ≡ rows_from step header (row + 1) after rest
unfolding rows_from
good-row step header fields row before after rest good =
    let wide : (length fields == length header) ≡ true = grind (arith, nat_tests, good.width) in
    rw (wide, all-utf8 fields good.plain, fields-plain header fields good.plain, good.steps) refl

-- the rows from one on
rows-made : {S : Type 0} (step : Step S) (header : List (List ℕ)) (fields : ℕ → List (List ℕ)) (state : ℕ → S) (at n : ℕ) → Each (λ k. IsGood step header (fields k) (k + 2) (state k) (state (suc k))) (at + n)
    → rows_from step header (at + 2) (state at) (map fields (range_with_len at n)) ≡ Ok (state (at + n))
unfolding rows_from
rows-made step header fields state at zero each = let e : at + 0 ≡ at = omega arith in rw e refl
rows-made step header fields state at (suc n) each =
    let row : at + 2 + 1 ≡ suc at + 2 = omega arith in
    let next : at + 1 ≡ suc at = omega arith in
    let last : at + suc n ≡ suc at + n = omega arith in
    good-row step header (fields at) (at + 2) (state at) (state (suc at)) (map fields (range_with_len (at + 1) n)) (each at (omega arith))
    ∙ rw (row, next, last) (rows-made step header fields state (suc at) n (λ k l. each k (omega arith)))

-- what all rows of a table make
pub table-made : {S : Type 0} (table : List ℕ) (needed : List (domain column_name)) (step : Step S) (header : List (List ℕ)) (fields : ℕ → List (List ℕ)) (state : ℕ → S) (n : ℕ) → strip_bom table ≡ table → table ≡ row header ++ texts_below (λ k. row (fields k)) n → IsRow header → has_columns header needed ≡ true
    → Each (λ k. IsGood step header (fields k) (k + 2) (state k) (state (suc k))) n → table_from needed step (state 0) (records_of table) ≡ Ok (state n)
unfolding table_from
table-made table needed step header fields state n plain is first has each =
    let e : 0 + n ≡ n = omega arith in
    rw (table-records table header fields n plain is first (λ k l. let good = each k l in (good.plain, omega (arith, good.width, first.1))), all-utf8 header first.0, has) (rw e at (rows-made step header fields state 0 n (λ k l. each k (omega arith))))

-- a table that is short enough
pub content-holds : (table : List ℕ) → length table ≤ 268435456 → content_of (Some table) ≡ holds (records_of table)
content-holds table short = rw (le-ltb 268435456 (length table) short) refl

-- ---- lists over the numbers below a bound

pub map-map : {A B C : Type 0} (g : B → C) (f : A → B) (xs : List A) → map g (map f xs) ≡ map (λ x. g (f x)) xs
map-map g f [] = refl
map-map g f (x ∷ xs) = ap (λ ys. g (f x) ∷ ys) (map-map g f xs)

pub at-place : {A : Type 0} (f : ℕ → A) (n k : ℕ) → k < n → slice_get (map f (numbers n)) k ≡ Some (f k)
at-place f n k small =
    slice_get-get_or (map f (numbers n)) k (f k) (omega (arith, length-map-range_with_len f 0 n)) ∙ ap (λ x. Some x) (get_or-map-range_with_len f 0 n k k (f k) small (omega arith))
