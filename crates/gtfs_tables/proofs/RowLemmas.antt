-- The rows that were read of any table, and those of the records that remain.
use Rattle.gtfs_tables.proofs.Words.{◌≡◌, ◌+◌, ◌∷◌, ℕ, List, Result, length, refl, arith, Column, Fault, Step, rows_from, ◌>>=◌, field_in, IsUnder}
use Rattle.gtfs_tables.specs.declared.sheets.Sheet.{Sheet}
use Rattle.gtfs_tables.specs.Checks.{check_row}

-- a table has the same header and columns after a row more
pub under_kept : (header : List (List ℕ)) (columns : List Column) (old new : Sheet) → new.width ≡ old.width → new.places ≡ old.places → IsUnder header columns old → IsUnder header columns new
under_kept header columns old new width places under = grind arith

-- one row more, which was checked or refused by its number of fields or its bytes
pub rows-one : {S : Type 0} (step : Step S) (header : List (List ℕ)) (row width : ℕ) (s : S) (fields : List (List ℕ)) (rest others : List (List (List ℕ))) (checked : Result (Unit {0}) Fault)
    → width ≡ length header → rest ≡ fields ∷ others → check_row row width fields ≡ checked
    → rows_from step header row s rest ≡ (checked >>= λ _. step row (field_in header fields) s >>= λ next. rows_from step header (row + 1) next others)
unfolding rows_from
rows-one step header row width s fields rest others checked wide split was = rw (split, ← was, wide) refl
