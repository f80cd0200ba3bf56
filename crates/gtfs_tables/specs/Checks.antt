-- What the records of a table mean, row by row, or the first fault in them.
use Rattle.std.specs.Prelude.{ℕ, ◌≡◌, ◌+◌, ◌==◌, ◌&&◌, List, [], ◌∷◌, Bool, true, false, length, if◌then◌else◌, Some, None, Result, Ok, Err, ⊤}
use Rattle.std.specs.declared.option.Option.{Option}
use Rattle.std.specs.Str.{is_utf8}
use Rattle.gtfs_tables.specs.declared.columns.Column.{Column}
use Rattle.gtfs_tables.specs.declared.faults.Cause.{Cause}
use Rattle.gtfs_tables.specs.declared.faults.Cause.TheVariants.{NoColumn, FieldCount, NotUtf8}
use Rattle.gtfs_tables.specs.declared.faults.Fault.{Fault}
use Rattle.gtfs_tables.specs.declared.faults.TableError.{TableError}
use Rattle.gtfs_tables.specs.declared.faults.TableError.TheVariants as errors
use Rattle.gtfs_tables.specs.Columns.{has_columns, field_in}

-- the first fault ends the reading
infixl 10 ◌>>=◌
abbrev pub ◌>>=◌ : {A B E : Type 0} → Result A E → (A → Result B E) → Result B E
(Ok x) >>= f = f x
(Err e) >>= f = Err e

-- the fault of a row
abbrev pub fault : ℕ → Cause → Fault
fault row cause = record { row = row; cause = cause }

-- what is there, else a fault
abbrev pub need : {A : Type 0} → Fault → Option A → Result A Fault
need f None = Err f
need f (Some x) = Ok x

-- nothing where the test holds, else a fault
abbrev pub check : Fault → Bool → Result (Unit {0}) Fault
check f true = Ok tt
check f false = Err f

-- every field is UTF-8
abbrev pub all_utf8 : List (List ℕ) → Bool
all_utf8 [] = true
all_utf8 (field ∷ fields) = is_utf8 field && all_utf8 fields

-- the header, which is row 1: its fields are UTF-8, and then each needed column is there
abbrev pub check_header : List Column → List (List ℕ) → Result (Unit {0}) Fault
check_header needed header = if all_utf8 header then check (fault 1 NoColumn)
    (has_columns header needed) else Err (fault 1 NotUtf8)

-- a row behind the header: it has as many fields as the header, and then its fields are UTF-8
abbrev pub check_row : ℕ → ℕ → List (List ℕ) → Result (Unit {0}) Fault
check_row row width fields = if length fields == width then check (fault row NotUtf8)
    (all_utf8 fields) else Err (fault row FieldCount)

-- what a row makes of what the rows before it made, by its number and its field in each column
abbrev pub Step : Type 0 → Type 0
Step S = ℕ → (Column → List ℕ) → S → Result S Fault

-- the rows from a number on, one after the other
unfoldable pub rows_from : {S : Type 0} → Step S → List (List ℕ) → ℕ → S → List (List (List ℕ))
    → Result S Fault
rows_from step header row s [] = Ok s
rows_from step header row s (fields ∷ rest) = do
  _ ← check_row row (length header) fields
  next ← step row (field_in header fields) s
  rows_from step header (row + 1) next rest

-- a table, by all its records: the header, which must be there, and then its rows
unfoldable pub table_from : {S : Type 0} → List Column → Step S → S → List (List (List ℕ))
    → Result S Fault
table_from needed step s [] = Err (fault 1 NoColumn)
table_from needed step s (header ∷ rows) = do
  _ ← check_header needed header
  rows_from step header 2 s rows

-- an error is want of memory, or the fault that reading finds
abbrev pub Fails : {Y : Type 0} → TableError → Result Y Fault → Type 0
Fails errors.OutOfMemory read = ⊤
Fails (errors.Bad f) read = read ≡ Err f

-- what was made, as it is seen, is what reading gives; an error is want of memory or the fault that
-- reading finds
abbrev pub Gives : {X Y : Type 0} → (X → Y) → Result X TableError → Result Y Fault → Type 0
Gives view (Ok x) read = read ≡ Ok (view x)
Gives view (Err e) read = Fails e read
