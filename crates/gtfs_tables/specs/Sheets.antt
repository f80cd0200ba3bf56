-- How the reading of a table stands between two rows.
use Rattle.std.specs.Prelude.{ℕ, ◌≡◌, ◌++◌, List, [], ◌∷◌, Bool, true, false, length, map, slice_index_or, None, Result, Ok, Err, ⊤}
use Rattle.csv.specs.Records.{fields_of}
use Rattle.gtfs_tables.specs.declared.columns.Column.{Column}
use Rattle.gtfs_tables.specs.declared.faults.Fault.{Fault}
use Rattle.gtfs_tables.specs.declared.faults.Cause.TheVariants.{NoColumn}
use Rattle.gtfs_tables.specs.declared.faults.TableError.{TableError}
use Rattle.gtfs_tables.specs.declared.faults.TableError.TheVariants as errors
use Rattle.gtfs_tables.specs.declared.sheets.Sheet.{Sheet}
use Rattle.gtfs_tables.specs.Columns.{place_of, field_at_place}
use Rattle.gtfs_tables.specs.Checks.{check_header, check_row, fault, Fails, ◌>>=◌}
use Rattle.gtfs_tables.specs.Texts.{Remains}

-- the table has this header and is read by these columns
pub record IsUnder (header : List (List ℕ)) (columns : List Column) (sheet : Sheet) : Type 0 where
  pub width : sheet.width ≡ length header
  pub places : sheet.places.items ≡ map (place_of header) columns

-- the header of a table, by all its records
abbrev pub header_of : List Column → List (List (List ℕ))
    → Result (List (List ℕ) × List (List (List ℕ))) Fault
header_of needed [] = Err (fault 1 NoColumn)
header_of needed (header ∷ rows) = check_header needed header >>= λ _. Ok (header, rows)

-- the table stands behind its header, or an error is want of memory or the fault of the header
abbrev pub Opens : List Column → List Column → Result Sheet TableError → List (List (List ℕ))
    → Type 0
Opens needed others (Ok sheet) all =
    (header : List (List ℕ)) × (rows : List (List (List ℕ)))
    × (header_of needed all ≡ Ok (header, rows)) × IsUnder header (needed ++ others) sheet
    × Remains sheet.reader rows
Opens needed others (Err e) all = Fails e (header_of needed all)

-- the next row of a number was read, or there is none, or an error is want of memory or the fault
-- of that row
abbrev pub Advances : ℕ → Sheet → Sheet → Result Bool TableError → List (List (List ℕ)) → Type 0
Advances row old new (Ok true) all =
    (rest : List (List (List ℕ))) × (all ≡ fields_of new.current ∷ rest)
    × (check_row row old.width (fields_of new.current) ≡ Ok tt) × Remains new.reader rest
Advances row old new (Ok false) all = all ≡ []
Advances row old new (Err errors.OutOfMemory) all = ⊤
Advances row old new (Err (errors.Bad f)) all =
    (fields : List (List ℕ)) × (rest : List (List (List ℕ))) × (all ≡ fields ∷ rest)
    × (check_row row old.width fields ≡ Err f)

-- the current row's field in the column of a number, without the blanks round it
abbrev pub cell : Sheet → ℕ → List ℕ
cell sheet i = field_at_place (fields_of sheet.current) (slice_index_or sheet.places.items i None)
