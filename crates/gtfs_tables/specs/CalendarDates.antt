-- What the rows of `calendar_dates.txt` mean, or the first fault in them.
use Rattle.std.specs.Prelude.{ℕ, ◌==◌, ◌&&◌, List, [], ◌∷◌, ◌++◌, Bool, not, Result, Ok, option_map}
use Rattle.std.specs.List.{list_any}
use Rattle.std.specs.declared.option.Option.{Option}
use Rattle.mt_base.specs.declared.tables.DateRow.{DateRow}
use Rattle.gtfs_tables.specs.declared.columns.Column.{Column}
use Rattle.gtfs_tables.specs.declared.columns.Column.TheVariants.{ServiceId, Date, ExceptionType}
use Rattle.gtfs_tables.specs.declared.faults.Cause.TheVariants.{BadNumber, BadDate, DuplicateKey}
use Rattle.gtfs_tables.specs.declared.faults.Fault.{Fault}
use Rattle.gtfs_tables.specs.Checks.{Step, fault, need, check, table_from, ◌>>=◌}
use Rattle.mt_base.specs.Texts.{date_of}
use Rattle.gtfs_tables.specs.Fields.{digit_within}
use Rattle.gtfs_tables.specs.Numbers.{number_in, names_with}

-- the columns that the table needs, in the order of their checks
abbrev pub date_columns : List Column
date_columns = ServiceId ∷ Date ∷ ExceptionType ∷ []

-- whether a date is added to the service: `1` if it is, `2` if it is removed
abbrev pub added_of : List ℕ → Option Bool
added_of bytes = option_map (λ d. d == 1) (digit_within 1 2 bytes)

-- what the rows so far made: the names of the services, by number, and the rows
pub record Dates : Type 0 where
  pub services : List (List ℕ)
  pub rows : List DateRow

-- whether a row is of a service and a date
abbrev pub has_date : ℕ → ℕ → List DateRow → Bool
has_date service date rows = list_any (λ r. (r.service == service) && (r.date == date)) rows

-- the dates with one row more, whose service and date no earlier row has
unfoldable pub with_date : ℕ → List ℕ → ℕ → Bool → Dates → Result Dates Fault
with_date row name date added s =
    let service = number_in name s.services in
    check (fault row DuplicateKey) (not (has_date service date s.rows))
    >>= λ _. Ok (record {
      services = names_with name s.services;
      rows = s.rows ++ record { service = service; date = date; added = added } ∷ [];
    })

-- what a row makes of the dates so far
abbrev pub date_step : Step Dates
date_step row field s = do
  date ← need (fault row BadDate) (date_of (field Date))
  added ← need (fault row BadNumber) (added_of (field ExceptionType))
  with_date row (field ServiceId) date added s

-- the table, by all its records: services are numbered on from the names that earlier tables gave
abbrev pub calendar_dates_of : List (List ℕ) → List (List (List ℕ)) → Result Dates Fault
calendar_dates_of names all = table_from date_columns date_step (record {
  services = names;
  rows = [];
}) all
