-- What the rows of `calendar.txt` mean, or the first fault in them.
use Rattle.std.specs.Prelude.{ℕ, ◌==◌, List, [], ◌∷◌, ◌++◌, Bool, not, Result, Ok, option_map}
use Rattle.std.specs.List.{list_any}
use Rattle.std.specs.declared.option.Option.{Option}
use Rattle.mt_base.specs.declared.tables.CalendarRow.{CalendarRow}
use Rattle.gtfs_tables.specs.declared.columns.Column.{Column}
use Rattle.gtfs_tables.specs.declared.columns.Column.TheVariants.{ServiceId, Monday, Tuesday, Wednesday, Thursday, Friday, Saturday, Sunday, StartDate, EndDate}
use Rattle.gtfs_tables.specs.declared.faults.Cause.TheVariants.{BadNumber, BadDate, DuplicateKey}
use Rattle.gtfs_tables.specs.declared.faults.Fault.{Fault}
use Rattle.gtfs_tables.specs.Checks.{Step, fault, need, check, table_from, ◌>>=◌}
use Rattle.mt_base.specs.Texts.{date_of}
use Rattle.gtfs_tables.specs.Fields.{digit_within}
use Rattle.gtfs_tables.specs.Numbers.{number_in, names_with}

-- the columns that the table needs, in the order of their checks
abbrev pub calendar_columns : List Column
calendar_columns = ServiceId ∷ Monday ∷ Tuesday ∷ Wednesday ∷ Thursday ∷ Friday ∷ Saturday ∷ Sunday
    ∷ StartDate ∷ EndDate ∷ []

-- whether the service runs on a weekday: `1` if it does, `0` if it does not
abbrev pub runs_of : List ℕ → Option Bool
runs_of bytes = option_map (λ d. d == 1) (digit_within 0 1 bytes)

-- the weekdays of a service from Monday, or the first fault in them
unfoldable pub days_of : ℕ → List ℕ → List ℕ → List ℕ → List ℕ → List ℕ → List ℕ → List ℕ
    → Result (List Bool) Fault
days_of row monday tuesday wednesday thursday friday saturday sunday = do
  mon ← need (fault row BadNumber) (runs_of monday)
  tue ← need (fault row BadNumber) (runs_of tuesday)
  wed ← need (fault row BadNumber) (runs_of wednesday)
  thu ← need (fault row BadNumber) (runs_of thursday)
  fri ← need (fault row BadNumber) (runs_of friday)
  sat ← need (fault row BadNumber) (runs_of saturday)
  sun ← need (fault row BadNumber) (runs_of sunday)
  Ok (mon ∷ tue ∷ wed ∷ thu ∷ fri ∷ sat ∷ sun ∷ [])

-- what the rows so far made: the names of the services, by number, and the rows
pub record Calendar : Type 0 where
  pub services : List (List ℕ)
  pub rows : List CalendarRow

-- whether a row is of a service
abbrev pub has_service : ℕ → List CalendarRow → Bool
has_service service rows = list_any (λ r. r.service == service) rows

-- the calendar with one row more, whose service no earlier row has
unfoldable pub with_service : ℕ → List ℕ → List Bool → ℕ → ℕ → Calendar → Result Calendar Fault
with_service row name days first last s =
    let service = number_in name s.services in
    check (fault row DuplicateKey) (not (has_service service s.rows))
    >>= λ _. Ok (record {
      services = names_with name s.services;
      rows = s.rows ++ record { service = service; days = days; first = first; last = last } ∷ [];
    })

-- what a row makes of the calendar so far
abbrev pub calendar_step : Step Calendar
calendar_step row field s = do
  days ← days_of row (field Monday) (field Tuesday) (field Wednesday) (field Thursday)
      (field Friday) (field Saturday) (field Sunday)
  first ← need (fault row BadDate) (date_of (field StartDate))
  last ← need (fault row BadDate) (date_of (field EndDate))
  with_service row (field ServiceId) days first last s

-- the table, by all its records: services are numbered on from the names that earlier tables gave
abbrev pub calendar_of : List (List ℕ) → List (List (List ℕ)) → Result Calendar Fault
calendar_of names all = table_from calendar_columns calendar_step (record {
  services = names;
  rows = [];
}) all
