-- When a service is active: GTFS Schedule, `calendar.txt` and `calendar_dates.txt`.
use Rattle.std.specs.Prelude.{ℕ, List, Bool, true, false, not, ◌&&◌, ◌||◌, nat_eq, nat_le, slice_index_or}
use Rattle.std.specs.List.{list_any}
use mathlib.Core.Bool.{beq}
use Rattle.mt_base.specs.declared.tables.CalendarRow.{CalendarRow}
use Rattle.mt_base.specs.declared.tables.DateRow.{DateRow}
use Rattle.mt_base.specs.declared.tables.Tables.{Tables}
use Rattle.schedule_build.specs.Dates.{weekday_of}

-- the row of `calendar.txt` marks a weekday, which is numbered from 0 for Monday
abbrev pub is_marked : CalendarRow → ℕ → Bool
is_marked r weekday = slice_index_or r.days weekday false

-- the date lies from the row's first day to its last, both included
abbrev pub is_within : CalendarRow → ℕ → Bool
is_within r date = nat_le r.first date && nat_le date r.last

-- the row of `calendar.txt` has the service run on the date, which falls on the weekday
abbrev pub runs : ℕ → ℕ → ℕ → CalendarRow → Bool
runs service date weekday r = nat_eq r.service service && is_within r date && is_marked r weekday

-- the row of `calendar_dates.txt` adds the service on the date (added true), or removes it (added
-- false)
abbrev pub changes : Bool → ℕ → ℕ → DateRow → Bool
changes added service date r = nat_eq r.service service && nat_eq r.date date && beq r.added added

-- some row of `calendar_dates.txt` adds the service on the date
abbrev pub is_added : List DateRow → ℕ → ℕ → Bool
is_added rows service date = list_any (changes true service date) rows

-- some row of `calendar_dates.txt` removes the service on the date
abbrev pub is_removed : List DateRow → ℕ → ℕ → Bool
is_removed rows service date = list_any (changes false service date) rows

-- some row of `calendar.txt` has the service run on the date
abbrev pub is_regular : List CalendarRow → ℕ → ℕ → Bool
is_regular rows service date = list_any (runs service date (weekday_of date)) rows

-- the service is active on the date: it is added there, or it runs there regularly and is not
-- removed there
abbrev pub is_active : Tables → ℕ → ℕ → Bool
is_active t service date =
    is_added t.dates service date || is_regular t.calendar service date
    && not (is_removed t.dates service date)
