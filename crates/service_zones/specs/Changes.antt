-- When summer time holds. Hours are numbered from the beginning of 1 January 1970.
use Rattle.std.specs.Prelude.{ℕ, ◌+◌, ◌-◌, ◌%◌, ◌==◌, ℤ, pos, ◌+ℤ◌, ◌-ℤ◌, ◌*ℤ◌, int_le, ◌≤ℤ◌, ◌<ℤ◌, Bool, not, ◌&&◌, if◌then◌else◌, List, [], ◌∷◌, length, map, slice_index}
use Rattle.std.specs.List.{All, Contains, filter, list_any, range_with_len}
use Rattle.jiff_core.specs.Calendar.{days_from_civil, days_in_month, weekday_number}
use Rattle.schedule_build.specs.Dates.{year_of, day_number}
use Rattle.service_zones.specs.declared.changes.Change.{Change}
use Rattle.service_zones.specs.declared.changes.SummerTime.{SummerTime}

-- the day of the change's month falls on the change's weekday, which counts from 0 for Sunday, and
-- a day's weekday number from 0 for Monday
abbrev pub is_on_weekday : ℤ → Change → ℕ → Bool
is_on_weekday year change day =
    (weekday_number (days_from_civil year change.month day) + 1) % 7 == change.weekday

-- the days of the month that fall on that weekday, in order
unfoldable pub weekdays : ℤ → Change → List ℕ
weekdays year change =
    filter (is_on_weekday year change) (range_with_len 1 (days_in_month year change.month))

-- the day of the change in a year: of these days the one that comes as the week says, or the last
-- one where the week is 5 (`Mm.w.d` of the variable TZ: POSIX.1, Base Definitions, 8.3)
unfoldable pub day_in : ℤ → Change → ℕ
day_in year change =
    let days = weekdays year change in
    if change.week == 5 then slice_index days (length days - 1)
    else slice_index days (change.week - 1)

-- the hour number of the change in a year
unfoldable pub hour_in : ℤ → Change → ℤ
hour_in year change =
    pos 24 *ℤ days_from_civil year change.month (day_in year change) +ℤ change.hours

-- its hour numbers in the year before, the year and the year after
unfoldable pub hours_near : ℤ → Change → List ℤ
hours_near year change =
    hour_in (year -ℤ pos 1) change ∷ hour_in year change ∷ hour_in (year +ℤ pos 1) change ∷ []

-- the hour number of the noon of a date
abbrev pub noon : ℕ → ℤ
noon date = pos 24 *ℤ day_number date +ℤ pos 12

-- some end lies from the start on up to the noon, both included
unfoldable pub has_end : List ℤ → ℤ → ℤ → Bool
has_end ends noon start = list_any (λ end. int_le start end && int_le end noon) ends

-- summer time lasts from the start up to the noon: the start is not after the noon, and no end lies
-- between
unfoldable pub lasts : List ℤ → ℤ → ℤ → Bool
lasts ends noon start = int_le start noon && not (has_end ends noon start)

-- summer time holds at the noon of a date: it lasts up to the noon from some start in the year of
-- the date, the year before or the year after. Summer time may last over the turn of the year, and
-- the hours of a change lead up to seven days back or on
abbrev pub is_summer : SummerTime → ℕ → Bool
is_summer summer date =
    let year = pos (year_of date) in
    list_any (lasts (hours_near year summer.end) (noon date)) (hours_near year summer.start)

-- ---- the same by the last change

-- of these starts and ends that are not after the noon, the last one is a start: no start is later,
-- and each end is earlier. So where a start and an end come at one hour, the end counts
pub record IsLastChange (starts ends : List ℤ) (noon start : ℤ) : Type 0 where
  pub among : Contains starts start
  pub past : start ≤ℤ noon
  pub last : All (λ other. other ≤ℤ noon → other ≤ℤ start) starts
  pub after_ends : All (λ end. end ≤ℤ noon → end <ℤ start) ends

-- of the changes of the year of the date, of the year before and of the year after, the last one
-- that is not after its noon is a start
abbrev pub HasLastStart : SummerTime → ℕ → Type 0
HasLastStart summer date =
    let year = pos (year_of date) in
    (start : ℤ) × IsLastChange (hours_near year summer.start) (hours_near year summer.end)
    (noon date) start
