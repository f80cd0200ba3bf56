-- Civil dates as numbers YYYYMMDD, their day numbers, and the dates that follow one.
use Rattle.std.specs.Prelude.{ℕ, zero, suc, ◌+◌, ◌*◌, ◌/◌, ◌%◌, ℤ, pos, nat_lt, if◌then◌else◌}
use Rattle.jiff_core.specs.Calendar.{days_from_civil, days_in_month, weekday_number}

-- the digits of a date: YYYY, MM and DD
abbrev pub year_of : ℕ → ℕ
year_of date = date / 10000

abbrev pub month_of : ℕ → ℕ
month_of date = date / 100 % 100

abbrev pub day_of : ℕ → ℕ
day_of date = date % 100

-- the number of the day, from 0 for 1 January 1970
abbrev pub day_number : ℕ → ℤ
day_number date = days_from_civil (pos (year_of date)) (month_of date) (day_of date)

-- the day of the week, from 0 for Monday
abbrev pub weekday_of : ℕ → ℕ
weekday_of date = weekday_number (day_number date)

-- the date of the day after: the next day of the month, or the first of the next month, or 1
-- January of the next year
abbrev pub next_date : ℕ → ℕ
next_date date =
    if nat_lt (day_of date) (days_in_month (pos (year_of date)) (month_of date)) then date + 1
    else (if nat_lt (month_of date) 12 then year_of date * 10000 + (month_of date + 1) * 100
    + 1 else (year_of date + 1) * 10000 + 101)

-- the date so many days after the first
unfoldable pub date_after : ℕ → ℕ → ℕ
date_after first zero = first
date_after first (suc days) = next_date (date_after first days)
