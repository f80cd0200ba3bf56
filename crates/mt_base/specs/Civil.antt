-- Dates as numbers YYYYMMDD: 20240229 is 29 February 2024.
use Rattle.std.specs.Prelude.{ℕ, Bool, ◌&&◌, nat_lt, nat_le, ◌/◌, ◌%◌, pos}
use Rattle.jiff_core.specs.Calendar.{IsDate, days_in_month}

-- the number names a date of the Gregorian calendar, counted back to the year 0 too: the digits
-- before the last four are a year up to 9999, the next two a month from 1 to 12, and the last two a
-- day from 1 to the last of that month
abbrev pub IsCivil : ℕ → Type 0
IsCivil date = IsDate (pos (date / 10000)) (pos (date / 100 % 100)) (pos (date % 100))

-- the same as a test: eight digits at most, a month, and a day of that month
abbrev pub is_civil : ℕ → Bool
is_civil date = nat_lt date 100000000 && nat_le 1 (date / 100 % 100) && nat_le (date / 100 % 100) 12
    && nat_le 1 (date % 100) && nat_le (date % 100)
    (days_in_month (pos (date / 10000)) (date / 100 % 100))
