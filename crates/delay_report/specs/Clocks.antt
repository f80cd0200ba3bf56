-- Texts of times and dates.
use Rattle.std.specs.Prelude.{ℕ, ◌+◌, ◌/◌, ◌%◌, List, [], ◌∷◌, ◌++◌, nat_lt, if◌then◌else◌, decimal}

-- the last two digits of a number; 48 is `0`
abbrev pub two_digits : ℕ → List ℕ
two_digits n = (48 + n / 10 % 10) ∷ (48 + n % 10) ∷ []

-- the hours of a time: two digits, or as many as it takes
abbrev pub hours_text : ℕ → List ℕ
hours_text hours = if nat_lt hours 100 then two_digits hours else decimal hours

-- `HH:MM:SS` of so many seconds; 58 is `:`
unfoldable pub clock : ℕ → List ℕ
clock seconds = hours_text (seconds / 3600) ++ (58 ∷ two_digits (seconds / 60 % 60)
    ++ (58 ∷ two_digits (seconds % 60)))

-- the eight digits of a date YYYYMMDD
unfoldable pub date_text : ℕ → List ℕ
date_text date = two_digits (date / 1000000)
    ++ (two_digits (date / 10000) ++ (two_digits (date / 100) ++ two_digits date))
