-- The service day of a train, and times by its clock.
use Rattle.std.specs.Prelude.{ℕ, ◌-◌, List}
use Rattle.schedule_build.specs.Directory.{Names, day_of_train, date_of_day, base_of}
use Rattle.delay_report.specs.Clocks.{clock, date_text}

-- the date of a train's service day, in eight digits
abbrev pub date_of_train : Names → ℕ → List ℕ
date_of_train names train = date_text (date_of_day names (day_of_train names train))

-- the seconds from the base of a train's service day to a time, which is given in seconds from the
-- base of day 0. A time before that base, which no train has, counts as the base itself
abbrev pub seconds_on_day : Names → ℕ → ℕ → ℕ
seconds_on_day names train time = time - base_of names (day_of_train names train)

-- a time by the clock of a train's service day
abbrev pub clock_of_train : Names → ℕ → ℕ → List ℕ
clock_of_train names train time = clock (seconds_on_day names train time)

-- a time by the clock of a service day. A time before its base, which no arrival of a query has,
-- counts as the base itself
abbrev pub clock_of_day : Names → ℕ → ℕ → List ℕ
clock_of_day names day time = clock (time - base_of names day)
