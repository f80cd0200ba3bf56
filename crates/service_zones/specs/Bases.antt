-- The bases of service days: GTFS Schedule measures times from noon minus 12 hours of the service
-- day. They are counted in seconds from the base of day 0.
use Rattle.std.specs.Prelude.{ℕ, ◌-◌, ◌*◌, ℤ, pos, nat_abs, ◌+ℤ◌, ◌-ℤ◌, int_lt, Bool, ◌||◌, if◌then◌else◌, List, map}
use Rattle.std.specs.List.{find, range_with_len}
use Rattle.std.specs.Option.{option_map_or}
use Rattle.std.specs.declared.option.Option.{Option}
use Rattle.schedule_build.specs.Dates.{date_after}
use Rattle.service_zones.specs.Changes.{is_summer}
use Rattle.service_zones.specs.Zones.{ZoneRules}

-- the offset that counts on a date, in seconds west of UTC: that of summer time where it holds at
-- the noon, and else the first
unfoldable pub west : ZoneRules → ℕ → ℤ
west zone date =
    option_map_or (λ summer. if is_summer summer date then summer.offset else zone.offset)
    zone.summer zone.offset

-- the base of a service day, where day 0 has this date
abbrev pub base : ZoneRules → ℕ → ℕ → ℤ
base zone first day = pos (86400 * day) +ℤ west zone (date_after first day) -ℤ west zone first

-- the bases of so many days
abbrev pub bases : ZoneRules → ℕ → ℕ → List ℤ
bases zone first days = map (base zone first) (range_with_len 0 days)

-- the same as numbers of seconds. Where no day is too short or too long, none of them lies before
-- that of day 0
abbrev pub base_seconds : ZoneRules → ℕ → ℕ → List ℕ
base_seconds zone first days = map nat_abs (bases zone first days)

-- the base of the day is less than 79,200 or more than 93,600 seconds after that of the day before:
-- less than 22 or more than 26 hours
abbrev pub is_of_wrong_length : ZoneRules → ℕ → ℕ → Bool
is_of_wrong_length zone first day =
    let step = base zone first day -ℤ base zone first (day - 1) in
    int_lt step (pos 79200) || int_lt (pos 93600) step

-- the first such day, of so many
abbrev pub day_of_wrong_length : ZoneRules → ℕ → ℕ → Option ℕ
day_of_wrong_length zone first days = find (is_of_wrong_length zone first) (range_with_len 1 (days - 1))
