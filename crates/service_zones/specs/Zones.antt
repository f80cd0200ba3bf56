-- What a zone text says, and in which ranges.
use Rattle.std.specs.Prelude.{ℕ, ◌≤◌, ℤ, pos, None, IfSome}
use Rattle.std.specs.Int.{IsInRange}
use Rattle.std.specs.declared.option.Option.{Option}
use Rattle.jiff_core.specs.Calendar.{IsWithin}
use Rattle.service_zones.specs.declared.changes.Change.{Change}
use Rattle.service_zones.specs.declared.changes.SummerTime.{SummerTime}

-- the offset in seconds west of UTC, and summer time, where there is one
pub record ZoneRules : Type 0 where
  pub offset : ℤ
  pub summer : Option SummerTime

-- universal time
abbrev pub utc : ZoneRules
utc = record { offset = pos 0; summer = None }

-- a month from 1 to 12, a week from 1 to 5, a weekday from 0 for Sunday, and hours from -167 to 167
pub record IsChange (change : Change) : Type 0 where
  pub month_in : IsInRange 1 12 change.month
  pub week_in : IsInRange 1 5 change.week
  pub weekday_in : change.weekday ≤ 6
  pub hours_in : IsWithin 167 change.hours

-- an offset of less than 26 hours, east or west: up to 24:59, and one hour more to the east where
-- the offset of summer time is left out
abbrev pub IsOffset : ℤ → Type 0
IsOffset seconds = IsWithin 93540 seconds

pub record IsSummerTime (summer : SummerTime) : Type 0 where
  pub offset_in : IsOffset summer.offset
  pub start_in : IsChange summer.start
  pub end_in : IsChange summer.end

pub record AreInRange (zone : ZoneRules) : Type 0 where
  pub offset_in : IsOffset zone.offset
  pub summer_in : IfSome zone.summer IsSummerTime
