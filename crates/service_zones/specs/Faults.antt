-- When there are no bases.
use Rattle.std.specs.Prelude.{◌≡◌, ℕ, Some, None}
use Rattle.std.specs.declared.option.Option.{Option}
use Rattle.service_zones.specs.declared.faults.BaseFault.{BaseFault}
use Rattle.service_zones.specs.declared.faults.BaseFault.TheVariants.{DayLength, OutOfMemory}

-- the fault shows the first day that is too short or too long; where there is none, it is want of
-- memory
abbrev pub IsBaseFault : Option ℕ → BaseFault → Type 0
IsBaseFault odd (DayLength day) = odd ≡ Some day
IsBaseFault odd OutOfMemory = odd ≡ None
