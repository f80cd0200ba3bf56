-- When a schedule is not built.
use Rattle.std.specs.Prelude.{◌≡◌, ℕ, ◌<◌, Option, Some}
use Rattle.mt_base.specs.declared.tables.What.{What}
use Rattle.mt_base.specs.declared.tables.What.TheVariants.{Trains}
use Rattle.schedule_build.specs.declared.faults.ExpandFault.{ExpandFault}
use Rattle.schedule_build.specs.declared.faults.ExpandFault.TheVariants.{TooMany, OutOfMemory}

-- the fault names that of which there is too many, or is want of memory
abbrev pub IsFault : Option What → ExpandFault → Type 0
IsFault found (TooMany what) = found ≡ Some what
IsFault found OutOfMemory = Unit {0}

-- there are more than 200,000 trains, or there was no memory
abbrev pub IsTrainsFault : ℕ → ExpandFault → Type 0
IsTrainsFault trains (TooMany what) = (what ≡ Trains) × (200000 < trains)
IsTrainsFault trains OutOfMemory = Unit {0}
