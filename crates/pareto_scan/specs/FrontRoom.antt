-- For how many stops, numbers of departures and rides a scratch has room.
use Rattle.std.specs.Prelude.{ℕ, ◌-◌, ◌^◌, ◌≤◌, ◌<◌, min, All, length}
use Rattle.conn_scan.specs.ScratchState.{most_numbers}
use Rattle.pareto_scan.specs.Levels.{HasLevelRoom}
use Rattle.pareto_scan.specs.declared.fronts.FrontScratch.TheInside.{Inside}

pub record FrontRoom : Type 0 where
  pub stops : ℕ
  pub numbers : ℕ
  pub rides : ℕ

abbrev pub seen : Inside → FrontRoom
seen s =
    record { stops = s.stops; numbers = s.numbers; rides = length s.levels.items - 1 }

-- after no ride and after each number of rides there are rows for the stops and the number past all
-- of them; and there are rows for the numbers of departures and the one past all of them
pub record HasFrontRoom (s : Inside) : Type 0 where
  pub some : 0 < length s.levels.items
  pub few : length s.levels.items ≤ 9
  pub levels : All (HasLevelRoom s.stops) s.levels.items
  pub riders : min s.numbers most_numbers < length s.riders
  pub numbers : length s.riders ≤ 2 ^ 23
