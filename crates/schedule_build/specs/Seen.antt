-- A directory as contracts see it, and what it keeps.
use Rattle.std.specs.Prelude.{◌+◌, ◌<◌, ◌≤◌, ◌^◌, ◌++◌, All, length}
use Rattle.schedule_build.specs.declared.directory.Directory.TheInside.{Inside}
use Rattle.schedule_build.specs.declared.service_day.ServiceDay.{ServiceDay}
use Rattle.schedule_build.specs.Directory.{Names}

-- the extra trains are numbered on from the loaded ones
abbrev pub seen : Inside → Names
seen a =
    record {
      days = a.days.items;
      places = a.places;
      routes = a.routes;
      trains = a.trains ++ a.extras.names;
      spare_trains = a.extras.spare;
    }

-- there are at most 31 days, and no base is later than 30 days of 26 hours after that of day 0; and
-- each train has a number of 32 bits, also those that are spare
pub record IsStored (a : Inside) : Type 0 where
  pub days : length a.days.items ≤ 31
  pub bases : All (λ (d : ServiceDay). d.base ≤ 2808000) a.days.items
  pub few : length a.trains + length a.extras.names + a.extras.spare < 2 ^ 32
