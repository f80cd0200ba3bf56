-- What a service is seen as, and what it keeps.
use Rattle.std.specs.Prelude.{◌≤◌, length}
use Rattle.schedule_build.specs.InStep.{AreInStep}
use Rattle.information_service.specs.ServiceState.{ServiceState}
use Rattle.information_service.specs.declared.service.InformationService.TheInside.{Inside}

-- the state of its timetable and its names, whatever events the last message changed and whatever
-- was answered last
abbrev pub seen : Inside → ServiceState
seen s = record {
  network = s.timetable.network;
  state = s.timetable.state;
  count = s.timetable.count;
  names = s.directory;
}

-- there is room for a search over all its stops and departures, and its names and its trains are in
-- step
pub record IsReady (s : Inside) : Type 0 where
  pub stops : length s.timetable.network.stops ≤ s.scratch.room.stops
  pub numbers : s.timetable.numbers ≤ s.scratch.room.numbers
  pub in_step : AreInStep s.directory s.timetable.state
