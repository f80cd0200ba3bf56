use Rattle.schedule_build.proofs.Words.{◌≡◌, ◌<◌, All, length, map, take, name_of_run, seen_train, HasTrip, StoredTrain}
use Rattle.schedule_build.proofs.run_names.stored_trains.Given as goal

-- the trains so far
abbrev pub invariant-loop-run : goal.invariant-loop-run
invariant-loop-run l = record {
  seen : map (seen_train l.names) l.trains.items ≡ map (name_of_run l.trips) (take l.run-index l.runs);
  count : length l.trains.items ≡ l.run-index;
  has_trips : All (HasTrip l.names) l.trains.items;
  loaded : All (λ (t : StoredTrain). t.day < 31) l.trains.items;
}
