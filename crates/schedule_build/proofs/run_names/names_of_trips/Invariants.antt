use Rattle.schedule_build.proofs.Words.{◌≤◌, All, length, take, name_of_run}
use Rattle.schedule_build.specs.Stored.{AreSeen, HasName}
use Rattle.schedule_build.specs.declared.runs.Run.{Run}
use Rattle.schedule_build.proofs.run_names.names_of_trips.Given as goal

-- the names of the trips so far
abbrev pub invariant-loop-run : goal.invariant-loop-run
invariant-loop-run l = record {
  marks : AreSeen l.trips l.marks.items l.names.items;
  few : length l.names.items ≤ l.run-index;
  named : All (λ (r : Run). HasName l.names.items (name_of_run l.trips r).trip) (take l.run-index l.runs);
}
