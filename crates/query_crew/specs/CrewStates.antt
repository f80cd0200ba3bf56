-- What a crew is seen as.
use Rattle.std.specs.Prelude.{List}
use Rattle.schedule_build.specs.Directory.{Names}
use Rattle.query_crew.specs.declared.worker.Worker.{Worker}

-- what the publisher is seen as, the names that are known, and the workers, each at its number
pub record CrewState (P V : Type 0) : Type 0 where
  pub publisher : P
  pub directory : Names
  pub workers : List (Worker V)
