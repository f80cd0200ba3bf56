use Rattle.gtfs_tables.proofs.Words.{arith}
use Rattle.std.proofs.lemmas.Grind.{common_steps}
use Rattle.gtfs_tables.proofs.trips.TripTable.add.Goals as goal

pub returns-then-not-branch-clause-made : goal.returns-then-not-branch-clause-made
returns-then-not-branch-clause-made c = grind (arith, common_steps)

pub returns-clause-size : goal.returns-clause-size
returns-clause-size c = grind (arith, common_steps)

pub returns-clause-numbered : goal.returns-clause-numbered
returns-clause-numbered c = grind (arith, common_steps)

pub returns-clause-made : goal.returns-clause-made
returns-clause-made c = grind (arith, common_steps)
