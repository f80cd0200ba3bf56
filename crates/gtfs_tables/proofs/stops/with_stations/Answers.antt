use Rattle.gtfs_tables.proofs.Words.{arith, with_stations}
use Rattle.std.proofs.lemmas.Grind.{common_steps}
use Rattle.gtfs_tables.proofs.stops.with_stations.Goals as goal

pub loop-line-preserved : goal.loop-line-preserved
unfolding with_stations
loop-line-preserved c = grind (arith, common_steps)

pub returns-in_err-parent-clause-rows : goal.returns-in_err-parent-clause-rows
unfolding with_stations
returns-in_err-parent-clause-rows c = grind (arith, common_steps)
