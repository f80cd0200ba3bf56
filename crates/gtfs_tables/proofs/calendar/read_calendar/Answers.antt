use Rattle.gtfs_tables.proofs.Words.{arith}
use Rattle.gtfs_tables.proofs.calendar.read_calendar.Goals as goal

pub returns-in_err-build_table-clause-rows : goal.returns-in_err-build_table-clause-rows
returns-in_err-build_table-clause-rows c = λ all are. grind (arith, c.in_err-build_table.ensures.made all are)

pub returns-clause-rows : goal.returns-clause-rows
returns-clause-rows c = λ all are. grind (arith, c.in_ok-build_table.ensures.made all are)
