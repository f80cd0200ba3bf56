use Rattle.feed_gen_laws.proofs.Timetable.{made-timetable}
use Rattle.feed_gen_laws.proofs.tables.made_tables_hold_a_timetable.Goals as goal

pub returns : goal.returns
returns c = made-timetable
