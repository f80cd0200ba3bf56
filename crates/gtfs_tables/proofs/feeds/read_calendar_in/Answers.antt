use Rattle.gtfs_tables.proofs.Words.{arith, refl, absent, calendar_in, holds, records_of}
use Rattle.gtfs_tables.proofs.FeedLemmas.{all_records}
use Rattle.gtfs_tables.proofs.feeds.read_calendar_in.Goals as goal

pub returns-in_err-rows-clause-made : goal.returns-in_err-rows-clause-made
unfolding calendar_in
returns-in_err-rows-clause-made g c = grind (arith, c.read_calendar.ensures.rows (records_of c.in-Some.text.items) (all_records _ _ c.deref.ensures.value))

pub returns-clause-made : goal.returns-clause-made
unfolding calendar_in
returns-clause-made g c = grind (arith, c.read_calendar.ensures.rows (records_of c.in-Some.text.items) (all_records _ _ c.deref.ensures.value))

pub returns-in_default-clause-some : goal.returns-in_default-clause-some
unfolding calendar_in
returns-in_default-clause-some g c = ((λ t. absent), grind arith, refl)

pub returns-clause-some : goal.returns-clause-some
unfolding calendar_in
returns-clause-some g c = ((λ t. holds (records_of c.in-Some.text.items)), grind (arith, c.read_calendar.ensures.rows (records_of c.in-Some.text.items) (all_records _ _ c.deref.ensures.value)), refl)
