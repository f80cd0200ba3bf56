use Rattle.gtfs_tables.proofs.Words.{arith, IfOk-weaker, calls_in, holds, records_of}
use Rattle.gtfs_tables.proofs.FeedLemmas.{all_records}
use Rattle.gtfs_tables.proofs.feeds.read_calls_in.Goals as goal

pub returns-clause-made : goal.returns-clause-made
unfolding calls_in
returns-clause-made g c = grind (arith, c.read_stop_times.ensures.rows (records_of c.in-Some.text.items) (all_records _ _ c.deref.ensures.value))

pub returns-clause-some : goal.returns-clause-some
unfolding calls_in
returns-clause-some g c =
    IfOk-weaker c.with_table.result _ _ (λ x h. ((λ t. holds (records_of c.in-Some.text.items)), h))
    (grind (arith, c.read_stop_times.ensures.rows (records_of c.in-Some.text.items) (all_records _ _ c.deref.ensures.value)))
