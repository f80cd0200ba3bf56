use Rattle.gtfs_tables.proofs.Words.{arith, holds, stops_in, records_of}
use Rattle.gtfs_tables.proofs.FeedLemmas.{all_records}
use Rattle.gtfs_tables.proofs.feeds.read_stops_in.Goals as goal

pub returns-in_err-stops-clause-made : goal.returns-in_err-stops-clause-made
unfolding stops_in
returns-in_err-stops-clause-made g c = grind (arith, c.read_stops.ensures (records_of c.in-Some.text.items) (all_records _ _ c.deref.ensures.value))

pub returns-in_err-at_most-clause-made : goal.returns-in_err-at_most-clause-made
unfolding stops_in
returns-in_err-at_most-clause-made g c = grind (arith, c.read_stops.ensures (records_of c.in-Some.text.items) (all_records _ _ c.deref.ensures.value))

pub returns-clause-made : goal.returns-clause-made
unfolding stops_in
returns-clause-made g c = grind (arith, c.read_stops.ensures (records_of c.in-Some.text.items) (all_records _ _ c.deref.ensures.value))

pub returns-clause-some : goal.returns-clause-some
unfolding stops_in
returns-clause-some g c = ((λ t. holds (records_of c.in-Some.text.items)), grind (arith, c.read_stops.ensures (records_of c.in-Some.text.items) (all_records _ _ c.deref.ensures.value)))
