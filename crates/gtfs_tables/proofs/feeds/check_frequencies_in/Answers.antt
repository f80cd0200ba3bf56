use Rattle.gtfs_tables.proofs.Words.{arith, absent, holds, records_of}
use Rattle.gtfs_tables.specs.Feeds.{frequencies_in}
use Rattle.gtfs_tables.proofs.FeedLemmas.{all_records}
use Rattle.gtfs_tables.proofs.feeds.check_frequencies_in.Goals as goal

pub returns-in_err-found-clause-made : goal.returns-in_err-found-clause-made
unfolding frequencies_in
returns-in_err-found-clause-made g c = grind (arith, c.has_frequencies.ensures (records_of c.in-Some.text.items) (all_records _ _ c.deref.ensures.value))

pub returns-then-found-clause-made : goal.returns-then-found-clause-made
unfolding frequencies_in
returns-then-found-clause-made g c = grind (arith, c.has_frequencies.ensures (records_of c.in-Some.text.items) (all_records _ _ c.deref.ensures.value))

pub returns-clause-made : goal.returns-clause-made
unfolding frequencies_in
returns-clause-made g c = grind (arith, c.has_frequencies.ensures (records_of c.in-Some.text.items) (all_records _ _ c.deref.ensures.value))

pub returns-in_default-clause-some : goal.returns-in_default-clause-some
unfolding frequencies_in
returns-in_default-clause-some g c = ((λ t. absent), grind arith)

pub returns-clause-some : goal.returns-clause-some
unfolding frequencies_in
returns-clause-some g c = ((λ t. holds (records_of c.in-Some.text.items)), grind (arith, c.has_frequencies.ensures (records_of c.in-Some.text.items) (all_records _ _ c.deref.ensures.value)))
