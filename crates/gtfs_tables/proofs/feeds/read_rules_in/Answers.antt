use Rattle.gtfs_tables.proofs.Words.{arith, absent, holds, rules_in, records_of}
use Rattle.gtfs_tables.proofs.FeedLemmas.{all_records}
use Rattle.gtfs_tables.proofs.feeds.read_rules_in.Goals as goal

pub returns-in_err-rules-clause-made : goal.returns-in_err-rules-clause-made
unfolding rules_in
returns-in_err-rules-clause-made g c = grind (arith, c.read_waiting_rules.ensures.rows (records_of c.in-Some.text.items) (all_records _ _ c.deref.ensures.value))

pub returns-in_err-at_most-clause-made : goal.returns-in_err-at_most-clause-made
unfolding rules_in
returns-in_err-at_most-clause-made g c = grind (arith, c.read_waiting_rules.ensures.rows (records_of c.in-Some.text.items) (all_records _ _ c.deref.ensures.value))

pub returns-clause-made : goal.returns-clause-made
unfolding rules_in
returns-clause-made g c = grind (arith, c.read_waiting_rules.ensures.rows (records_of c.in-Some.text.items) (all_records _ _ c.deref.ensures.value))

pub returns-in_default-clause-some : goal.returns-in_default-clause-some
unfolding rules_in
returns-in_default-clause-some g c = ((λ t. absent), grind arith)

pub returns-clause-some : goal.returns-clause-some
unfolding rules_in
returns-clause-some g c = ((λ t. holds (records_of c.in-Some.text.items)), grind (arith, c.read_waiting_rules.ensures.rows (records_of c.in-Some.text.items) (all_records _ _ c.deref.ensures.value)))
