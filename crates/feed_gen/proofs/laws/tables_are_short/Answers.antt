use Rattle.feed_gen.proofs.Bounds.{tables-short}
use Rattle.feed_gen.proofs.laws.tables_are_short.Goals as goal

pub returns : goal.returns
returns c = tables-short
