use Rattle.feed_gen.proofs.Flushes.{between-flushes}
use Rattle.feed_gen.proofs.laws.queries_stand_between_flushes.Goals as goal

pub returns : goal.returns
returns c = between-flushes
