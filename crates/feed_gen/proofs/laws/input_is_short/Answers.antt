use Rattle.feed_gen.proofs.InputLines.{input-short}
use Rattle.feed_gen.proofs.laws.input_is_short.Goals as goal

pub returns : goal.returns
returns c = input-short
