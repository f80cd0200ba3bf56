use Rattle.feed_gen.proofs.InputLines.{input-lines}
use Rattle.feed_gen.proofs.laws.input_is_its_lines.Goals as goal

pub returns : goal.returns
returns c = input-lines
