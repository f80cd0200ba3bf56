use Rattle.feed_gen_laws.proofs.SaidLines.{lines-said}
use Rattle.feed_gen_laws.proofs.lines.made_lines_are_read.Goals as goal

pub returns : goal.returns
returns c = lines-said
