use Rattle.message_reader.proofs.ClaimLemmas.{lines-same}
use Rattle.message_reader.proofs.laws.lines_are_the_same_to_check.Goals as goal

pub returns : goal.returns
returns c = lines-same
