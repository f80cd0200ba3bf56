use Rattle.message_reader.proofs.SpelledLemmas.{times_back}
use Rattle.message_reader.proofs.laws.times_are_read_back.Goals as goal

pub returns : goal.returns
returns c = times_back
