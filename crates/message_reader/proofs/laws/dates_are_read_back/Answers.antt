use Rattle.message_reader.proofs.SpelledLemmas.{dates_back}
use Rattle.message_reader.proofs.laws.dates_are_read_back.Goals as goal

pub returns : goal.returns
returns c = dates_back
