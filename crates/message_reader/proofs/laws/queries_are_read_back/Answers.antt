use Rattle.message_reader.proofs.SpelledLemmas.{queries_back}
use Rattle.message_reader.proofs.laws.queries_are_read_back.Goals as goal

pub returns : goal.returns
returns c = queries_back
