use Rattle.message_reader.proofs.SpelledLemmas.{queries_by_number}
use Rattle.message_reader.proofs.laws.queries_are_resolved.Goals as goal

pub returns : goal.returns
returns c = queries_by_number
