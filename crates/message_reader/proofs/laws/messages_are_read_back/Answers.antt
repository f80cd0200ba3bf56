use Rattle.message_reader.proofs.SpelledLemmas.{messages_back}
use Rattle.message_reader.proofs.laws.messages_are_read_back.Goals as goal

pub returns : goal.returns
returns c = messages_back
