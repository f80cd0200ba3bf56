use Rattle.message_reader.proofs.ClaimTexts.{claims_back}
use Rattle.message_reader.proofs.laws.claims_are_read_back.Goals as goal

pub returns : goal.returns
returns c = claims_back
