use Rattle.message_reader.proofs.ClaimTexts.{claim_times_back}
use Rattle.message_reader.proofs.laws.claim_times_are_read_back.Goals as goal

pub returns : goal.returns
returns c = claim_times_back
