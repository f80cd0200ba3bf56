use Rattle.message_reader.proofs.ClaimLemmas.{line-bad}
use Rattle.message_reader.proofs.laws.claims_are_no_other_lines.Goals as goal

pub returns : goal.returns
returns c = line-bad
