use Rattle.journal_lines.proofs.ReadBack.{lines-again}
use Rattle.journal_lines.proofs.laws.message_lines_are_read_back.Goals as goal

pub returns : goal.returns
returns c = lines-again
