use Rattle.journal_replay.proofs.LineLemmas.{lines-read}
use Rattle.journal_replay.proofs.laws.journals_are_read_line_by_line.Goals as goal

pub returns : goal.returns
returns c = lines-read
