use Rattle.journal_replay.proofs.Beginnings.{journal-read}
use Rattle.journal_replay.proofs.laws.beginnings_of_journals_are_read.Goals as goal

pub returns : goal.returns
returns c = λ head s ws bytes can all taken begins. journal-read head s ws bytes begins.0 can all taken begins.1
