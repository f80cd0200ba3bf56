use Rattle.journal_lines.specs.Lines.{text_of_head}
use Rattle.journal_follower.proofs.WholeJournals.{followed}
use Rattle.journal_follower.proofs.laws.whole_journals_are_followed.Goals as goal

pub returns : goal.returns
returns c = λ o head s ws bytes begun now can written taken begins.
    followed o (text_of_head head) s ws bytes begun now (c.beginnings_of_journals_are_read.ensures head s ws bytes can written taken begins)
