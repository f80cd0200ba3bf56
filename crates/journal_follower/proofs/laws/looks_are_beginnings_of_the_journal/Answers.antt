use Rattle.journal_follower.proofs.Looked.{looked-at}
use Rattle.journal_follower.proofs.laws.looks_are_beginnings_of_the_journal.Goals as goal

pub returns : goal.returns
returns c = looked-at
