use Rattle.journal_laws.proofs.Parts.{journal-parts}
use Rattle.journal_laws.proofs.laws.what_is_read_is_a_journal.Goals as goal

pub returns : goal.returns
returns c = journal-parts
