use Rattle.journal_laws.proofs.Counted.{journal-counted}
use Rattle.journal_laws.proofs.laws.messages_are_counted.Goals as goal

pub returns-clause-messages : goal.returns-clause-messages
returns-clause-messages c = λ header s bytes. (journal-counted header s bytes).messages

pub returns-clause-count : goal.returns-clause-count
returns-clause-count c = λ header s bytes. (journal-counted header s bytes).count
