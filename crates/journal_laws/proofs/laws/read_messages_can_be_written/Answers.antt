use Rattle.std.proofs.Common.{◌+◌, length, arith}
use Rattle.journal_laws.proofs.ReadMessages.{can-write, read-message}
use Rattle.journal_laws.proofs.laws.read_messages_can_be_written.Goals as goal

pub returns-clause-proper : goal.returns-clause-proper
returns-clause-proper c = λ bytes w is. (read-message bytes w is).proper

pub returns-clause-labels : goal.returns-clause-labels
returns-clause-labels c = λ bytes w is. (read-message bytes w is).labels

pub returns-clause-texts : goal.returns-clause-texts
returns-clause-texts c = λ bytes w is. (read-message bytes w is).texts

pub returns-clause-written : goal.returns-clause-written
returns-clause-written c = λ bytes w few is. can-write (1 + length bytes) w (omega arith) (read-message bytes w is)
