use Rattle.journal_replay.proofs.MessageLines.{found-is, message-found}
use Rattle.journal_replay.proofs.laws.lines_are_those_of_messages.Goals as goal

pub returns-clause-written : goal.returns-clause-written
returns-clause-written c = λ w can. message-found w can.proper can.labels can.texts

pub returns-clause-read : goal.returns-clause-read
returns-clause-read c = found-is
