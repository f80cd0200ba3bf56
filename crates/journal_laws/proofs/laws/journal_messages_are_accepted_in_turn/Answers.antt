use Rattle.journal_laws.proofs.Accepted.{all-there, are-accepted, states-agree}
use Rattle.journal_laws.proofs.laws.journal_messages_are_accepted_in_turn.Goals as goal

pub returns-clause-accepted : goal.returns-clause-accepted
returns-clause-accepted c = are-accepted

pub returns-clause-state : goal.returns-clause-state
returns-clause-state c = states-agree

pub returns-clause-all : goal.returns-clause-all
returns-clause-all c = all-there
