use Rattle.journal_laws.proofs.InModel.{numbers-agree, services-agree}
use Rattle.journal_laws.proofs.laws.journals_have_the_accepted_messages.Goals as goal

pub returns-clause-messages : goal.returns-clause-messages
returns-clause-messages c = numbers-agree

pub returns-clause-service : goal.returns-clause-service
returns-clause-service c = services-agree
