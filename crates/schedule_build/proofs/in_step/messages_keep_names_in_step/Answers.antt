use Rattle.schedule_build.proofs.InStepLemmas.{message-in_step, extra-next}
use Rattle.schedule_build.proofs.in_step.messages_keep_names_in_step.Goals as goal

pub returns-clause-kept : goal.returns-clause-kept
returns-clause-kept c = message-in_step

pub returns-clause-next : goal.returns-clause-next
returns-clause-next c = extra-next
