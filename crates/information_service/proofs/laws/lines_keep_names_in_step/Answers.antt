use Rattle.information_service.proofs.Words.{messages_of}
use Rattle.information_service.proofs.InStep.{messages-in_step}
use Rattle.information_service.proofs.laws.lines_keep_names_in_step.Goals as goal

pub returns : goal.returns
returns c = λ nw names st lines h. messages-in_step nw names st (messages_of lines) h
