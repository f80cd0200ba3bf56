use Rattle.information_service.proofs.TimesAlike.{times-alike}
use Rattle.information_service.proofs.times.WriteRepliesAnswerLinesUnit.networks_are_written_alike.Goals as goal

pub returns : goal.returns
returns c = times-alike
