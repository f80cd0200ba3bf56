use Rattle.std.proofs.Common.{refl}
use Rattle.information_service.proofs.TimesAlike.{times-alike}
use Rattle.small_commands.proofs.count_accepted.CountAcceptedAnswerLinesUnit.networks_are_written_alike.Goals as goal

pub returns : goal.returns
returns c = record {
  begins = λ nw t kept same. refl;
  answers = times-alike.answers;
  ends = λ nw t kept same. refl;
  keeps = times-alike.keeps;
}
