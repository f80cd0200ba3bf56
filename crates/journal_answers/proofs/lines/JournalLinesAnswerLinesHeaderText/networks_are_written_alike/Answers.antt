use Rattle.std.proofs.Common.{◌∙◌, ap, refl, sym}
use Rattle.information_service.specs.Lines.{said_by}
use Rattle.information_service.specs.Networks.{over}
use Rattle.information_service.specs.ServiceState.{ServiceState}
use Rattle.information_service.proofs.TimesAlike.{line-keeps, line-over}
use Rattle.journal_answers.proofs.Alike.{said-alike}
use Rattle.journal_answers.proofs.lines.JournalLinesAnswerLinesHeaderText.networks_are_written_alike.Goals as goal

pub returns : goal.returns
returns c = record {
  begins = λ nw t header same. refl;
  answers = λ nw t header number x text now header_now same one. record {
    text_is = one.text_is ∙ sym (said-alike nw t (said_by x) same);
    leaves = ap (over nw) one.leaves ∙ sym (line-over nw t x same);
    header_is = one.header_is;
  };
  ends = λ nw t header same. refl;
  keeps = λ t header number x text now header_now one. ap (λ (s : ServiceState). s.network) one.leaves ∙ line-keeps t x;
}
