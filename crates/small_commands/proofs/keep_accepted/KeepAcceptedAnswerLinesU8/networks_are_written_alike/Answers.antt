use Rattle.std.proofs.Common.{◌∙◌, ap, refl, sym}
use Rattle.information_service.specs.Networks.{over}
use Rattle.information_service.specs.ServiceState.{ServiceState}
use Rattle.information_service.proofs.TimesAlike.{line-keeps, line-over}
use Rattle.small_commands.proofs.keep_accepted.KeepAcceptedAnswerLinesU8.networks_are_written_alike.Goals as goal

pub returns : goal.returns
returns c = record {
  begins = λ nw t mark same. refl;
  answers = λ nw t mark number x text now mark_now same one. record {
    leaves = ap (over nw) one.leaves ∙ sym (line-over nw t x same);
    same_mark = one.same_mark;
    text_is = one.text_is;
  };
  ends = λ nw t mark same. refl;
  keeps = λ t mark number x text now mark_now one. ap (λ (s : ServiceState). s.network) one.leaves ∙ line-keeps t x;
}
