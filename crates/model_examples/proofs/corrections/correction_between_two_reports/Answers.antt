use Rattle.model_examples.proofs.Words.{refl, is_same, is_same_node, is_before, change, wait, events, transfer, effect, refusal, cap}
use Rattle.model_examples.proofs.corrections.correction_between_two_reports.Goals as goal

pub returns : goal.returns
unfolding cap transfer change wait events effect refusal is_same is_same_node is_before
returns c =
    record {
      accepted = (refl, (refl, (refl, tt)));
      at_the_earlier = refl;
      at_the_later = refl;
      before_both = refl;
      after_both = refl;
      taken_back = refl;
    }
