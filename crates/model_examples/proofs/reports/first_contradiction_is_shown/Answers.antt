use Rattle.model_examples.proofs.Words.{refl, is_same, is_same_node, is_before, change, wait, events, transfer, effect, refusal, cap}
use Rattle.model_examples.proofs.reports.first_contradiction_is_shown.Goals as goal

pub returns : goal.returns
unfolding cap transfer change wait events effect refusal is_same is_same_node is_before
returns c =
    record {
      accepted = (refl, (refl, tt));
      earlier = refl;
      later = refl;
      between = refl;
    }
