use Rattle.model_examples.proofs.Words.{refl, is_same, is_same_node, is_before, change, wait, events, transfer, effect, refusal, cap}
use Rattle.model_examples.proofs.corrections.first_contradiction_of_a_correction.Goals as goal

pub returns : goal.returns
unfolding cap transfer change wait events effect refusal is_same is_same_node is_before
returns c =
    record {
      earlier = refl;
      later = refl;
      across_a_gap = refl;
    }
