use Rattle.model_examples.proofs.Words.{refl, is_same, is_same_node, is_before, change, wait, events, transfer, effect, refusal, cap}
use Rattle.model_examples.proofs.refusals.nothing_to_take_back.Goals as goal

pub returns : goal.returns
unfolding cap transfer change wait events effect refusal is_same is_same_node is_before
returns c =
    record {
      corrected = refl;
      taken_back = refl;
      withdrawn = refl;
      another_reported = refl;
      only_forecast = refl;
      only_reported = refl;
      taken_back_again = refl;
      withdrawn_again = refl;
    }
