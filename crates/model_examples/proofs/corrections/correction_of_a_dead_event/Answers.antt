use Rattle.model_examples.proofs.Words.{refl, is_same, is_same_node, is_before, change, wait, events, transfer, effect, refusal, cap}
use Rattle.model_examples.proofs.corrections.correction_of_a_dead_event.Goals as goal

pub returns : goal.returns
unfolding cap transfer change wait events effect refusal is_same is_same_node is_before
returns c =
    record {
      last_departure = refl;
      first_arrival = refl;
      cancelled = refl;
      no_call = refl;
      no_train = refl;
    }
