use Rattle.model_examples.proofs.Words.{[], None, Some, refl, is_same, is_same_node, is_before, AgainstRank, change, wait, events, transfer, effect, after_messages, refusal, cap, opts, network, start, arrival, departure}
use Rattle.model_examples.proofs.Compute.{no_overrides, keep-answer, drop-answer}
use Rattle.model_examples.proofs.overrides.change_too_long_to_keep.Goals as goal

pub returns : goal.returns
unfolding cap transfer change wait events effect refusal is_same is_same_node is_before
returns c =
    record {
      shortest = keep-answer (network (record opts { change = 360 })) (after_messages (start (record opts { change = 360 })) []) (arrival 0 1) (departure 1 0) no_overrides _ refl None refl;
      too_long = keep-answer (network (record opts { change = 361 })) (after_messages (start (record opts { change = 361 })) []) (arrival 0 1) (departure 1 0) no_overrides _ refl (Some (AgainstRank (arrival 0 1) (departure 1 0))) refl;
      to_drop = drop-answer (network (record opts { change = 361 })) (after_messages (start (record opts { change = 361 })) []) (arrival 0 1) (departure 1 0) no_overrides _ refl None refl;
    }
