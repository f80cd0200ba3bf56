use Rattle.model_examples.proofs.Words.{[], Some, refl, is_same, is_same_node, is_before, AgainstRank, change, wait, events, transfer, effect, after_messages, refusal, cap, opts, network, start, arrival, departure}
use Rattle.model_examples.proofs.Compute.{no_overrides, keep-answer}
use Rattle.model_examples.proofs.refusals.first_refusal.Goals as goal

pub returns : goal.returns
unfolding cap transfer change wait events effect refusal is_same is_same_node is_before
returns c =
    record {
      unknown_and_known = refl;
      change_and_report = refl;
      report_and_rank = refl;
      rank_and_calls = refl;
      rank_and_overrides = keep-answer (network (record opts { change = 361; overrides = 0 })) (after_messages (start (record opts { change = 361; overrides = 0 })) []) (arrival 0 1) (departure 1 0) no_overrides _ refl (Some (AgainstRank (arrival 0 1) (departure 1 0))) refl;
      unknown_and_nothing = refl;
      report_and_nothing = refl;
    }
