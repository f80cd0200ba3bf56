use Rattle.model_examples.proofs.Words.{refl, is_same, is_same_node, is_before, change, wait, events, transfer, effect, refusal, time, time_within, local, incoming, cap}
use Rattle.model_examples.proofs.Compute.{no_overrides, times-are, count-is, ◌and◌}
use Rattle.model_examples.proofs.shapes.extra_trains.Goals as goal

pub returns : goal.returns
unfolding time time_within local incoming cap transfer change wait events effect refusal is_same is_same_node is_before
returns c =
    record {
      known = refl;
      accepted = (refl, tt);
      changed = count-is _ _ _ no_overrides no_overrides _ refl and refl;
      times = times-are _ _ no_overrides _ refl;
      next_label = refl;
      calls_short = refl;
      last_train = refl;
      train_taken = refl;
      trains_short = refl;
      trains_first = refl;
      station = refl;
      known_again = refl;
      number_skipped = refl;
    }
