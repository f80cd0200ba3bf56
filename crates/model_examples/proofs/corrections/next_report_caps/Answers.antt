use Rattle.model_examples.proofs.Words.{refl, is_same, is_same_node, is_before, change, wait, events, transfer, effect, refusal, time, time_within, local, incoming, cap}
use Rattle.model_examples.proofs.Compute.{no_overrides, times-are, count-is, ◌and◌}
use Rattle.model_examples.proofs.corrections.next_report_caps.Goals as goal

pub returns : goal.returns
unfolding time time_within local incoming cap transfer change wait events effect refusal is_same is_same_node is_before
returns c =
    record {
      accepted = (refl, (refl, (refl, tt)));
      changed = count-is _ _ _ no_overrides no_overrides _ refl and count-is _ _ _ no_overrides no_overrides _ refl and count-is _ _ _ no_overrides no_overrides _ refl and refl;
      times = times-are _ _ no_overrides _ refl;
    }
