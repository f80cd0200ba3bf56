use Rattle.model_examples.proofs.Words.{refl, is_same, is_same_node, is_before, change, wait, events, transfer, effect, refusal, time, time_within, local, incoming, cap}
use Rattle.model_examples.proofs.Compute.{no_overrides, times-are, count-is, ◌and◌}
use Rattle.model_examples.proofs.holds.change_rows_and_holds.Goals as goal

pub returns : goal.returns
unfolding time time_within local incoming cap transfer change wait events effect refusal is_same is_same_node is_before
returns c =
    record {
      too_long_changed = count-is _ _ _ no_overrides no_overrides _ refl and refl;
      too_long = times-are _ _ no_overrides _ refl;
      platforms_changed = count-is _ _ _ no_overrides no_overrides _ refl and refl;
      platforms = times-are _ _ no_overrides _ refl;
      forbidden_changed = count-is _ _ _ no_overrides no_overrides _ refl and refl;
      forbidden = times-are _ _ no_overrides _ refl;
    }
