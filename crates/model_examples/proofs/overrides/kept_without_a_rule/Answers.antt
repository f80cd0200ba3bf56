use Rattle.model_examples.proofs.Words.{refl, is_same, is_same_node, is_before, change, wait, events, transfer, effect, refusal, time, time_within, local, incoming, cap}
use Rattle.model_examples.proofs.Compute.{no_overrides, with_override, times-are, count-is, ◌and◌}
use Rattle.model_examples.proofs.overrides.kept_without_a_rule.Goals as goal

pub returns : goal.returns
unfolding time time_within local incoming cap transfer change wait events effect refusal is_same is_same_node is_before
returns c =
    let k = with_override _ _ no_overrides in
    record {
      changed = count-is _ _ _ no_overrides no_overrides _ refl and count-is _ _ _ no_overrides k _ refl and refl;
      kept = times-are _ _ k _ refl;
    }
