use Rattle.model_examples.proofs.Words.{refl, is_same, is_same_node, is_before, change, wait, events, transfer, effect, refusal, time, time_within, local, incoming, cap}
use Rattle.model_examples.proofs.Compute.{no_overrides, still_none, count-is, ◌and◌}
use Rattle.model_examples.proofs.shapes.reroute_without_effect.Goals as goal

pub returns : goal.returns
unfolding time time_within local incoming cap transfer change wait events effect refusal is_same is_same_node is_before
returns c =
    let s = still_none _ no_overrides in
    record {
      accepted = (refl, tt);
      changed = count-is _ _ _ no_overrides s _ refl and refl;
    }
