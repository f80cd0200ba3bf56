use Rattle.model_examples.proofs.Words.{refl, is_same, is_same_node, is_before, change, wait, events, transfer, effect, refusal, time, time_within, local, incoming, cap}
use Rattle.model_examples.proofs.Compute.{no_overrides, still_none, count-is, ◌and◌}
use Rattle.model_examples.proofs.shapes.labels_are_never_used_again.Goals as goal

pub returns : goal.returns
unfolding time time_within local incoming cap transfer change wait events effect refusal is_same is_same_node is_before
returns c =
    let s1 = still_none _ no_overrides in
    let s2 = still_none _ s1 in
    let s3 = still_none _ s2 in
    let s4 = still_none _ s3 in
    record {
      accepted = (refl, (refl, (refl, (refl, tt))));
      changed = count-is _ _ _ no_overrides s1 _ refl and count-is _ _ _ s1 s2 _ refl and count-is _ _ _ s2 s3 _ refl and count-is _ _ _ s3 s4 _ refl and refl;
      second = refl;
      third = refl;
    }
