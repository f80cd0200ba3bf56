use Rattle.model_examples.proofs.Words.{[], ◌∷◌, None, refl, is_same, is_same_node, is_before, change, wait, events, transfer, effect, after_messages, refusal, time, time_within, local, incoming, cap, clock, opts, network, start, at_b1, arrival, departure}
use Rattle.model_examples.proofs.Compute.{no_overrides, with_override, without_override, times-are, count-is, drop-answer, ◌and◌}
use Rattle.model_examples.proofs.overrides.dropped_within_the_wait.Goals as goal

pub returns : goal.returns
unfolding time time_within local incoming cap transfer change wait events effect refusal is_same is_same_node is_before
returns c =
    let d = with_override _ _ no_overrides in
    let r = without_override _ d in
    record {
      accepted = (refl, (drop-answer (network opts) (after_messages (start opts) (at_b1 (clock 8 36 0) ∷ [])) (arrival 0 1) (departure 1 0) no_overrides _ refl None refl, (refl, tt)));
      changed = count-is _ _ _ no_overrides no_overrides _ refl and count-is _ _ _ no_overrides d _ refl and count-is _ _ _ d r _ refl and refl;
      dropped = times-are _ _ d _ refl;
      by_rule = times-are _ _ r _ refl;
    }
