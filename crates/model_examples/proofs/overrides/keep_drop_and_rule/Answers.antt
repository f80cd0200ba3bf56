use Rattle.model_examples.proofs.Words.{[], ◌∷◌, None, refl, is_same, is_same_node, is_before, change, wait, events, transfer, effect, after_messages, refusal, time, time_within, local, incoming, cap, clock, opts, network, start, at_b1, arrival, departure, keep_at_b}
use Rattle.model_examples.proofs.Compute.{no_overrides, with_override, without_override, times-are, count-is, keep-answer, drop-answer, ◌and◌}
use Rattle.model_examples.proofs.overrides.keep_drop_and_rule.Goals as goal

pub returns : goal.returns
unfolding time time_within local incoming cap transfer change wait events effect refusal is_same is_same_node is_before
returns c =
    let k = with_override _ _ no_overrides in
    let d = with_override _ _ k in
    let r = without_override _ d in
    record {
      accepted = (refl, (refl, (keep-answer (network opts) (after_messages (start opts) (at_b1 (clock 8 38 0) ∷ at_b1 (clock 8 38 1) ∷ [])) (arrival 0 1) (departure 1 0) no_overrides _ refl None refl, (drop-answer (network opts) (after_messages (start opts) (at_b1 (clock 8 38 0) ∷ at_b1 (clock 8 38 1) ∷ keep_at_b ∷ [])) (arrival 0 1) (departure 1 0) k _ refl None refl, (refl, tt)))));
      changed = count-is _ _ _ no_overrides no_overrides _ refl and count-is _ _ _ no_overrides no_overrides _ refl and count-is _ _ _ no_overrides k _ refl and count-is _ _ _ k d _ refl and count-is _ _ _ d r _ refl and refl;
      kept = times-are _ _ k _ refl;
      dropped = times-are _ _ d _ refl;
      by_rule = times-are _ _ r _ refl;
    }
