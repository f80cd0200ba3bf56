use Rattle.model_examples.proofs.Words.{[], ◌∷◌, None, Some, refl, ap, ◌+◌, is_same, is_same_node, is_before, Full, Overrides, change, wait, events, transfer, effect, after_messages, refusal, cap, opts, network, start, arrival, departure, keep_at_b}
use Rattle.model_examples.specs.TwoTrains.{extra}
use Rattle.model_examples.proofs.Compute.{no_overrides, with_override, without_override, keep-answer, drop-answer, spare-less, spare-more}
use Rattle.model_examples.proofs.overrides.no_spare_override.Goals as goal

pub returns : goal.returns
unfolding cap transfer change wait events effect refusal is_same is_same_node is_before
returns c =
    let k = with_override _ _ no_overrides in
    let d = with_override _ _ k in
    let r = without_override _ d in
    record {
      none_spare = keep-answer (network (record opts { overrides = 0 })) (after_messages (start (record opts { overrides = 0 })) []) (arrival 0 1) (departure 1 0) no_overrides _ refl (Some (Full Overrides)) refl;
      none_spare_to_drop = drop-answer (network (record opts { overrides = 0 })) (after_messages (start (record opts { overrides = 0 })) []) (arrival 0 1) (departure 1 0) no_overrides _ refl (Some (Full Overrides)) refl;
      one_spare = (keep-answer (network (record opts { overrides = 1 })) (after_messages (start (record opts { overrides = 1 })) []) (arrival 0 1) (departure 1 0) no_overrides _ refl None refl, (drop-answer (network (record opts { overrides = 1 })) (after_messages (start (record opts { overrides = 1 })) (keep_at_b ∷ [])) (arrival 0 1) (departure 1 0) k _ refl None refl, (refl, (refl, tt))));
      another = keep-answer (network (record opts { overrides = 1 })) (after_messages (start (record opts { overrides = 1 })) (extra 2 ∷ keep_at_b ∷ [])) (arrival 1 1) (departure 2 0) k _ (spare-less _ no_overrides _ 0 refl) (Some (Full Overrides)) refl;
      left = spare-less _ no_overrides _ _ refl;
      same = spare-less _ k _ _ (spare-less _ no_overrides _ _ refl);
      back = spare-more _ r _ _ (spare-more _ d _ _ (ap (λ n. n + 1) (spare-less _ k _ _ (spare-less _ no_overrides _ _ refl))));
    }
