use Rattle.model_examples.proofs.Words.{◌≡◌, [], ◌∷◌, refl, sym, lit<, is_same, is_same_node, is_before, change, wait, events, transfer, effect, time, time_within, local, incoming, cap, stop_c, stop_d}
use Rattle.model_examples.proofs.Compute.{no_overrides, still_none, time-is}
use Rattle.model_examples.proofs.Rides.{passes_none, alights_before_a_gap}
use Rattle.model_examples.proofs.journeys.second_part_departs_first.Goals as goal

pub returns : goal.returns
unfolding time time_within local incoming cap transfer change wait events effect is_same is_same_node is_before
returns c =
    let s = still_none _ (still_none _ no_overrides) in
    record {
      first_part = record { by_train = _; calls_before = []; boarded = _; calls_between = []; alighted = _; calls_after = _; is_train = refl; are_calls = refl; board_label = refl; board_stop = refl; board_time = sym (time-is _ _ s _ _ refl); alight_label = refl; alight_stop = refl; alight_time = sym (time-is _ _ s _ _ refl); departs = refl; passes = passes_none; arrives = refl; may_board = refl; may_alight = refl };
      second_part = record { by_train = _; calls_before = _ ∷ _ ∷ []; boarded = _; calls_between = []; alighted = _; calls_after = _; is_train = refl; are_calls = refl; board_label = refl; board_stop = refl; board_time = sym (time-is _ _ s _ _ refl); alight_label = refl; alight_stop = refl; alight_time = sym (time-is _ _ s _ _ refl); departs = refl; passes = passes_none; arrives = refl; may_board = refl; may_alight = refl };
      across = λ i. let f : stop_c ≡ stop_d = alights_before_a_gap _ _ _ _ _ _ _ _ refl refl refl (lit< tt) (lit< tt) (lit< tt) _ i refl refl in absurd (cc);
    }
