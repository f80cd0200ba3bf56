use Rattle.model_examples.proofs.Words.{[], ◌∷◌, refl, sym, lit≤, is_same, is_same_node, is_before, change, wait, events, transfer, time, time_within, local, incoming, cap, clock, opts, network, at_eight, t1_at_b, stop_a, stop_d}
use Rattle.std.proofs.lemmas.List.Elements.{All-cons}
use Rattle.model_examples.specs.TwoTrains.{both_to_d}
use Rattle.model_examples.proofs.Compute.{no_overrides, time-is}
use Rattle.model_examples.proofs.Rides.{rides, ends_then, not_before_rides, passes_none}
use Rattle.model_examples.proofs.journeys.two_earliest_journeys.Goals as goal

pub returns : goal.returns
unfolding time time_within local incoming cap transfer change wait events is_same is_same_node is_before
returns c =
    let least = not_before_rides (network opts) both_to_d (at_eight stop_a stop_d) (clock 9 10 0) refl (λ r i. ends_then stop_d _ (rides (network opts) both_to_d _ _ _ _ _ _ _ refl refl refl r i) refl (time-is _ _ no_overrides _ _ refl) (time-is _ _ no_overrides _ _ refl)) in
    record {
      stays = record { journey = (record { by_train = _; calls_before = []; boarded = _; calls_between = t1_at_b ∷ []; alighted = _; calls_after = _; is_train = refl; are_calls = refl; board_label = refl; board_stop = refl; board_time = sym (time-is _ _ no_overrides _ _ refl); alight_label = refl; alight_stop = refl; alight_time = sym (time-is _ _ no_overrides _ _ refl); departs = refl; passes = All-cons _ t1_at_b [] (refl, refl) passes_none; arrives = refl; may_board = refl; may_alight = refl }, lit≤ tt, (refl, refl)); least = least };
      changes = record { journey = (record { by_train = _; calls_before = []; boarded = _; calls_between = []; alighted = _; calls_after = _; is_train = refl; are_calls = refl; board_label = refl; board_stop = refl; board_time = sym (time-is _ _ no_overrides _ _ refl); alight_label = refl; alight_stop = refl; alight_time = sym (time-is _ _ no_overrides _ _ refl); departs = refl; passes = passes_none; arrives = refl; may_board = refl; may_alight = refl }, lit≤ tt, (record { by_train = _; calls_before = []; boarded = _; calls_between = []; alighted = _; calls_after = _; is_train = refl; are_calls = refl; board_label = refl; board_stop = refl; board_time = sym (time-is _ _ no_overrides _ _ refl); alight_label = refl; alight_stop = refl; alight_time = sym (time-is _ _ no_overrides _ _ refl); departs = refl; passes = passes_none; arrives = refl; may_board = refl; may_alight = refl }, (_, refl, lit≤ tt), (refl, refl))); least = least };
    }
