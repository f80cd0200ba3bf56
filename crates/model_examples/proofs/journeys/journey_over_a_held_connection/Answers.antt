use Rattle.model_examples.proofs.Words.{[], ◌∷◌, refl, sym, lit≤, is_same, is_same_node, is_before, change, wait, events, transfer, effect, after_messages, time, time_within, local, incoming, cap, clock, opts, start, at_b1}
use Rattle.model_examples.proofs.Compute.{no_overrides, time-is}
use Rattle.model_examples.proofs.Rides.{Sight, sight, passes_none, from_a_to_d}
use Rattle.model_examples.proofs.journeys.journey_over_a_held_connection.Goals as goal

seen : Sight (after_messages (start opts) (at_b1 (clock 8 36 0) ∷ [])) (clock 8 0 0) (clock 8 36 0) (clock 8 37 0) (clock 9 5 0) (clock 8 39 0) (clock 9 13 0)
unfolding time time_within local incoming cap transfer change wait events effect is_same is_same_node is_before
seen = sight _ _ _ _ _ _ _ _ _ _ _ _ _ _ refl refl refl refl refl refl refl refl (time-is _ _ no_overrides _ _ refl) (time-is _ _ no_overrides _ _ refl) (time-is _ _ no_overrides _ _ refl) (time-is _ _ no_overrides _ _ refl) (time-is _ _ no_overrides _ _ refl) (time-is _ _ no_overrides _ _ refl)

pub returns : goal.returns
unfolding time time_within local incoming cap transfer change wait events effect is_same is_same_node is_before
returns c =
    record {
      journey = (record { by_train = _; calls_before = []; boarded = _; calls_between = []; alighted = _; calls_after = _; is_train = refl; are_calls = refl; board_label = refl; board_stop = refl; board_time = sym (time-is _ _ no_overrides _ _ refl); alight_label = refl; alight_stop = refl; alight_time = sym (time-is _ _ no_overrides _ _ refl); departs = refl; passes = passes_none; arrives = refl; may_board = refl; may_alight = refl }, lit≤ tt, (record { by_train = _; calls_before = []; boarded = _; calls_between = []; alighted = _; calls_after = _; is_train = refl; are_calls = refl; board_label = refl; board_stop = refl; board_time = sym (time-is _ _ no_overrides _ _ refl); alight_label = refl; alight_stop = refl; alight_time = sym (time-is _ _ no_overrides _ _ refl); departs = refl; passes = passes_none; arrives = refl; may_board = refl; may_alight = refl }, (_, refl, lit≤ tt), (refl, refl)));
      least = λ rides at j. (from_a_to_d seen rides at j).1;
    }
