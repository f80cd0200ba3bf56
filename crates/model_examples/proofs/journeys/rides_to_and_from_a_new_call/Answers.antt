use Rattle.model_examples.proofs.Words.{[], ◌∷◌, true, false, refl, sym, lit≤, is_same, is_same_node, is_before, change, wait, events, transfer, effect, time, time_within, local, incoming, cap, clock, call, at, stop_a}
use Rattle.model_examples.proofs.Compute.{no_overrides, still_none, time-is}
use Rattle.model_examples.proofs.Rides.{passes_none}
use Rattle.model_examples.proofs.journeys.rides_to_and_from_a_new_call.Goals as goal

pub returns : goal.returns
unfolding time time_within local incoming cap transfer change wait events effect is_same is_same_node is_before
returns c =
    let s = still_none _ no_overrides in
    record { to_it = (record { by_train = _; calls_before = []; boarded = _; calls_between = []; alighted = _; calls_after = _; is_train = refl; are_calls = refl; board_label = refl; board_stop = refl; board_time = sym (time-is _ _ s _ _ refl); alight_label = refl; alight_stop = refl; alight_time = sym (time-is _ _ s _ _ refl); departs = refl; passes = passes_none; arrives = refl; may_board = refl; may_alight = refl }, lit≤ tt, (refl, refl)); from_it = (record { by_train = _; calls_before = call 0 stop_a (at (clock 8 0 0) false) (at (clock 8 0 0) true) ∷ []; boarded = _; calls_between = []; alighted = _; calls_after = _; is_train = refl; are_calls = refl; board_label = refl; board_stop = refl; board_time = sym (time-is _ _ s _ _ refl); alight_label = refl; alight_stop = refl; alight_time = sym (time-is _ _ s _ _ refl); departs = refl; passes = passes_none; arrives = refl; may_board = refl; may_alight = refl }, lit≤ tt, (refl, refl)) }
