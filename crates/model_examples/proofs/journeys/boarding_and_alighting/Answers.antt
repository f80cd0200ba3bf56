use Rattle.model_examples.proofs.Words.{[], refl, sym, lit≤, is_same, is_same_node, is_before, change, wait, events, transfer, effect, time, time_within, local, incoming, cap, at_eight, platform_b2, stop_d}
use Rattle.model_examples.proofs.Compute.{no_overrides, time-is}
use Rattle.model_examples.proofs.Rides.{passes_none, no_boarding, no_alighting, no_journey}
use Rattle.model_examples.proofs.journeys.boarding_and_alighting.Goals as goal

pub returns : goal.returns
unfolding time time_within local incoming cap transfer change wait events effect is_same is_same_node is_before
returns c =
    record {
      both = (record { by_train = _; calls_before = []; boarded = _; calls_between = []; alighted = _; calls_after = _; is_train = refl; are_calls = refl; board_label = refl; board_stop = refl; board_time = sym (time-is _ _ no_overrides _ _ refl); alight_label = refl; alight_stop = refl; alight_time = sym (time-is _ _ no_overrides _ _ refl); departs = refl; passes = passes_none; arrives = refl; may_board = refl; may_alight = refl }, lit≤ tt, (refl, refl));
      no_boarding = no_journey _ (at_eight platform_b2 stop_d) refl (no_boarding _ _ _ _ _ refl refl refl);
      no_alighting = no_journey _ (at_eight platform_b2 stop_d) refl (no_alighting _ _ _ _ _ refl refl refl);
    }
