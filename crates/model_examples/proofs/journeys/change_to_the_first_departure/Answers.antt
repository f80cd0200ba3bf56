use Rattle.model_examples.proofs.Words.{◌≡◌, ◌+◌, ◌≤◌, Some, [], refl, sym, lit≤, arith, is_same, is_same_node, is_before, change, wait, events, transfer, effect, time, time_within, local, incoming, cap, clock}
use Rattle.model_examples.proofs.Compute.{no_overrides, time-is}
use Rattle.model_examples.proofs.Rides.{passes_none}
use Rattle.model_examples.proofs.journeys.change_to_the_first_departure.Goals as goal

pub returns : goal.returns
unfolding time time_within local incoming cap transfer change wait events effect is_same is_same_node is_before
returns c =
    record {
      in_time = (record { by_train = _; calls_before = []; boarded = _; calls_between = []; alighted = _; calls_after = _; is_train = refl; are_calls = refl; board_label = refl; board_stop = refl; board_time = sym (time-is _ _ no_overrides _ _ refl); alight_label = refl; alight_stop = refl; alight_time = sym (time-is _ _ no_overrides _ _ refl); departs = refl; passes = passes_none; arrives = refl; may_board = refl; may_alight = refl }, (_, refl, lit≤ tt), (refl, refl));
      too_late = λ j.
          let f : Some 60 ≡ Some j.1.0 = j.1.1 in
          let g : 60 ≡ j.1.0 = cc in
          let k : clock 8 35 1 + j.1.0 ≤ clock 8 36 0 = j.1.2 in
          omega arith;
    }
