use Rattle.model_examples.proofs.Words.{[], ◌∷◌, refl, arith, is_same, is_same_node, is_before, change, wait, events, transfer, effect, after_messages, time, time_within, local, incoming, cap, clock, opts, start, at_b1}
use Rattle.model_examples.proofs.Compute.{no_overrides, time-is}
use Rattle.model_examples.proofs.Rides.{Sight, sight, from_a_to_d}
use Rattle.model_examples.proofs.journeys.journey_over_a_missed_connection.Goals as goal

seen : Sight (after_messages (start opts) (at_b1 (clock 8 38 1) ∷ [])) (clock 8 0 0) (clock 8 38 1) (clock 8 39 1) (clock 9 7 1) (clock 8 36 0) (clock 9 10 0)
unfolding time time_within local incoming cap transfer change wait events effect is_same is_same_node is_before
seen = sight _ _ _ _ _ _ _ _ _ _ _ _ _ _ refl refl refl refl refl refl refl refl (time-is _ _ no_overrides _ _ refl) (time-is _ _ no_overrides _ _ refl) (time-is _ _ no_overrides _ _ refl) (time-is _ _ no_overrides _ _ refl) (time-is _ _ no_overrides _ _ refl) (time-is _ _ no_overrides _ _ refl)

pub returns : goal.returns
returns c = λ rides at j. let late = (from_a_to_d seen rides at j).0 in omega arith
