use Rattle.model_examples.proofs.Words.{refl, lit≤, is_same, is_same_node, is_before, change, wait, events, transfer, effect, time, time_within, local, incoming, cap, clock, opts, start, at_eight, platform_b1, platform_b2}
use Rattle.model_examples.proofs.Compute.{no_overrides, time-is}
use Rattle.model_examples.proofs.Rides.{Sight, sight, not_before_query}
use Rattle.model_examples.proofs.journeys.journey_without_a_ride.Goals as goal

seen : Sight (start opts) (clock 8 0 0) (clock 8 30 0) (clock 8 32 0) (clock 9 0 0) (clock 8 36 0) (clock 9 10 0)
unfolding time time_within local incoming cap transfer change wait events effect is_same is_same_node is_before
seen = sight _ _ _ _ _ _ _ _ _ _ _ _ _ _ refl refl refl refl refl refl refl refl (time-is _ _ no_overrides _ _ refl) (time-is _ _ no_overrides _ _ refl) (time-is _ _ no_overrides _ _ refl) (time-is _ _ no_overrides _ _ refl) (time-is _ _ no_overrides _ _ refl) (time-is _ _ no_overrides _ _ refl)

pub returns : goal.returns
returns c = record { journey = (refl, refl); least = λ rides at j. not_before_query seen (lit≤ tt) (lit≤ tt) (lit≤ tt) (lit≤ tt) (at_eight platform_b1 platform_b2) rides at j }
