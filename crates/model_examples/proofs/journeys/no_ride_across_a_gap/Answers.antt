use Rattle.model_examples.proofs.Words.{refl, lit<, is_same_node, effect}
use Rattle.model_examples.proofs.Rides.{alights_before_a_gap}
use Rattle.model_examples.proofs.journeys.no_ride_across_a_gap.Goals as goal

pub returns : goal.returns
unfolding effect is_same_node
returns c = alights_before_a_gap _ _ _ _ _ _ _ _ refl refl refl (lit< tt) (lit< tt) (lit< tt)
