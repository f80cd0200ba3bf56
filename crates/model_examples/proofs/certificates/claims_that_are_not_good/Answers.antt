use Rattle.model_examples.proofs.Words.{refl, change}
use Rattle.model_examples.proofs.TwoTrainRides.{on-time}
use Rattle.model_examples.proofs.certificates.claims_that_are_not_good.Goals as goal

pub returns : goal.returns
unfolding change
returns c = record { without_c = rw on-time refl; a_second_later = rw on-time refl; no_arrival = rw on-time refl; later_at_b = rw on-time refl }
