use Rattle.model_examples.proofs.Words.{refl, change}
use Rattle.model_examples.proofs.TwoTrainRides.{on-time}
use Rattle.model_examples.proofs.certificates.a_good_certificate_of_two_rides.Goals as goal

pub returns : goal.returns
unfolding change
returns c = rw on-time refl
