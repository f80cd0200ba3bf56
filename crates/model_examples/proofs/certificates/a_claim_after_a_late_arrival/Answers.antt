use Rattle.model_examples.proofs.Words.{refl, change}
use Rattle.model_examples.proofs.TwoTrainRides.{late-at_b}
use Rattle.model_examples.proofs.certificates.a_claim_after_a_late_arrival.Goals as goal

pub returns : goal.returns
unfolding change
returns c = record { late = rw late-at_b refl; none = rw late-at_b refl }
