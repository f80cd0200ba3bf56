use Rattle.model_examples.proofs.Words.{refl, change, wait, transfer}
use Rattle.model_examples.proofs.holds.ends_of_the_window.Goals as goal

pub returns : goal.returns
unfolding transfer change wait
returns c = record { lower = refl; below = refl; upper = refl; above = refl }
