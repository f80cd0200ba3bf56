use Rattle.model_examples.proofs.Words.{refl, change}
use Rattle.model_examples.proofs.changes.change_without_a_row.Goals as goal

pub returns : goal.returns
unfolding change
returns c = record { platforms = refl; platform = refl; station = refl; stations = refl }
