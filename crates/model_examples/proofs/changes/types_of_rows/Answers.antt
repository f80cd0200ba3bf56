use Rattle.model_examples.proofs.Words.{refl, change}
use Rattle.model_examples.proofs.changes.types_of_rows.Goals as goal

pub returns : goal.returns
unfolding change
returns c = record { seconds = refl; at_least_one = refl; no_seconds = refl; default = refl; forbidden = refl; passed_over = refl }
