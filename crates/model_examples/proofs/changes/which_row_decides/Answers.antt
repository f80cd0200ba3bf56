use Rattle.model_examples.proofs.Words.{refl, change}
use Rattle.model_examples.proofs.changes.which_row_decides.Goals as goal

pub returns : goal.returns
unfolding change
returns c = record { places = refl; to_station = refl; from_station = refl; stations = refl; first_in_file = refl; one_way = refl }
