use Rattle.model_examples.proofs.Words.{refl, change, wait, transfer}
use Rattle.model_examples.proofs.holds.no_connection_to_itself.Goals as goal

pub returns : goal.returns
unfolding transfer change wait
returns c = record { another = refl; itself = refl }
