use Rattle.model_examples.proofs.Words.{refl, is_same, is_same_node, is_before, change, wait, events, transfer, effect, refusal, cap}
use Rattle.model_examples.proofs.shapes.reported_stays.Goals as goal

pub returns : goal.returns
unfolding cap transfer change wait events effect refusal is_same is_same_node is_before
returns c = record { cancelled = refl; before_it = refl; rerouted = refl; after_it = refl }
