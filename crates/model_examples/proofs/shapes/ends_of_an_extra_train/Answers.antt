use Rattle.model_examples.proofs.Words.{refl, is_same, is_same_node, is_before, change, wait, events, transfer, effect, refusal, cap}
use Rattle.model_examples.proofs.shapes.ends_of_an_extra_train.Goals as goal

pub returns : goal.returns
unfolding cap transfer change wait events effect refusal is_same is_same_node is_before
returns c = record { at_the_ends = refl; no_time = refl; backwards = refl; between = refl }
