use Rattle.model_examples.proofs.Words.{refl, is_same, is_same_node, is_before, change, wait, events, transfer, effect, refusal, cap}
use Rattle.model_examples.proofs.overrides.no_connection.Goals as goal

pub returns : goal.returns
unfolding cap transfer change wait events effect refusal is_same is_same_node is_before
returns c = record { no_change = refl; one_train = refl }
