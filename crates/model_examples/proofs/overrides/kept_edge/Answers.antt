use Rattle.model_examples.proofs.Words.{refl, change, wait, transfer}
use Rattle.model_examples.proofs.overrides.kept_edge.Goals as goal

pub returns : goal.returns
unfolding transfer change wait
returns c = record { planned = refl; no_rule = refl; past_the_window = refl; dropped = refl; not_back = refl }
