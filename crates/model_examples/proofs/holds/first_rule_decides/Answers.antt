use Rattle.model_examples.proofs.Words.{refl, change, wait, transfer}
use Rattle.model_examples.proofs.holds.first_rule_decides.Goals as goal

pub returns : goal.returns
unfolding transfer change wait
returns c = record { one_second = refl; no_wait = refl; first = refl; no_rule = refl }
