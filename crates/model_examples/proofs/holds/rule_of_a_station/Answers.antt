use Rattle.model_examples.proofs.Words.{refl, change, wait, transfer}
use Rattle.model_examples.proofs.holds.rule_of_a_station.Goals as goal

pub returns : goal.returns
unfolding transfer change wait
returns c = record { station = refl; elsewhere = refl; other_route = refl }
