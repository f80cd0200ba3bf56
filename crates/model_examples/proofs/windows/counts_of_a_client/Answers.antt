use Rattle.model_examples.proofs.Words.{refl, arith}
use Rattle.model_examples.specs.TwoTrains.{answered}
use Rattle.model_examples.proofs.windows.counts_of_a_client.Goals as goal

pub returns-clause-kept : goal.returns-clause-kept
returns-clause-kept c = grind arith

pub returns-clause-falls : goal.returns-clause-falls
returns-clause-falls c = λ h. let le = h 0 2 (answered 0 0) (omega arith) (omega arith) refl in absurd (omega arith)
