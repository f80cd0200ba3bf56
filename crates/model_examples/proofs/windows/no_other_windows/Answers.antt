use Rattle.model_examples.proofs.Words.{refl, [], arith}
use Rattle.model_examples.proofs.windows.no_other_windows.Goals as goal

pub returns-clause-windows : goal.returns-clause-windows
returns-clause-windows c = record { joined = refl; lines = grind arith; flush = grind arith; closed = grind arith }

pub returns-clause-goes_on : goal.returns-clause-goes_on
returns-clause-goes_on c = λ h. let no_flush = h.flush 0 [] (omega arith) 1 0 (omega arith) in absurd (cc)

pub returns-clause-ends : goal.returns-clause-ends
returns-clause-ends c = λ h. let closed = h.closed 0 1 [] (omega arith) (omega arith) in absurd (cc)

pub returns-clause-lost : goal.returns-clause-lost
returns-clause-lost c = λ h. let same = h.joined in absurd (cc)

pub returns-clause-empty : goal.returns-clause-empty
returns-clause-empty c = λ h. let sizes = h.lines 1 [] (omega arith) in absurd (omega arith)
