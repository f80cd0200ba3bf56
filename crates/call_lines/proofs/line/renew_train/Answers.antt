use Rattle.call_lines.proofs.Words.{arith}
use Rattle.call_lines.proofs.line.renew_train.Goals as goal

pub returns-clause-renewed : goal.returns-clause-renewed
returns-clause-renewed c = λ first line.
    c.renew_behind.ensures.renewed first line (record { places = λ place x l e. absurd (omega (arith, l)); reports = λ place x y l e f. absurd (omega (arith, l)) })
