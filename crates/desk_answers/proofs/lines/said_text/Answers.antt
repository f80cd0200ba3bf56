use Rattle.std.proofs.Common.{ap, arith}
use Rattle.information_service.specs.ServiceState.{ServiceState}
use Rattle.desk_answers.proofs.Leaving.{few-said}
use Rattle.desk_answers.proofs.lines.said_text.Goals as goal

pub returns-clause-counts : goal.returns-clause-counts
returns-clause-counts c = omega (arith, ap (λ (s : ServiceState). s.count) c.in_ok-reply.ensures.next, few-said c.args.service.now c.args.said.now)
