use Rattle.information_service.proofs.OneMore.{counts-one}
use Rattle.information_service.specs.Answering.{given_line}
use Rattle.small_commands.proofs.count_accepted.CountAcceptedAnswerLinesUnit.answer.Goals as goal

pub returns-clause-count : goal.returns-clause-count
returns-clause-count c = counts-one c.args.service.now c.answer.new.self (given_line c.args.line.now) c.in_ok-reply.ensures.next
