use Rattle.checked_answers.proofs.Judged.{good-is-right}
use Rattle.checked_answers.proofs.claims.CheckCertificateAskTimetableClaimedAnswerBool.ask.Goals as goal

pub returns-clause-answer : goal.returns-clause-answer
returns-clause-answer c =
    let t = c.args.timetable.now in
    let claimed = c.args.question.now in
    record { exactly = c.is_good.ensures.good; right = λ is. good-is-right t.network t.state claimed.query claimed.cert c.state_is_valid.ensures (c.is_good.ensures.good.0 is) }
