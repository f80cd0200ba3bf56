use Rattle.std.proofs.Common.{◌≡◌, ◌∙◌, ap, subst, sym}
use Rattle.delay_report.specs.declared.replies.Reply.{Reply}
use Rattle.information_service.specs.Output.{reply_to_found}
use Rattle.checked_answers.specs.CheckedQueries.{IsCheckedReply}
use Rattle.checked_answers.proofs.Judged.{checked-reply}
use Rattle.checked_answers.proofs.queries.FindWithCertificateAskTimetableNumberedQueryCheckedReply.ask.Goals as goal

pub returns-clause-answer : goal.returns-clause-answer
returns-clause-answer c =
    let t = c.args.timetable.now in
    let line = c.args.question.now.line in
    let asked = c.args.question.now.asked in
    let found = c.earliest-found.result in
    let rides = c.earliest-found.new.scratch.rides in
    let cert = c.in_ok-cert.cert in
    let shown : c.in_ok-reply.reply ≡ reply_to_found line t.count asked.day found rides =
    c.in_ok-reply.ensures ∙ ap (λ n. reply_to_found line n asked.day found c.rides.result.now) c.count-after.ensures ∙ ap (reply_to_found line t.count asked.day found) c.rides.ensures in
    subst (λ (r : Reply). IsCheckedReply t.network t.state t.count line asked.day asked.query r cert.reached) (sym shown)
    (checked-reply t.network t.state asked.query t.count line asked.day rides
    found cert c.earliest-found.ensures.answer c.in_ok-cert.ensures.good c.in_ok-cert.ensures.arrives c.in_ok-cert.ensures.rides c.in_ok-cert.ensures.since)
