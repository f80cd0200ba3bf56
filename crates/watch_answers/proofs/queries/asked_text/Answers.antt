use Rattle.delay_model.specs.Valid.{IsValid}
use Rattle.watch_answers.specs.WatchedMessages.{are_kept}
use Rattle.watch_answers.proofs.Kept.{kept-shown, on-ok}
use Rattle.watch_answers.proofs.queries.asked_text.Goals as goal

pub returns-clause-fits : goal.returns-clause-fits
returns-clause-fits c =
    let nw = c.args.service.now.network in
    let st = c.args.service.now.state in
    let asked = c.args.asked.now in
    let valid : IsValid nw st = rw (c.timetable.ensures.network, c.timetable.ensures.state) at c.state_is_valid.ensures in
    let kept : are_kept nw st c.watch_shown.new.kept = rw c.in_ok-watched.ensures.kept
    (kept-shown nw st valid c.args.line c.args.line c.args.service.now.count asked.day asked.query c.in_ok-reply.reply c.in_ok-reply.ensures.answer c.args.kept.now c.requires.fits) in
    on-ok c.watched_text.result (are_kept nw st c.watch_shown.new.kept) kept
