use Rattle.information_service.proofs.Words.{arith}
use Rattle.information_service.proofs.Behind.{next-behind}
use Rattle.information_service.proofs.service.InformationService.take_followed.Goals as goal

pub returns-clause-next : goal.returns-clause-next
returns-clause-next g c =
    let count = rw (← c.self.view_is) at c.requires.count in
    let now = c.take_told.new in
    rw (← c.self.view_is) (next-behind (λ f. f.reply) c.args.number c.args.wire.now c.self.inside.timetable now.timetable c.self.inside.directory now.directory c.take_told.result
    (omega (arith, count)) c.take_told.ensures.taken)
