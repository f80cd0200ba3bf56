use Rattle.watch_answers.proofs.Kept.{elsewhere-kept}
use Rattle.watch_answers.proofs.messages.tell_alerts.Goals as goal

pub after-requires : goal.after-requires
after-requires g c = record { kept = elsewhere-kept c.args.timetable.now c.args.kept.now c.requires.taken }
