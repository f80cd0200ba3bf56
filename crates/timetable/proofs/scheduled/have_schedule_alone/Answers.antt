use Rattle.timetable.proofs.Words.{refl, arith, events}
use Rattle.timetable.proofs.OnSchedule.{one-fails, one-passes}
use Rattle.timetable.proofs.scheduled.have_schedule_alone.Goals as goal

pub loop-number-init : goal.loop-number-init
unfolding events
loop-number-init c = refl

pub returns-then-not-train_has_schedule_alone : goal.returns-then-not-train_has_schedule_alone
returns-then-not-train_has_schedule_alone c =
    let one = c.train_has_schedule_alone in
    one-fails c.args.trains.now c.loop-number.number c.new.result (omega arith) c.new.ensures c.loop-number.invariant one.result one.ensures c.if-not-train_has_schedule_alone.true

pub loop-number-preserved : goal.loop-number-preserved
loop-number-preserved c =
    let one = c.train_has_schedule_alone in
    one-passes c.args.trains.now c.loop-number.number c.new.result (omega arith) c.new.ensures c.loop-number.invariant one.result one.ensures c.if-not-train_has_schedule_alone.false
