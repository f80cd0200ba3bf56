use Rattle.timetable.proofs.Words.{sym, ◌∙◌}
use Rattle.timetable.proofs.OnSchedule.{all-scheduled, none-scheduled, scheduled-more}
use Rattle.timetable.proofs.loading.store_schedule.Goals as goal

pub loop-k-init : goal.loop-k-init
loop-k-init c =
    none-scheduled c.into_iter-k-iterator.result (rw c.trains-2.ensures.trains at (c.into_iter-k-iterator.ensures.into_iter_gives ∙ c.live_keys-k-items.ensures)) c.requires.held

pub loop-k-preserved : goal.loop-k-preserved
loop-k-preserved c =
    scheduled-more c.requires.valid (rw c.in-Some.ensures.steps at c.loop-k.invariant) c.write.new.self (rw c.node.ensures at c.write.ensures.stored) (rw c.node.ensures at c.write.ensures.time)

pub returns-clause-times : goal.returns-clause-times
returns-clause-times c = λ _.
    all-scheduled c.requires.valid (rw c.in-None.ensures.steps.0 at c.loop-k.invariant) (rw c.trains.ensures.trains at (sym c.have_schedule_alone.ensures ∙ c.if-not-have_schedule_alone.false))
