use Rattle.timetable.proofs.loading.time_all.Goals as goal

pub settle-requires-clause-marked : goal.settle-requires-clause-marked
settle-requires-clause-marked g c = let fit = rw c.trains.ensures.trains at c.mark_all.ensures.fit in fit.live
