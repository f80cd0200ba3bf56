use Rattle.timetable.proofs.Words.{arith, IsSettled}
use Rattle.timetable.proofs.{Listing.live-held}
use Rattle.timetable.proofs.loading.settle_all.Goals as goal

pub time_all-requires-clause-held : goal.time_all-requires-clause-held
time_all-requires-clause-held g c = live-held c.args.graph.now.state c.args.times.now c.requires.valid.trains c.requires.has_times
