use Rattle.timetable.proofs.Words.{arith, events}
use Rattle.timetable.proofs.Listing.{live-few}
use Rattle.timetable.proofs.lists.blank_parts.Goals as goal

pub overflow_add-room : goal.overflow_add-room
overflow_add-room c = omega (arith, c.count_live.ensures, c.spare_calls.ensures, live-few (events c.args.trains.now), c.requires.nodes)
