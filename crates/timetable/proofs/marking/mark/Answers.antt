use Rattle.timetable.proofs.Marked.{fit-more, room-for-one}
use Rattle.timetable.proofs.marking.mark.Goals as goal

pub set-requires : goal.set-requires
set-requires c =
    let can = c.requires in record { room = room-for-one can.events c.args.marks.now c.args.k.now c.marks_are_in_order.ensures.ascends can.fit can.live }

pub returns-clause-fit : goal.returns-clause-fit
returns-clause-fit c = λ es. fit-more es c.args.marks.now c.set.new.self c.args.k.now c.set.ensures.marked c.set.ensures.room
