use Rattle.timetable.proofs.Since.{own-fit}
use Rattle.timetable.proofs.leaving.list_leaving.Goals as goal

pub list_stretch-requires-clause-room : goal.list_stretch-requires-clause-room
list_stretch-requires-clause-room c = own-fit c.args.trains.now _ _ c.requires.room

pub list_between-requires-clause-room : goal.list_between-requires-clause-room
list_between-requires-clause-room c = own-fit c.args.trains.now _ _ c.requires.room
