use Rattle.timetable.proofs.Departing.{later-in, later-each, later-not-before, later-rise}
use Rattle.timetable.proofs.laws.departures_are_listed.Goals as goal

pub returns-clause-each : goal.returns-clause-each
returns-clause-each c = later-in c.args.timetable.now.network c.args.timetable.now.state c.args.from

pub returns-clause-only : goal.returns-clause-only
returns-clause-only c = later-each c.args.timetable.now.network c.args.timetable.now.state c.args.from

pub returns-clause-later : goal.returns-clause-later
returns-clause-later c = later-not-before c.args.timetable.now.network c.args.timetable.now.state c.args.from

pub returns-clause-ascends : goal.returns-clause-ascends
returns-clause-ascends c = later-rise c.args.timetable.now.network c.args.timetable.now.state c.args.from c.state_is_valid.ensures.trains
