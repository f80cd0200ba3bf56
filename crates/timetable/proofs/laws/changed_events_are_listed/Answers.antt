use Rattle.timetable.proofs.Changed.{changed-each, changed-length, changed-only, changed-ordered}
use Rattle.timetable.proofs.laws.changed_events_are_listed.Goals as goal

pub returns-clause-each : goal.returns-clause-each
returns-clause-each c = changed-each c.args.nw.now c.args.old.now c.args.new.now

pub returns-clause-count : goal.returns-clause-count
returns-clause-count c = changed-length c.args.nw.now c.args.old.now c.args.new.now

pub returns-clause-only : goal.returns-clause-only
returns-clause-only c = changed-only c.args.nw.now c.args.old.now c.args.new.now

pub returns-clause-order : goal.returns-clause-order
returns-clause-order c = changed-ordered c.args.nw.now c.args.old.now c.args.new.now
