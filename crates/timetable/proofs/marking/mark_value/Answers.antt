use Rattle.timetable.proofs.Feeds.{names-live}
use Rattle.timetable.proofs.Since.{since-there}
use Rattle.timetable.proofs.marking.mark_value.Goals as goal

pub mark_events-requires-clause-live : goal.mark_events-requires-clause-live
mark_events-requires-clause-live c =
    rw (c.deref.ensures.value, c.list_since_report.ensures.list) (names-live c.args.trains.now _ (since-there c.args.trains.now c.node-node.result))
