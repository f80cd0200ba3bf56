use Rattle.timetable.proofs.Words.{◌∙◌, ap, arith, true, false, is_event, node_at, train_events, up_to}
use Rattle.train_nodes.proofs.FromCalls.{since-call}
use Rattle.timetable.proofs.Since.{fewer-from, naming-begin}
use Rattle.timetable.proofs.leaving.list_stretch.Goals as goal

pub loop-event-init : goal.loop-event-init
loop-event-init c =
    let a = c.args in
    let all = c.into_iter-event-iterator.ensures.into_iter_gives ∙ c.events_from-event-items.ensures in
    let is = ap (up_to (is_event (node_at a.t a.to false))) (since-call a.trains.now (node_at a.t a.from true)).0 in
    let fewer = fewer-from (is_event (node_at a.t a.from false)) (train_events a.trains.now a.t) in
    rw all (naming-begin _ _ _ a.list.now is c.requires.empty (omega (arith, fewer, c.requires.room)))
