use Rattle.timetable.proofs.Words.{◌∙◌, ap, sym, arith, is_same_node, length, train_events}
use Rattle.timetable.proofs.Since.{own-fit, since-begin, since-reported}
use Rattle.timetable.proofs.leaving.list_since_report.Goals as goal

pub loop-event-init : goal.loop-event-init
loop-event-init c =
    let n = c.args.n.now in
    let list = c.args.list.now in
    let none = ap length c.requires.empty in
    let long = list.ok.0 in
    since-begin n (train_events c.args.trains.now n.train) _ list (c.into_iter-event-iterator.ensures.into_iter_gives ∙ c.events-event-items.ensures) c.requires.empty (omega arith) (own-fit c.args.trains.now n.train _ c.requires.room)

pub loop-event-preserved-then-is_reported : goal.loop-event-preserved-then-is_reported
loop-event-preserved-then-is_reported c =
    since-reported c.loop-event.invariant c.in-Some.ensures.steps
    (ap (λ m. is_same_node m c.args.n.now) (sym c.node.ensures) ∙ sym c.is_same.ensures ∙ c.if-is_same.false) c.clear.new.self c.clear.ensures.capacity (sym c.is_reported.ensures ∙ c.if-is_reported.true) c.clear.ensures.items c.clear.ensures.len
