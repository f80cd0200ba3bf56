use Rattle.timetable.proofs.Words.{sym, ◌∙◌}
use Rattle.timetable.proofs.MadeLabels.{dead-marks, named-key, named-marks}
use Rattle.timetable.proofs.marking.mark_made_event.Goals as goal

pub mark_one_made-requires-clause-live : goal.mark_one_made-requires-clause-live
mark_one_made-requires-clause-live c =
    let e = c.live_event.ensures in
    named-key c.args.graph.now c.requires.trains c.args.n.now c.live_event.result (sym (rw c.trains.ensures.trains at c.live.ensures) ∙ c.if-live.true) e.named e.there

pub returns-then-live-clause-marked : goal.returns-then-live-clause-marked
returns-then-live-clause-marked c =
    let e = c.live_event.ensures in
    named-marks c.args.graph.now c.requires.trains c.args.n.now c.live_event.result (sym (rw c.trains.ensures.trains at c.live.ensures) ∙ c.if-live.true) e.named e.there c.args.marks.now c.mark_one_made.new.marks c.mark_one_made.ensures.marked

pub returns-else-live-clause-marked : goal.returns-else-live-clause-marked
returns-else-live-clause-marked c = λ q _. dead-marks c.args.graph.now c.args.n.now c.args.marks.now q (sym (rw c.trains.ensures.trains at c.live.ensures) ∙ c.if-live.false)
