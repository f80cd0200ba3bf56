use Rattle.timetable.proofs.Words.{arith, ◌+◌}
use Rattle.timetable.proofs.MadeLabels.{made-begins, made-ends, made-more}
use Rattle.timetable.proofs.marking.mark_made.Goals as goal

pub loop-number-init : goal.loop-number-init
loop-number-init c = made-begins c.args.graph.now c.args.t c.args.first c.args.marks.now c.requires.fit

pub loop-number-preserved : goal.loop-number-preserved
loop-number-preserved c =
    let l = c.loop-number in
    let one = c.mark_made_event in
    let two = c.mark_made_event-in-loop-number in
    made-more c.requires.trains l.invariant (l.number + 1) one.new.marks two.new.marks (omega arith) (omega arith) (rw (c.arrival.ensures, c.new-label.ensures) at one.ensures.marked) one.ensures.room two.ensures.fit (rw (c.departure.ensures, c.new-label.ensures) at two.ensures.marked) two.ensures.room

pub returns-clause-marked : goal.returns-clause-marked
returns-clause-marked c =
    made-ends c.requires.trains c.loop-number.invariant c.next_label.result (rw c.trains.ensures.trains at c.next_label.ensures.label) (omega (arith, c.get-number-end.ensures))
