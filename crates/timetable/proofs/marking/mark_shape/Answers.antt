use Rattle.timetable.proofs.Words.{Extra, ◌≤◌, ◌||◌, ◌∙◌, Some, length, sym, ap, arith, is_same_node, node_at, node_of, false}
use Rattle.timetable.proofs.Renewed.{cancel-after, extra-after, or-false, reroute-after, routed-by, step-fed, stepped-fit, stepped-trains}
use Rattle.timetable.proofs.Onwards.{linked-there}
use Rattle.timetable.specs.Marking.{IsStateAfter}
use Rattle.timetable.proofs.marking.mark_shape.Goals as goal

pub next_label-requires : goal.next_label-requires
next_label-requires c =
    let g = c.args.graph.now in
    let r = c.in-Reroute in
    rw c.trains-trains.ensures.trains (routed-by g.network c.requires.stepped.old g.state r.train r.from r.to r.via.now (rw r.is at c.requires.stepped.step)).there

pub overflow_cast-first : goal.overflow_cast-first
overflow_cast-first c =
    let g = c.args.graph.now in
    let r = c.in-Reroute in
    let next = (routed-by g.network c.requires.stepped.old g.state r.train r.from r.to r.via.now (rw r.is at c.requires.stepped.step)).next c.next_label.result (rw c.trains-trains.ensures.trains at c.next_label.ensures.label) in
    omega (arith, next.0, c.next_label.ensures.small)

pub overflow_sub-first : goal.overflow_sub-first
overflow_sub-first c =
    let g = c.args.graph.now in
    let r = c.in-Reroute in
    let next = (routed-by g.network c.requires.stepped.old g.state r.train r.from r.to r.via.now (rw r.is at c.requires.stepped.step)).next c.next_label.result (rw c.trains-trains.ensures.trains at c.next_label.ensures.label) in
    let le : length r.via.now ≤ c.get.result = omega (arith, next.0, c.get.ensures) in le

pub mark_made-requires : goal.mark_made-requires
mark_made-requires c =
    let g = c.args.graph.now in
    let r = c.in-Reroute in
    let routed = routed-by g.network c.requires.stepped.old g.state r.train r.from r.to r.via.now (rw r.is at c.requires.stepped.step) in
    record {
      trains = routed.trains;
      there = routed.there;
      fit = stepped-fit g c.args.s.now c.args.marks.now c.requires.stepped c.keep_live.new.marks (record {
        keys = rw c.trains-trains.ensures.trains at c.keep_live.ensures.keys;
        room = c.keep_live.ensures.room;
        roomy = c.requires.room;
      });
    }

pub mark_made-requires-in-Extra : goal.mark_made-requires-in-Extra
mark_made-requires-in-Extra c =
    let g = c.args.graph.now in
    let r = c.in-Extra in
    let m = Extra r.train r.day r.route r.calls.now in
    let step : IsStateAfter g.network c.requires.stepped.old g.state m = rw r.is at c.requires.stepped.step in
    record {
      trains = stepped-trains g.network c.requires.stepped.old g.state m step;
      there = linked-there g.network c.requires.stepped.old g.state m step;
      fit = stepped-fit g c.args.s.now c.args.marks.now c.requires.stepped c.keep_live.new.marks (record {
        keys = rw c.trains-trains.ensures.trains at c.keep_live.ensures.keys;
        room = c.keep_live.ensures.room;
        roomy = c.requires.room;
      });
    }

pub mark_event-requires-clause-trains : goal.mark_event-requires-clause-trains
mark_event-requires-clause-trains c =
    let g = c.args.graph.now in
    let r = c.in-Reroute in
    rw c.trains-trains.ensures.trains (routed-by g.network c.requires.stepped.old g.state r.train r.from r.to r.via.now (rw r.is at c.requires.stepped.step)).trains

pub mark_event-requires-clause-live : goal.mark_event-requires-clause-live
mark_event-requires-clause-live c =
    let g = c.args.graph.now in
    let r = c.in-Reroute in
    rw (c.trains-trains.ensures.trains, c.arrival.ensures)
    (routed-by g.network c.requires.stepped.old g.state r.train r.from r.to r.via.now (rw r.is at c.requires.stepped.step)).arrival

pub returns-in-Cancel-clause-marked : goal.returns-in-Cancel-clause-marked
returns-in-Cancel-clause-marked c = λ st step before.
    let g = c.args.graph.now in
    let s = c.args.s.now in
    let kept = c.keep_live.new.marks in
    let keys = rw c.trains-trains.ensures.trains at c.keep_live.ensures.keys in
    let r = c.in-Cancel in
    rw r.is
    (cancel-after g.network st g.state r.train r.from r.to (rw r.is at step) kept (stepped-fit g s c.args.marks.now c.requires.stepped kept (record { keys = keys; room = c.keep_live.ensures.room; roomy = c.requires.room }))
    (step-fed g.network st g.state s step c.args.marks.now before kept (record { keys = keys; room = c.keep_live.ensures.room; roomy = c.requires.room })))

pub returns-in-Reroute-clause-marked : goal.returns-in-Reroute-clause-marked
returns-in-Reroute-clause-marked c = λ st step before.
    let g = c.args.graph.now in
    let s = c.args.s.now in
    let kept = c.keep_live.new.marks in
    let keys = rw c.trains-trains.ensures.trains at c.keep_live.ensures.keys in
    let r = c.in-Reroute in
    let now = rw r.is at step in
    let label = rw c.trains-trains.ensures.trains at c.next_label.ensures.label in
    let next = (routed-by g.network st g.state r.train r.from r.to r.via.now now).next c.get.result (label ∙ ap Some (sym c.get.ensures)) in
    let fit = rw c.trains-trains.ensures.trains at c.mark_event.ensures.fit in
    let marked = rw (c.trains-trains.ensures.trains, c.arrival.ensures) at c.mark_event.ensures.marked in
    rw r.is
    (reroute-after g.network st g.state r.train r.from r.to r.via.now now kept c.mark_event.new.marks _ next.1 (step-fed g.network st g.state s step c.args.marks.now before kept (record { keys = keys; room = c.keep_live.ensures.room; roomy = c.requires.room })) (record {
      fit = fit;
      marked = λ k live. marked k live ∙ ap (λ b. b || is_same_node (node_of k) (node_at r.train r.to false)) (c.mark_made.ensures.marked k live);
    }))

pub returns-in-Extra-clause-marked : goal.returns-in-Extra-clause-marked
returns-in-Extra-clause-marked c = λ st step before.
    let g = c.args.graph.now in
    let s = c.args.s.now in
    let kept = c.keep_live.new.marks in
    let keys = rw c.trains-trains.ensures.trains at c.keep_live.ensures.keys in
    let r = c.in-Extra in
    rw r.is
    (extra-after g.network st g.state r.train r.day r.route r.calls.now (rw r.is at step) kept c.mark_made-in-Extra.new.marks (step-fed g.network st g.state s step c.args.marks.now before kept (record { keys = keys; room = c.keep_live.ensures.room; roomy = c.requires.room })) (record {
      fit = c.mark_made-in-Extra.ensures.fit;
      marked = λ k live. c.mark_made-in-Extra.ensures.marked k live ∙ sym (or-false _);
    }))
