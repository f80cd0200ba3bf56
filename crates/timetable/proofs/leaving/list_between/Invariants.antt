use Rattle.timetable.proofs.Words.{true, false, node_at, is_event, vec_capacity}
use Rattle.delay_model.specs.Cuts.{before}
use Rattle.delay_model.specs.Effect.{events_between}
use Rattle.edge_rules.proofs.Walks.{after_once}
use Rattle.timetable.proofs.Since.{IsNaming}
use Rattle.timetable.proofs.leaving.list_between.Given as goal

-- the live events so far are listed
abbrev pub invariant-loop-event : goal.invariant-loop-event
invariant-loop-event l =
    let leaves = is_event (node_at l.fn.t l.fn.from true) in
    let arrives = is_event (node_at l.fn.t l.fn.to false) in
    IsNaming (vec_capacity l.fn.list) (events_between l.trains l.fn.t l.fn.from l.fn.to) (before arrives (after_once l.departed leaves l.event-iterator)) l.event-iterator l.list
