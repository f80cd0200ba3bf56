use Rattle.edge_rules.proofs.Words.{◌≡◌, before, events_between, is_event, AreThere, entries_of, without_entries}
use Rattle.edge_rules.proofs.Walks.{after_once}
use Rattle.edge_rules.proofs.indexing.remove_between.Given as goal

-- those that are left can be taken out, and then all are
abbrev pub invariant-loop-event : goal.invariant-loop-event
invariant-loop-event l =
    let left = entries_of (before (is_event l.arrival) (after_once l.departed (is_event l.departure) l.event-iterator)) in
    AreThere left l.index × (without_entries left l.index ≡ without_entries (entries_of (events_between l.trains l.fn.t l.fn.from l.fn.to)) l.fn.index)
