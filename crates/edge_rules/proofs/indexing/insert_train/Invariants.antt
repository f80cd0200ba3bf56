use Rattle.edge_rules.proofs.Words.{◌≡◌, train_events, AreNew, entries_of, with_entries}
use Rattle.edge_rules.proofs.indexing.insert_train.Given as goal

-- those that are left can be put in, and then all are
abbrev pub invariant-loop-event : goal.invariant-loop-event
invariant-loop-event l =
    let left = entries_of l.event-iterator in
    AreNew left l.index × (with_entries left l.index ≡ with_entries (entries_of (train_events l.trains l.fn.t)) l.fn.index)
