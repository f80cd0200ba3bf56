use Rattle.edge_rules.proofs.Words.{◌≡◌, ◌++◌, train_events, entries_of}
use Rattle.edge_rules.proofs.indexing.list_more.Given as goal

abbrev pub invariant-loop-event : goal.invariant-loop-event
invariant-loop-event l =
    l.list.items ++ entries_of l.event-iterator ≡ l.fn.list.items ++ entries_of (train_events l.trains l.fn.t)
