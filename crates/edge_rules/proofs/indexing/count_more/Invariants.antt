use Rattle.edge_rules.proofs.Words.{◌≡◌, ◌+◌, length, train_events, entries_of}
use Rattle.edge_rules.proofs.indexing.count_more.Given as goal

abbrev pub invariant-loop-event : goal.invariant-loop-event
invariant-loop-event l =
    l.sum + length (entries_of l.event-iterator) ≡ l.count + length (entries_of (train_events l.trains l.fn.t))
