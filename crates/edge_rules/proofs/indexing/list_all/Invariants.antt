use Rattle.edge_rules.proofs.Words.{◌≡◌, ◌++◌, drop, events, events_from, entries_of}
use Rattle.edge_rules.proofs.indexing.list_all.Given as goal

-- those of the trains so far are listed
abbrev pub invariant-loop-number : goal.invariant-loop-number
invariant-loop-number l =
    l.list.items ++ entries_of (events_from l.number (drop l.number l.trains.trains)) ≡ entries_of (events l.trains)
