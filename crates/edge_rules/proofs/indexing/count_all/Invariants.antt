use Rattle.edge_rules.proofs.Words.{◌≡◌, ◌+◌, length, drop, events, events_from, entries_of}
use Rattle.edge_rules.proofs.indexing.count_all.Given as goal

-- those of the trains so far are counted
abbrev pub invariant-loop-number : goal.invariant-loop-number
invariant-loop-number l =
    l.count + length (entries_of (events_from l.number (drop l.number l.trains.trains))) ≡ length (entries_of (events l.trains))
