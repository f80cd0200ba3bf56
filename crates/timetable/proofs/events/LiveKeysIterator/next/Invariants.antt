use Rattle.timetable.proofs.Words.{◌-◌, drop, events_from, length, live_keys}
use Rattle.edge_rules.proofs.Taken.{IsTaken}
use Rattle.timetable.proofs.events.LiveKeysIterator.next.Given as goal

-- the key that was taken, and those that are left
abbrev pub invariant-loop-key : goal.invariant-loop-key
invariant-loop-key l =
    let a = l.self-inside in
    IsTaken l.fn.self l.key (live_keys a.events) (live_keys (events_from a.next (drop a.next a.trains.now.trains)))

abbrev pub decreases-loop-key : goal.decreases-loop-key
decreases-loop-key l = length l.self-inside.trains.now.trains - l.self-inside.next
