use Rattle.timetable.proofs.Words.{◌≡◌, ◌+◌, ◌*◌, ◌≤◌, drop, length, vec_capacity, vec_len}
use Rattle.timetable.proofs.Followed.{IsTakenTo}
use Rattle.timetable.proofs.following.take_times.Given as goal

-- with the events that are left all get their times
abbrev pub invariant-loop-n : goal.invariant-loop-n
invariant-loop-n g l = record {
  part : IsTakenTo l.graph.network l.graph.state l.fn.times (drop l.n-index l.names) l.times l.fn.changes.items l.changes.items;
  room : vec_len l.changes + length (drop l.n-index l.names) ≤ vec_capacity l.changes;
  capacity : vec_capacity l.changes ≡ vec_capacity l.fn.changes;
  cost : l.steps + 2 * length (drop l.n-index l.names) ≡ l.fn.steps + 2 * length l.names;
}
