use Rattle.timetable.proofs.Words.{◌≡◌, ◌+◌, ◌++◌, ◌≤◌, drop, length, map, node_of, vec_capacity, vec_len, TimeChange}
use Rattle.timetable.proofs.prepare.push_names.Given as goal

-- with the names of those that are left all are listed
abbrev pub invariant-loop-one : goal.invariant-loop-one
invariant-loop-one l = record {
  whole : l.changed.items ++ map (λ (r : TimeChange). node_of r.key) (drop l.one-index l.time_changes) ≡ l.fn.changed.items ++ map (λ (r : TimeChange). node_of r.key) l.time_changes;
  room : vec_len l.changed + length (drop l.one-index l.time_changes) ≤ vec_capacity l.changed;
  capacity : vec_capacity l.changed ≡ vec_capacity l.fn.changed;
}
