use Rattle.schedule_build.proofs.Words.{◌≡◌, ℕ, ◌<◌, true, false, if◌then◌else◌, length, get_or, drop, list_any, runs}
use Rattle.schedule_build.proofs.running.mark_runs.Given as goal

-- what the rest of the rows would mark is what all rows mark
abbrev pub invariant-loop-row : goal.invariant-loop-row
invariant-loop-row l = record {
  len : length l.marks.items ≡ length l.initial.marks.items;
  marks : (s : ℕ) → s < length l.initial.marks.items → (if list_any (runs s l.date l.weekday) (drop l.row-index l.rows) then true else get_or l.marks.items s false) ≡ (if list_any (runs s l.date l.weekday) l.rows then true else get_or l.initial.marks.items s false);
}
