use Rattle.call_lines.proofs.Words.{◌≡◌, map, vec_capacity, AreLaid, by_table}
use Rattle.call_lines.proofs.calls.push_extra_calls.Given as goal

-- the calls before this place are laid
abbrev pub invariant-loop-place : goal.invariant-loop-place
invariant-loop-place l = record {
  laid : AreLaid l.train l.first (map by_table l.calls) l.place l.initial.all.items l.all.items;
  capacity : vec_capacity l.all ≡ vec_capacity l.initial.all;
}
