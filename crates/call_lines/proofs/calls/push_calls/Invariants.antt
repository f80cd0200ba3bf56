use Rattle.call_lines.proofs.Words.{◌≡◌, vec_capacity, AreLaid}
use Rattle.call_lines.proofs.calls.push_calls.Given as goal

-- the calls before this place are laid
abbrev pub invariant-loop-place : goal.invariant-loop-place
invariant-loop-place l = record {
  laid : AreLaid l.train l.first l.calls l.place l.initial.all.items l.all.items;
  capacity : vec_capacity l.all ≡ vec_capacity l.initial.all;
}
