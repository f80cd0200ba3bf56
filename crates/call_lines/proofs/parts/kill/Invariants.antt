use Rattle.call_lines.proofs.Words.{◌≡◌, vec_capacity, IsKilled}
use Rattle.call_lines.proofs.PartLemmas.{IsStanding}
use Rattle.call_lines.proofs.parts.kill.Given as goal

-- the events up to a place are killed, and the call at that place is in the slot
abbrev pub invariant-loop-place : goal.invariant-loop-place
invariant-loop-place l = record {
  killed : IsKilled l.part.train l.part.first l.place l.fn.calls.items l.calls.items;
  standing : IsStanding l.fn.calls.items l.part.train l.place l.slot;
  capacity : vec_capacity l.calls ≡ vec_capacity l.fn.calls;
}
