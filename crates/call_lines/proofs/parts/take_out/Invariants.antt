use Rattle.call_lines.proofs.Words.{◌≡◌, ◌-◌, vec_capacity, AreTakenOut}
use Rattle.call_lines.proofs.PartLemmas.{IsStanding}
use Rattle.call_lines.proofs.parts.take_out.Given as goal

-- the calls before a place were taken out, and the last call before it is in the slot
abbrev pub invariant-loop-place : goal.invariant-loop-place
invariant-loop-place l = record {
  out : AreTakenOut l.part.train l.part.first l.place l.fn.calls.items l.calls.items;
  standing : IsStanding l.fn.calls.items l.part.train (l.place - 1) l.slot;
  capacity : vec_capacity l.calls ≡ vec_capacity l.fn.calls;
}
