use Rattle.call_lines.proofs.Words.{◌≡◌, length, vec_capacity, AreAppended}
use Rattle.call_lines.proofs.parts.push_via.Given as goal

-- so many calls were appended
abbrev pub invariant-loop-i : goal.invariant-loop-i
invariant-loop-i l = record {
  appended : AreAppended l.part.train l.part.from l.part.to l.label l.via l.i l.fn.calls.items l.calls.items;
  first : l.first ≡ length l.fn.calls.items;
  capacity : vec_capacity l.calls ≡ vec_capacity l.fn.calls;
}
