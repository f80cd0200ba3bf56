use Rattle.query_crew.proofs.Words.{◌≡◌, ℕ, ◌<◌, length, true, HasWorked}
use Rattle.query_crew.specs.Keeping.{AreKept}
use Rattle.std.proofs.Common.{slice_index_or}
use Rattle.query_crew.proofs.answering.answer_in_turn.Given as goal

abbrev pub invariant-loop-i : goal.invariant-loop-i
invariant-loop-i g l = record {
  worked : (k : ℕ) (d : _) → k < l.i → (slice_index_or l.all k d).is_whole ≡ true → HasWorked g.H.Opening.opening
      l.fn.note (slice_index_or l.all k d).viewer l.fn.window.first k (length l.fn.all) l.fn.window.lines.now (slice_index_or l.all k d).answers.items;
  kept : AreKept l.fn.all l.all;
}
