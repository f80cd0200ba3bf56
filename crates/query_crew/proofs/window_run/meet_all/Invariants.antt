use Rattle.query_crew.proofs.Words.{◌≡◌, ℕ, ◌<◌, ◌≤◌, List, length, true, IsPrefix, Message, HasAnsweredAll, HasWorked}
use Rattle.query_crew.specs.Keeping.{AreKept}
use Rattle.std.proofs.Common.{slice_index_or}
use Rattle.query_crew.proofs.window_run.meet_all.Given as goal

abbrev pub invariant-loop-i : goal.invariant-loop-i
invariant-loop-i g l = record {
  answered : (start : List Message) → IsPrefix start l.fn.publisher
      → ((k : ℕ) (d : _) → k < length l.fn.all → (slice_index_or l.fn.all k d).is_whole ≡ true → HasWorked g.H.Opening.opening
      start (slice_index_or l.fn.all k d).viewer l.fn.window.first k (length l.fn.all) l.fn.window.lines.now (slice_index_or l.fn.all k d).answers.items)
      → ((k : ℕ) (d : _) → l.i ≤ k → k < length l.fn.all → (slice_index_or l.all k d).is_whole ≡ true → HasWorked g.H.Opening.opening
      start (slice_index_or l.all k d).viewer l.fn.window.first k (length l.fn.all) l.fn.window.lines.now (slice_index_or l.all k d).answers.items)
      × ((k : ℕ) (d : _) → k < l.i → HasAnsweredAll g.H.Opening.opening l.fn.publisher
      (length start) l.fn.window.first k (length l.fn.all) l.fn.window.lines.now (slice_index_or l.all k d).answers.items);
  kept : AreKept l.fn.all l.all;
}
