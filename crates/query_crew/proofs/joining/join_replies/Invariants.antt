use Rattle.query_crew.proofs.Words.{◌≡◌, ◌<◌, ℕ, length, AreJoined}
use Rattle.std.proofs.Common.{slice_index_or}
use Rattle.query_crew.specs.Keeping.{AreKept}
use Rattle.query_crew.proofs.Joins.{IsSameFrom}
use Rattle.query_crew.proofs.joining.join_replies.Given as goal

abbrev pub invariant-loop-i : goal.invariant-loop-i
invariant-loop-i g l = record {
  own : IsSameFrom l.i l.fn.own.items l.own.items;
  answers : (k : ℕ) (d : _) → k < length l.fn.all → IsSameFrom l.i (slice_index_or l.fn.all k d).answers.items (slice_index_or l.all k d).answers.items;
  kept : AreKept l.fn.all l.all;
  count : length l.replies.items ≡ l.i;
  each : (d : _) → AreJoined l.fn.lines l.fn.own.items (λ k. (slice_index_or l.fn.all k d).answers.items) (length l.fn.all) l.replies.items;
}
