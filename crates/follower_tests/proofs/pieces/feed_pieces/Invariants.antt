use Rattle.std.proofs.Common.{◌≤◌}
use Rattle.journal_follower.specs.Following.{IsReady}
use Rattle.follower_tests.proofs.pieces.feed_pieces.Given as goal

abbrev pub invariant-loop-piece : goal.invariant-loop-piece
invariant-loop-piece g l = record {
  next : (goal.iterator-loop-piece g).can_next l.piece-iterator;
  finite : (goal.iterator-loop-piece g).is_finite l.piece-iterator;
  ready : IsReady g.H.Opening.opening l.follower;
  few : l.follower.reader.lines ≤ 1001;
}
