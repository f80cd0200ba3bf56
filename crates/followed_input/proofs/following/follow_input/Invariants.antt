use Rattle.std.proofs.Common.{◌≡◌, ◌≤◌, ◌-◌, ℕ, List, vec_len}
use mathlib.Core.List.{IsPrefix}
use Rattle.journal_follower.specs.Following.{IsReady}
use Rattle.followed_input.proofs.Reading.{IsSoFar}
use Rattle.followed_input.proofs.following.follow_input.Given as goal

abbrev pub invariant-pieces : goal.invariant-pieces
invariant-pieces g l =
    let left = g.S.Source.left in
    let o = g.H.Opening.opening in
    record {
      so_far : (bytes : List ℕ) × IsSoFar o l.initial.follower l.follower (left l.initial.input) (left l.input) l.taken bytes;
      within : l.taken ≤ l.budget;
      later : IsPrefix l.initial.follower.board.posted l.follower.board.posted;
      ready : IsReady o l.follower;
      faults : g.S.Source.faults l.input ≡ g.S.Source.faults l.initial.input;
      room : vec_len l.piece ≡ 65536;
    }

abbrev pub decreases-pieces : goal.decreases-pieces
decreases-pieces g l = l.budget - l.taken
