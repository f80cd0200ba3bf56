use Rattle.std.proofs.Common.{◌≡◌, ◌∙◌, ◌+◌, ◌≤◌, ◌++◌, ℕ, List, [], length, take, Some, Result, refl, sym, ap, subst, arith, append-nil, length-take}
use Rattle.std.specs.Io.KnownBytes.{Consumes}
use Rattle.followed_input.specs.Faults.{ended, fault_of, reads_failed}
use Rattle.followed_input.specs.Followed.{IsFollowed}
use Rattle.followed_input.specs.declared.fault.FollowFault.{FollowFault}
use Rattle.followed_input.specs.declared.fault.FollowFault.TheVariants.{ReadFault, OutOfMemory}
use Rattle.followed_input.proofs.Endings.{at-end, fed-in-part, followed-as, followed-none, no-read-failed, none-at-end, not-refused, prefix-trans, read-failed, reads-as, spent}
use Rattle.followed_input.proofs.Reading.{few-lines, so-far-more, so-far-none}
use Rattle.followed_input.proofs.following.follow_input.Goals as goal

pub returns-in_err-piece-clause-followed : goal.returns-in_err-piece-clause-followed
returns-in_err-piece-clause-followed g c =
    ([], followed-as c.from_residual.result OutOfMemory c.from_residual.ensures.1 (followed-none g.H.Opening.opening c.args.budget c.args.follower.now (g.S.Source.left c.args.input.now)))

pub pieces-init : goal.pieces-init
pieces-init g c = record {
  so_far = ([], so-far-none g.H.Opening.opening c.args.follower.now (g.S.Source.left c.args.input.now) c.requires.not_refused);
  within = omega arith;
  later = ([], append-nil c.args.follower.now.board.posted);
  ready = c.requires.ready;
  faults = refl;
  room = c.in_ok-piece.ensures.len;
}

pub returns-in_err-count-clause-followed : goal.returns-in_err-count-clause-followed
returns-in_err-count-clause-followed g c =
    let so = c.pieces.invariant.so_far in (
      so.0,
      followed-as c.from_residual-in_err-count.result ReadFault c.from_residual-in_err-count.ensures.1
          (read-failed c.args.budget (g.S.Source.left c.read_piece.new.input) so.1 c.in_err-count.ensures.moved c.pieces-test.true),
    )

pub returns-then-count-eq0-clause-followed : goal.returns-then-count-eq0-clause-followed
returns-then-count-eq0-clause-followed g c =
    let so = c.pieces.invariant.so_far in
    let left_now = g.S.Source.left c.read_piece.new.input in
    let moved = c.in_ok-count.ensures.moved in
    let n : ℕ = c.in_ok-count.count in
    let none : n ≡ 0 = c.if-count-eq0.true in
    let piece : List ℕ = take n c.read_piece.new.piece.items in
    let answers : c.end_input.result ≡ ended c.pieces.follower.reader.lines = c.end_input.ensures ∙ ap ended c.lines.ensures in (
      so.0,
      subst (λ (r : Result (Unit {0}) FollowFault). IsFollowed g.H.Opening.opening c.args.budget c.args.follower.now c.pieces.follower (g.S.Source.left c.args.input.now) left_now so.0 r)
          (sym answers) (at-end c.args.budget left_now so.1 piece moved.0 (omega (arith, length-take n c.read_piece.new.piece.items, none))
          (moved.1 none (omega (arith, c.min-room.ensures, c.pieces-test.true))) c.pieces-test.true),
    )

pub returns-then-count-eq0-clause-reads : goal.returns-then-count-eq0-clause-reads
returns-then-count-eq0-clause-reads g c =
    ap Some (c.in_ok-count.ensures.cause.answered ∙ c.pieces.invariant.faults)
    ∙ sym (ap (λ (r : Result (Unit {0}) FollowFault). reads_failed r (g.S.Source.faults c.args.input.now)) c.end_input.ensures ∙ none-at-end c.lines.result (g.S.Source.faults c.args.input.now))

pub feed-requires-clause-lines : goal.feed-requires-clause-lines
feed-requires-clause-lines g c =
    let inv = c.pieces.invariant in
    few-lines c.args.budget c.requires.ready c.requires.not_refused inv.so_far.1 c.pieces-test.true c.requires.lines

pub pieces-preserved : goal.pieces-preserved
pieces-preserved g c =
    let inv = c.pieces.invariant in
    let n : ℕ = c.in_ok-count.count in
    let fed = c.in_ok-feed.ensures in
    let piece : List ℕ = take n c.deref.result.now in
    let left_now = g.S.Source.left c.read_piece.new.input in
    let next : Consumes (g.S.Source.left c.pieces.input) left_now piece = rw c.deref.ensures.value c.in_ok-count.ensures.moved.0 in
    let bound : n ≤ c.min-room.result = c.in_ok-count.ensures.bound in
    let count : length piece ≡ n =
    omega (arith, length-take n c.deref.result.now, c.deref.ensures.len, bound, c.min-room.ensures, c.in_ok-count.ensures.len, inv.room) in
    record {
      so_far = (
        inv.so_far.0 ++ piece,
        so-far-more c.feed.new.self left_now n piece inv.so_far.1 next count (fed.read (λ bad. absurd (cc))) fed.header (not-refused c.feed.new.self.reader _ fed.answer),
      );
      within = omega (arith, bound, c.min-room.ensures, c.pieces-test.true);
      later = prefix-trans _ _ _ inv.later fed.later;
      ready = fed.ready;
      faults = c.in_ok-count.ensures.cause.answered ∙ inv.faults;
      room = c.in_ok-count.ensures.len ∙ inv.room;
    }

pub returns-in_err-feed-clause-followed : goal.returns-in_err-feed-clause-followed
returns-in_err-feed-clause-followed g c =
    let inv = c.pieces.invariant in
    let n : ℕ = c.in_ok-count.count in
    let fed = c.in_err-feed.ensures in
    let why = c.in_err-feed.field-0.0 in
    let piece : List ℕ = take n c.deref.result.now in
    let left_now = g.S.Source.left c.read_piece.new.input in
    let next : Consumes (g.S.Source.left c.pieces.input) left_now piece = rw c.deref.ensures.value c.in_ok-count.ensures.moved.0 in
    let bound : n ≤ c.min-room.result = c.in_ok-count.ensures.bound in
    let within : c.pieces.taken + length piece ≤ c.args.budget = omega (arith, length-take n c.deref.result.now, bound, c.min-room.ensures, c.pieces-test.true) in (
      inv.so_far.0 ++ piece,
      followed-as c.from_residual-in_err-feed.result (fault_of why) c.from_residual-in_err-feed.ensures.1
          (fed-in-part c.args.budget left_now inv.so_far.1 c.feed.new.self piece next within why fed.read fed.memory fed.answer),
    )

pub returns-in_err-feed-clause-reads : goal.returns-in_err-feed-clause-reads
returns-in_err-feed-clause-reads g c =
    let why = c.in_err-feed.field-0.0 in
    reads-as c.from_residual-in_err-feed.result (fault_of why) _ (g.S.Source.faults c.args.input.now) c.from_residual-in_err-feed.ensures.1
    (ap Some (c.in_ok-count.ensures.cause.answered ∙ c.pieces.invariant.faults) ∙ sym (no-read-failed why (g.S.Source.faults c.args.input.now)))

pub returns-in_err-feed-clause-later : goal.returns-in_err-feed-clause-later
returns-in_err-feed-clause-later g c = prefix-trans _ _ _ c.pieces.invariant.later c.in_err-feed.ensures.later

pub returns-clause-followed : goal.returns-clause-followed
returns-clause-followed g c =
    let inv = c.pieces.invariant in
    (inv.so_far.0, spent c.args.budget inv.so_far.1 (omega (arith, c.pieces-test.false, inv.within)))
