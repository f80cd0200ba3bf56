-- A follower that has read pieces of an input.
use Rattle.std.proofs.Common.{◌≡◌, ℕ, ◌+◌, ◌<◌, ◌≤◌, ◌^◌, ◌++◌, ◌∷◌, List, [], length, Option, Some, None}
use Rattle.std.proofs.Common.{refl, sym, ◌∙◌, ap, subst, arith, append_assoc, append-nil, length-append}
use Rattle.std.specs.Io.KnownBytes.{Consumes, Keeps}
use Rattle.delay_model.specs.declared.messages.Message.{Message}
use Rattle.information_service.specs.ServiceState.{ServiceState}
use Rattle.journal_follower.specs.Boards.{StandsAs}
use Rattle.journal_follower.specs.Following.{FollowerState, IsReady}
use Rattle.journal_replay.specs.Reading.{JournalProgress, after_bytes}
use Rattle.journal_replay.specs.ReaderStates.{BreaksOff, HasRead, IsAt, ReaderState, progress}
use Rattle.journal_replay.proofs.ByteLemmas.{read-append}
use Rattle.mt_io.proofs.Gives.{consumes_more, consumes_none}
use Rattle.timetable.specs.TimetableState.{TimetableState}
use Rattle.followed_input.proofs.LineCounts.{bytes-lines}

-- ---- bytes of an input

-- nothing more was taken
pub consumes-kept : (left mid now : Option (List ℕ)) (bytes : List ℕ) → Consumes left mid bytes → Keeps mid now → Consumes left now bytes
consumes-kept None mid now bytes p q = tt
consumes-kept (Some a) None now bytes p q = absurd p
consumes-kept (Some a) (Some b) None bytes p q = absurd q
consumes-kept (Some a) (Some b) (Some c) bytes p q = p ∙ ap (λ (l : List ℕ). bytes ++ l) (sym q)

empty : (piece : List ℕ) → length piece ≡ 0 → piece ≡ []
empty [] is = refl
empty (b ∷ piece) is = absurd (omega arith)

-- a read gave nothing
pub consumes-nothing : (left mid now : Option (List ℕ)) (bytes piece : List ℕ) → Consumes left mid bytes → Consumes mid now piece → length piece ≡ 0 → Consumes left now bytes
consumes-nothing left mid now bytes piece p q none =
    subst (Consumes left now) (ap (λ (l : List ℕ). bytes ++ l) (empty piece none) ∙ append-nil bytes) (consumes_more left mid now bytes piece p q)

-- ---- a journal, piece by piece

module _ {T : Type 0} (Stands : T → ServiceState → List Message → Type 0) where
  -- bytes behind others
  behind : (header : List ℕ) (r : ReaderState) (p : JournalProgress) (front piece : List ℕ) → r.header ≡ header
      → after_bytes header p (front ++ piece) ≡ after_bytes r.header (after_bytes header p front) piece
  behind header r p front piece same =
      read-append header p front piece ∙ ap (λ (h : List ℕ). after_bytes h (after_bytes header p front) piece) (sym same)

  -- a piece was read behind others
  pub read-on : (first taker new_taker : T) (r0 r new : ReaderState) (front piece : List ℕ) → HasRead Stands first r0 front taker r → r.header ≡ r0.header
      → HasRead Stands taker r piece new_taker new → HasRead Stands first r0 (front ++ piece) new_taker new
  read-on first taker new_taker r0 r new front piece so same next p at =
      subst (IsAt Stands new_taker new) (sym (behind r0.header r p front piece same)) (next (after_bytes r0.header p front) (so p at))

  -- or there was no memory for it
  pub break-off : (first taker new_taker : T) (r0 r : ReaderState) (lines : ℕ) (front piece : List ℕ) → HasRead Stands first r0 front taker r → r.header ≡ r0.header
      → BreaksOff Stands taker r piece new_taker lines → BreaksOff Stands first r0 (front ++ piece) new_taker lines
  break-off first taker new_taker r0 r lines front piece so same breaks =
      let more = breaks.front in
      record {
        front = front ++ more;
        begins = (breaks.begins.0, append_assoc front more breaks.begins.0 ∙ ap (λ (l : List ℕ). front ++ l) breaks.begins.1);
        lines_are = λ p at. ap (λ (q : JournalProgress). q.lines) (behind r0.header r p front more same) ∙ breaks.lines_are (after_bytes r0.header p front) (so p at);
        stands = λ p at.
            subst (λ (q : JournalProgress). Stands new_taker q.service q.messages) (sym (behind r0.header r p front more same)) (breaks.stands (after_bytes r0.header p front) (so p at));
      }

  -- or none for anything
  pub break-first : (taker : T) (r : ReaderState) → BreaksOff Stands taker r [] taker r.lines
  break-first taker r = record {
    front = [];
    begins = ([], refl);
    lines_are = λ p at. ap (λ (q : JournalProgress). q.lines) at.reads;
    stands = λ p at. at.stands;
  }

-- ---- an input, piece by piece

-- so many bytes were taken of an input, which are these, and the follower has read them
pub record IsSoFar (o : Option TimetableState) (old now : FollowerState (List Message)) (left left_now : Option (List ℕ)) (taken : ℕ) (bytes : List ℕ) : Type 0 where
  pub source : Consumes left left_now bytes
  pub count : length bytes ≡ taken
  pub read : HasRead (StandsAs o) old.board old.reader bytes now.board now.reader
  pub header : now.reader.header ≡ old.reader.header
  pub not_refused : now.reader.refusal ≡ None

-- nothing was taken yet
pub so-far-none : (o : Option TimetableState) (old : FollowerState (List Message)) (left : Option (List ℕ)) → old.reader.refusal ≡ None → IsSoFar o old old left left 0 []
so-far-none o old left none = record {
  source = consumes_none left;
  count = refl;
  read = λ p at. at;
  header = refl;
  not_refused = none;
}

-- one more piece
pub so-far-more : {o : Option TimetableState} {old now : FollowerState (List Message)} {left mid : Option (List ℕ)} {taken : ℕ} {bytes : List ℕ} (new : FollowerState (List Message))
    (left_now : Option (List ℕ)) (n : ℕ) (piece : List ℕ) → IsSoFar o old now left mid taken bytes → Consumes mid left_now piece → length piece ≡ n
    → HasRead (StandsAs o) now.board now.reader piece new.board new.reader → new.reader.header ≡ now.reader.header → new.reader.refusal ≡ None
    → IsSoFar o old new left left_now (taken + n) (bytes ++ piece)
so-far-more {o = o} {old = old} {now = now} {left = left} {mid = mid} {bytes = bytes} new left_now n piece so next count read header none = record {
  source = consumes_more left mid left_now bytes piece so.source next;
  count = omega (arith, length-append bytes piece, so.count, count);
  read = read-on (StandsAs o) old.board now.board new.board old.reader now.reader new.reader bytes piece so.read so.header read;
  header = header ∙ so.header;
  not_refused = none;
}

-- no more lines were taken than bytes
pub few-lines : {o : Option TimetableState} {old now : FollowerState (List Message)} {left left_now : Option (List ℕ)} {taken : ℕ} {bytes : List ℕ} (budget : ℕ) → IsReady o old
    → old.reader.refusal ≡ None → IsSoFar o old now left left_now taken bytes → taken < budget → old.reader.lines + budget ≤ 2 ^ 63 → now.reader.lines < 2 ^ 63
few-lines {old = old} {now = now} {bytes = bytes} budget ready none so within few =
    let h = ready none in
    let p : JournalProgress = progress old.reader h.service.0 old.board.posted in
    let at = so.read p (record { reads = refl; stands = (refl, h.service.1) }) in
    let lines : (after_bytes old.reader.header p bytes).lines ≡ now.reader.lines = ap (λ (q : JournalProgress). q.lines) at.reads in
    omega (arith, lines, bytes-lines old.reader.header p bytes, so.count, within, few)
