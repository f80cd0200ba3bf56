-- How following an input ends.
use Rattle.std.proofs.Common.{◌≡◌, ◌≢◌, ℕ, ◌+◌, ◌<◌, ◌≤◌, ◌++◌, List, [], length, nat_eq, Option, Some, None, Result, Ok, Err}
use Rattle.std.proofs.Common.{refl, sym, ◌∙◌, ap, subst, arith, inl, inr, append_assoc, length-append}
use Rattle.std.proofs.lemmas.Bool.{cases_Bool}
use Rattle.std.proofs.lemmas.Bool.Decides.{nat_tests}
use Rattle.std.specs.Io.KnownBytes.{Consumes, IsAtEnd, Keeps}
use Rattle.std.specs.Result.{IsErrAnd}
use mathlib.Core.List.{IsPrefix}
use Rattle.delay_model.specs.declared.messages.Message.{Message}
use Rattle.journal_follower.specs.Boards.{StandsAs}
use Rattle.journal_follower.specs.Following.{FollowerState}
use Rattle.journal_replay.specs.ReaderStates.{BreaksOff, HasRead, ReaderState, answer, answer_by}
use Rattle.journal_replay.specs.declared.refusal.JournalRefusal.{JournalRefusal}
use Rattle.journal_replay.specs.declared.refusal.JournalRefusal.TheVariants.{Header, Line}
use Rattle.journal_replay.specs.declared.refusal.JournalRefusal.TheVariants as refusals
use Rattle.mt_io.specs.Causes.{Faults}
use Rattle.mt_io.proofs.Gives.{consumes_more, consumes_none}
use Rattle.timetable.specs.TimetableState.{TimetableState}
use Rattle.followed_input.specs.Faults.{ended, fault_of, reads_failed}
use Rattle.followed_input.specs.Followed.{HasEnded, IsFollowed}
use Rattle.followed_input.specs.declared.fault.FollowFault.{FollowFault}
use Rattle.followed_input.specs.declared.fault.FollowFault.TheVariants.{Refused, ReadFault, OutOfMemory, TooLong}
use Rattle.followed_input.proofs.Reading.{IsSoFar, break-first, break-off, consumes-kept, consumes-nothing, read-on}

-- what was handed on is answered
pub handed-on : {A E : Type 0} (run : Result A E) (e : E) → IsErrAnd run (λ x. x ≡ e) → run ≡ Err e
handed-on (Ok x) e is = absurd is
handed-on (Err x) e is = ap Err is

-- what is posted stays where more is posted
pub prefix-trans : (xs ys zs : List Message) → IsPrefix xs ys → IsPrefix ys zs → IsPrefix xs zs
prefix-trans xs ys zs h k = (h.0 ++ k.0, sym (append_assoc xs h.0 k.0) ∙ ap (λ l. l ++ k.0) h.1 ∙ k.1)

-- it is answered where a `?` handed it on
pub followed-as : {o : Option TimetableState} {budget : ℕ} {old new : FollowerState (List Message)} {left left_now : Option (List ℕ)} {bytes : List ℕ} (run : Result (Unit {0}) FollowFault)
    (e : FollowFault) → IsErrAnd run (λ x. x ≡ e) → IsFollowed o budget old new left left_now bytes (Err e) → IsFollowed o budget old new left left_now bytes run
followed-as {o = o} {budget = budget} {old = old} {new = new} {left = left} {left_now = left_now} {bytes = bytes} run e is h =
    subst (λ (r : Result (Unit {0}) FollowFault). IsFollowed o budget old new left left_now bytes r) (sym (handed-on run e is)) h

-- ---- how many reads failed

-- as many as its fault says
pub reads-as : (run : Result (Unit {0}) FollowFault) (e : FollowFault) (now : Option Faults) (before : Faults) → IsErrAnd run (λ x. x ≡ e) → now ≡ reads_failed {T = Unit {0}} (Err e) before
    → now ≡ reads_failed run before
reads-as run e now before is h = h ∙ ap (λ (r : Result (Unit {0}) FollowFault). reads_failed r before) (sym (handed-on run e is))

-- none where a journal is refused, or there was no memory
pub no-read-failed : (why : JournalRefusal) (before : Faults) → reads_failed {T = Unit {0}} (Err (fault_of why)) before ≡ Some before
no-read-failed Header before = refl
no-read-failed (Line line) before = refl
no-read-failed refusals.OutOfMemory before = refl

-- nor where the input is at its end
pub none-at-end : (lines : ℕ) (before : Faults) → reads_failed (ended lines) before ≡ Some before
none-at-end lines before = elim (cases_Bool (nat_eq lines 0)) [
  | inl is ↦ rw is refl
  | inr not ↦ rw not refl
]

-- ---- what a reader answers

ok-by : (lines n : ℕ) (refusal : Option JournalRefusal) → Ok n ≡ answer_by lines refusal → refusal ≡ None
ok-by lines n None is = refl
ok-by lines n (Some why) is = absurd (cc)

-- it refuses nothing
pub not-refused : (r : ReaderState) (n : ℕ) → Ok n ≡ answer r → r.refusal ≡ None
not-refused r n is = ok-by r.lines n r.refusal is

err-by : (lines : ℕ) (why : JournalRefusal) (refusal : Option JournalRefusal) → Err why ≡ answer_by lines refusal → refusal ≡ Some why
err-by lines why None is = absurd (cc)
err-by lines why (Some other) is = cc

-- or it refuses the journal for this
pub refused-for : (r : ReaderState) (why : JournalRefusal) → Err why ≡ answer r → r.refusal ≡ Some why
refused-for r why is = err-by r.lines why r.refusal is

-- it fails with this
abbrev pub fails : JournalRefusal → Result ℕ JournalRefusal
fails why = Err why

-- ---- how it ends

-- there was no memory for a piece
pub followed-none : (o : Option TimetableState) (budget : ℕ) (old : FollowerState (List Message)) (left : Option (List ℕ)) → IsFollowed o budget old old left left [] (Err OutOfMemory)
followed-none o budget old left = record {
  taken = consumes_none left;
  within = omega arith;
  read = λ other. absurd (other refl);
  memory = λ is. break-first (StandsAs o) old.board old.reader;
  answered = tt;
}

-- all that may be was taken
pub spent : {o : Option TimetableState} {old now : FollowerState (List Message)} {left left_now : Option (List ℕ)} {taken : ℕ} {bytes : List ℕ} (budget : ℕ)
    → IsSoFar o old now left left_now taken bytes → taken ≡ budget → IsFollowed o budget old now left left_now bytes (Err TooLong)
spent budget so all = record {
  taken = so.source;
  within = omega (arith, so.count, all);
  read = λ other. so.read;
  memory = λ is. absurd (cc);
  answered = (so.not_refused, omega (arith, so.count, all));
}

module _ {o : Option TimetableState} {old now : FollowerState (List Message)} {left mid : Option (List ℕ)} {taken : ℕ} {bytes : List ℕ} (budget : ℕ) (left_now : Option (List ℕ))
    (so : IsSoFar o old now left mid taken bytes) where
  -- a read failed
  pub read-failed : Keeps mid left_now → taken < budget → IsFollowed o budget old now left left_now bytes (Err ReadFault)
  read-failed kept fewer = record {
    taken = consumes-kept left mid left_now bytes so.source kept;
    within = omega (arith, so.count, fewer);
    read = λ other. so.read;
    memory = λ is. absurd (cc);
    answered = (so.not_refused, omega (arith, so.count, fewer));
  }

  -- the input is at its end
  pub at-end : (piece : List ℕ) → Consumes mid left_now piece → length piece ≡ 0 → IsAtEnd left_now → taken < budget
      → IsFollowed o budget old now left left_now bytes (ended now.reader.lines)
  at-end piece next none end fewer =
      let has_ended : HasEnded budget (length bytes) left_now now.reader = record { end = end; not_refused = so.not_refused; fewer = omega (arith, so.count, fewer) } in
      let source = consumes-nothing left mid left_now bytes piece so.source next none in
      elim (cases_Bool (nat_eq now.reader.lines 0)) [
        | inl is ↦
            let no_line : now.reader.lines ≡ 0 = grind (arith, nat_tests) in
            rw is (record {
              taken = source;
              within = omega (arith, so.count, fewer);
              read = λ other. so.read;
              memory = λ bad. absurd (cc);
              answered = ((λ bad. absurd (cc)), inr (record { ended = has_ended; no_line = no_line; header = refl }));
            })
        | inr not ↦
            let some : 0 < now.reader.lines = grind (arith, nat_tests) in
            rw not (record {
              taken = source;
              within = omega (arith, so.count, fewer);
              read = λ other. so.read;
              memory = λ bad. absurd (cc);
              answered = (has_ended, some);
            })
      ]

  -- a piece was not read to its end
  module _ (new : FollowerState (List Message)) (piece : List ℕ) (next : Consumes mid left_now piece) (within : taken + length piece ≤ budget) where
    -- it is refused
    refused-by : (why : JournalRefusal) → why ≢ refusals.OutOfMemory → HasRead (StandsAs o) now.board now.reader piece new.board new.reader → new.reader.refusal ≡ Some why
        → IsFollowed o budget old new left left_now (bytes ++ piece) (Err (Refused why))
    refused-by why other read refused = record {
      taken = consumes_more left mid left_now bytes piece so.source next;
      within = omega (arith, length-append bytes piece, so.count, within);
      read = λ _. read-on (StandsAs o) old.board now.board new.board old.reader now.reader new.reader bytes piece so.read so.header read;
      memory = λ bad. absurd (cc);
      answered = (other, inl refused);
    }

    -- or there was no memory for it
    broken-off : BreaksOff (StandsAs o) now.board now.reader piece new.board new.reader.lines → IsFollowed o budget old new left left_now (bytes ++ piece) (Err OutOfMemory)
    broken-off breaks = record {
      taken = consumes_more left mid left_now bytes piece so.source next;
      within = omega (arith, length-append bytes piece, so.count, within);
      read = λ other. absurd (other refl);
      memory = λ is. break-off (StandsAs o) old.board now.board new.board old.reader now.reader new.reader.lines bytes piece so.read so.header breaks;
      answered = tt;
    }

    pub fed-in-part : (why : JournalRefusal) → (fails why ≢ Err refusals.OutOfMemory → HasRead (StandsAs o) now.board now.reader piece new.board new.reader)
        → (fails why ≡ Err refusals.OutOfMemory → now.reader.refusal ≡ None → BreaksOff (StandsAs o) now.board now.reader piece new.board new.reader.lines)
        → Err why ≡ answer new.reader → IsFollowed o budget old new left left_now (bytes ++ piece) (Err (fault_of why))
    fed-in-part Header read memory is = refused-by Header (λ bad. absurd (cc)) (read (λ bad. absurd (cc))) (refused-for new.reader Header is)
    fed-in-part (Line line) read memory is = refused-by (Line line) (λ bad. absurd (cc)) (read (λ bad. absurd (cc))) (refused-for new.reader (Line line) is)
    fed-in-part refusals.OutOfMemory read memory is = broken-off (memory refl so.not_refused)
