-- A follower that reads bytes of its journal.
use Rattle.std.proofs.Common.{◌≡◌, ◌≢◌, ℕ, ◌<◌, ◌^◌, [], List, length, Option, Some, None, Result, Ok, Err, refl, sym, ◌∙◌, ap, arith, append-nil}
use mathlib.Core.List.{IsPrefix}
use Rattle.delay_model.specs.declared.messages.Message.{Message}
use Rattle.journal_replay.specs.Reading.{JournalProgress, after_bytes}
use Rattle.journal_replay.specs.ReaderStates.{BreaksOff, HasRead, IsAt, ReaderState, answer, progress}
use Rattle.journal_replay.specs.Taking.{IsReadyFor}
use Rattle.journal_replay.specs.declared.refusal.JournalRefusal.{JournalRefusal}
use Rattle.journal_replay.specs.declared.refusal.JournalRefusal.TheVariants.{Header, Line, OutOfMemory}
use Rattle.query_crew.specs.Posted.{timetable_after}
use Rattle.query_crew.specs.Posting.{HasService}
use Rattle.schedule_build.specs.Directory.{Names}
use Rattle.schedule_build.specs.InStep.{AreInStep}
use Rattle.timetable.specs.TimetableState.{TimetableState}
use Rattle.journal_follower.specs.Boards.{BoardState, StandsAs}
use Rattle.journal_follower.specs.Following.{FollowerState, IsReady, Stands}
use Rattle.journal_follower.proofs.LaterLines.{later-bytes}
use Rattle.journal_follower.proofs.TakenWires.{posted-count}

-- a board that was opened just now stands as a service
pub opened : (o : Option TimetableState) (t : TimetableState) (posted : List Message) (names : Names) → o ≡ Some t → posted ≡ [] → AreInStep names t.state → HasService o posted names
opened o t posted names opens none in_step =
    let first : timetable_after o posted ≡ Some t = rw (opens, none) refl in
    (_, record { timetable = t; after = first; is = refl; in_step = in_step })

-- there is room for as many messages as there are bytes
pub can-read : {o : Option TimetableState} {f : FollowerState (List Message)} {bytes : ℕ} → IsReady o f → f.reader.lines < 2 ^ 63 → bytes < 2 ^ 63
    → f.reader.refusal ≡ None → IsReadyFor (StandsAs o) f.board bytes
can-read {f = f} ready lines few none =
    let h = ready none in
    let at = h.service.1 in
    record { service = h.service.0; before = f.board.posted; stands = (refl, at); room = omega (arith, h.few, posted-count at) }

-- where a follower stands, its journal is read so far
is-at : {o : Option TimetableState} (f : FollowerState (List Message)) (h : Stands o f) → IsAt (StandsAs o) f.board f.reader (progress f.reader h.service.0 f.board.posted)
is-at f h = record { reads = refl; stands = (refl, h.service.1) }

-- behind bytes that were read it stands
pub stands-behind : {o : Option TimetableState} {old new : FollowerState (List Message)} (bytes : List ℕ) → Stands o old
    → HasRead (StandsAs o) old.board old.reader bytes new.board new.reader → Stands o new
stands-behind {old = old} {new = new} bytes h read =
    let p : JournalProgress = progress old.reader h.service.0 old.board.posted in
    let q : JournalProgress = after_bytes old.reader.header p bytes in
    let at = read p (is-at old h) in
    let lines : q.lines ≡ new.reader.lines = ap (λ (r : JournalProgress). r.lines) at.reads in
    record {
      service = (q.service, at.stands.1);
      few = omega (arith, (later-bytes old.reader.header p bytes).few h.few, lines, ap length at.stands.0);
    }

-- no message is taken back where bytes were read
later-by-read : {o : Option TimetableState} {old new : FollowerState (List Message)} (bytes : List ℕ) → Stands o old
    → HasRead (StandsAs o) old.board old.reader bytes new.board new.reader → IsPrefix old.board.posted new.board.posted
later-by-read {old = old} bytes h read =
    let p : JournalProgress = progress old.reader h.service.0 old.board.posted in
    let later = (later-bytes old.reader.header p bytes).begins in
    (later.0, later.1 ∙ sym (read p (is-at old h)).stands.0)

-- nor where there was no memory
later-by-break : {o : Option TimetableState} {old : FollowerState (List Message)} (board : BoardState (List Message)) (bytes : List ℕ) (lines : ℕ) → Stands o old
    → BreaksOff (StandsAs o) old.board old.reader bytes board lines → IsPrefix old.board.posted board.posted
later-by-break {old = old} board bytes lines h breaks =
    let p : JournalProgress = progress old.reader h.service.0 old.board.posted in
    let later = (later-bytes old.reader.header p breaks.front).begins in
    (later.0, later.1 ∙ sym (breaks.stands p (is-at old h)).0)

-- what `feed` of the reader says of a follower before and after it
pub record IsFed (o : Option TimetableState) (old new : FollowerState (List Message)) (bytes : List ℕ) (result : Result ℕ JournalRefusal) : Type 0 where
  pub ready : IsReady o old
  pub read : result ≢ Err OutOfMemory → HasRead (StandsAs o) old.board old.reader bytes new.board new.reader
  pub memory : result ≡ Err OutOfMemory → old.reader.refusal ≡ None → BreaksOff (StandsAs o) old.board old.reader bytes new.board new.reader.lines
  pub refused : (why : JournalRefusal) → old.reader.refusal ≡ Some why → (result ≡ Err why) × (new.reader ≡ old.reader) × (new.board ≡ old.board)
  pub answers : result ≡ answer new.reader

later-from : {o : Option TimetableState} {old new : FollowerState (List Message)} {bytes : List ℕ} (result is : Result ℕ JournalRefusal) → IsFed o old new bytes result → Stands o old
    → old.reader.refusal ≡ None → result ≡ is → IsPrefix old.board.posted new.board.posted
later-from {bytes = bytes} result (Ok n) h s none e = later-by-read bytes s (h.read (λ (bad : result ≡ Err OutOfMemory). cc))
later-from {bytes = bytes} result (Err Header) h s none e = later-by-read bytes s (h.read (λ (bad : result ≡ Err OutOfMemory). cc))
later-from {bytes = bytes} result (Err (Line n)) h s none e = later-by-read bytes s (h.read (λ (bad : result ≡ Err OutOfMemory). cc))
later-from {new = new} {bytes = bytes} result (Err OutOfMemory) h s none e = later-by-break new.board bytes _ s (h.memory e none)

later-by : {o : Option TimetableState} {old new : FollowerState (List Message)} {bytes : List ℕ} {result : Result ℕ JournalRefusal} (refusal : Option JournalRefusal)
    → IsFed o old new bytes result → old.reader.refusal ≡ refusal → IsPrefix old.board.posted new.board.posted
later-by {result = result} None h none = later-from result result h (h.ready none) none refl
later-by {old = old} (Some why) h some = ([], append-nil old.board.posted ∙ ap (λ (b : BoardState (List Message)). b.posted) (sym (h.refused why some).2))

-- what was posted stays
pub stays-posted : {o : Option TimetableState} {old new : FollowerState (List Message)} {bytes : List ℕ} {result : Result ℕ JournalRefusal} → IsFed o old new bytes result
    → IsPrefix old.board.posted new.board.posted
stays-posted {old = old} h = later-by old.reader.refusal h refl

ready-by : {o : Option TimetableState} {old new : FollowerState (List Message)} {bytes : List ℕ} {result : Result ℕ JournalRefusal} (refusal : Option JournalRefusal)
    → IsFed o old new bytes result → old.reader.refusal ≡ refusal → new.reader.refusal ≡ None → Stands o new
ready-by {new = new} {bytes = bytes} {result = result} None h none goes_on =
    let answered : result ≡ answer new.reader = h.answers in
    let well = rw goes_on at answered in
    stands-behind bytes (h.ready none) (h.read (λ (bad : result ≡ Err OutOfMemory). cc))
ready-by {new = new} (Some why) h some goes_on =
    let same : new.reader.refusal ≡ Some why = ap (λ (r : ReaderState). r.refusal) (h.refused why some).1 ∙ some in
    absurd (cc)

-- it is ready for more
pub stays-ready : {o : Option TimetableState} {old new : FollowerState (List Message)} {bytes : List ℕ} {result : Result ℕ JournalRefusal} → IsFed o old new bytes result → IsReady o new
stays-ready {old = old} h = λ goes_on. ready-by old.reader.refusal h refl goes_on
