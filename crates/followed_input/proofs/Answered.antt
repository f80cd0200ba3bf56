-- What is answered of a journal that is followed from its beginning.
use Rattle.std.proofs.Common.{◌≡◌, ◌<◌, ℕ, List, [], length, nat_eq, Option, Some, None, Result, Ok, Err}
use Rattle.std.proofs.Common.{refl, sym, ◌∙◌, ap, subst, arith, inl, inr}
use Rattle.std.proofs.lemmas.Bool.{cases_Bool}
use Rattle.std.proofs.lemmas.Bool.Decides.{nat_tests}
use Rattle.std.proofs.lemmas.Option.{same_Some}
use Rattle.delay_model.specs.declared.messages.Message.{Message}
use Rattle.information_service.specs.Fronts.{EndWasRead}
use Rattle.information_service.specs.ServiceState.{ServiceState}
use Rattle.information_service.specs.Taking.{service_with}
use Rattle.journal_follower.specs.Boards.{StandsAs}
use Rattle.journal_follower.specs.Following.{FollowerState, new_reader}
use Rattle.journal_replay.specs.Reading.{JournalProgress, after_bytes, nothing_read}
use Rattle.journal_replay.specs.ReaderStates.{HasRead, IsAt, ReaderState}
use Rattle.journal_replay.specs.Replayed.{refusal_at_end, refused_by, replay_of}
use Rattle.journal_replay.specs.declared.refusal.JournalRefusal.{JournalRefusal}
use Rattle.query_crew.specs.Posted.{timetable_after}
use Rattle.schedule_build.specs.Directory.{Names}
use Rattle.schedule_build.specs.InStep.{AreInStep}
use Rattle.mt_io.proofs.Gives.{consumes_none}
use Rattle.mt_io.specs.Causes.{Faults}
use Rattle.std.specs.Result.{IsErrAnd}
use Rattle.timetable.specs.TimetableState.{TimetableState}
use Rattle.followed_input.proofs.Endings.{handed-on}
use Rattle.followed_input.specs.Faults.{reads_failed}
use Rattle.followed_input.specs.declared.fault.FollowFault.{FollowFault}
use Rattle.followed_input.specs.declared.fault.FollowFault.TheVariants.{Refused, ReadFault, OutOfMemory, TooLong}
use Rattle.followed_input.specs.Followed.{HasEnded, IsAnswered, IsFollowed}
use Rattle.followed_input.specs.FollowedJournals.{IsAnsweredSoFar, IsJournalFollowed, IsRefusedSoFar, IsTimetableAt}

-- ---- where a journal is read so far

-- where a line was taken and nothing is refused, nothing is at the end
some-line : (lines : ℕ) → 0 < lines → refused_by lines None ≡ None
some-line lines some = elim (cases_Bool (nat_eq lines 0)) [
  | inl is ↦ (let none : lines ≡ 0 = grind (arith, nat_tests) in absurd (omega (arith, some, none)))
  | inr not ↦ rw not refl
]

-- a reader that stands there tells why the journal is refused, and how many lines it took
module _ {o : Option TimetableState} {now : FollowerState (List Message)} {p : JournalProgress} (at : IsAt (StandsAs o) now.board now.reader p) where
  refusal-is : p.refusal ≡ now.reader.refusal
  refusal-is = ap (λ (q : JournalProgress). q.refusal) at.reads

  lines-are : p.lines ≡ now.reader.lines
  lines-are = ap (λ (q : JournalProgress). q.lines) at.reads

  at-end-is : refusal_at_end p ≡ refused_by now.reader.lines now.reader.refusal
  at-end-is = ap (λ (n : ℕ). refused_by n p.refusal) lines-are ∙ ap (refused_by now.reader.lines) refusal-is

  -- and who took its messages has the timetable there
  timetable-is : (t : TimetableState) (names : Names) → timetable_after o now.board.posted ≡ Some t → names ≡ now.board.names → IsTimetableAt p.service t names
  timetable-is t names after named =
      let stands = at.stands.1 in
      let same : t ≡ stands.timetable = same_Some t stands.timetable (sym after ∙ stands.after) in
      record {
        network = ap (λ (u : TimetableState). u.network) same ∙ ap (λ (s : ServiceState). s.network) (sym stands.is);
        state = ap (λ (u : TimetableState). u.state) same ∙ ap (λ (s : ServiceState). s.state) (sym stands.is);
        names_are = named ∙ ap (λ (s : ServiceState). s.names) (sym stands.is);
      }

  -- ---- what is answered there

  module _ (budget : ℕ) (left_now : Option (List ℕ)) (bytes : List ℕ) where
    end-is : HasEnded budget (length bytes) left_now now.reader → EndWasRead budget left_now bytes
    end-is h = record { left = h.end; fewer = h.fewer }

    -- the timetable
    pub well-answered : IsAnswered budget (length bytes) left_now now.reader (Ok tt) → (t : TimetableState) (names : Names)
        → timetable_after o now.board.posted ≡ Some t → names ≡ now.board.names → IsAnsweredSoFar budget left_now bytes p (Ok (t, names))
    well-answered h t names after named = (
      end-is h.0,
      at-end-is ∙ ap (refused_by now.reader.lines) h.0.not_refused ∙ some-line now.reader.lines h.1,
      timetable-is t names after named,
    )

    -- a refusal
    refused-so : (why : JournalRefusal) → IsAnswered budget (length bytes) left_now now.reader (Err (Refused why)) → IsRefusedSoFar budget left_now bytes p why
    refused-so why h = elim h.1 [
      | inl line ↦ inl (refusal-is ∙ line)
      | inr none ↦ inr (
        end-is none.ended,
        at-end-is ∙ ap (refused_by now.reader.lines) none.ended.not_refused ∙ ap (λ (n : ℕ). refused_by n None) none.no_line ∙ ap Some (sym none.header),
      )
    ]

    -- or another fault
    pub badly-answered : (f : FollowFault) → IsAnswered budget (length bytes) left_now now.reader (Err f) → IsAnsweredSoFar budget left_now bytes p (Err f)
    badly-answered (Refused why) h = (h.0, refused-so why h)
    badly-answered ReadFault h = (refusal-is ∙ h.0, h.1)
    badly-answered OutOfMemory h = tt
    badly-answered TooLong h = (refusal-is ∙ h.0, h.1)

-- ---- a follower that has read nothing

-- how a follower begins
pub record Begins (o : Option TimetableState) (t : TimetableState) (names : Names) (header : List ℕ) (begun : FollowerState (List Message)) : Type 0 where
  pub reader : begun.reader ≡ new_reader header
  pub board : begun.board ≡ record { posted = []; names = names }
  pub opens : o ≡ Some t
  pub in_step : AreInStep names t.state

module _ {o : Option TimetableState} {t : TimetableState} {names : Names} {header : List ℕ} {begun : FollowerState (List Message)} (begins : Begins o t names header begun) where
  -- it stands before all messages
  at-first : IsAt (StandsAs o) begun.board begun.reader (nothing_read (service_with t 0 names))
  at-first =
      let opened : timetable_after o [] ≡ Some t = rw begins.opens refl in
      record {
        reads = rw begins.reader refl;
        stands = rw begins.board (refl, record { timetable = t; after = opened; is = refl; in_step = begins.in_step });
      }

  -- and behind bytes that it has read, where its journal is read so far
  at-last : (bytes : List ℕ) {now : FollowerState (List Message)} → HasRead (StandsAs o) begun.board begun.reader bytes now.board now.reader
      → IsAt (StandsAs o) now.board now.reader (replay_of header (service_with t 0 names) bytes)
  at-last bytes {now = now} read =
      let s = service_with t 0 names in
      subst (λ (h : List ℕ). IsAt (StandsAs o) now.board now.reader (after_bytes h (nothing_read s) bytes)) (ap (λ (r : ReaderState). r.header) begins.reader) (read (nothing_read s) at-first)

  module _ {budget : ℕ} {left left_now : Option (List ℕ)} {bytes : List ℕ} {now : FollowerState (List Message)} where
    -- an input that was followed to its end
    pub journal-whole : (answer : Result (Unit {0}) FollowFault) → answer ≡ Ok tt → IsFollowed o budget begun now left left_now bytes answer → (u : TimetableState) (others : Names)
        → timetable_after o now.board.posted ≡ Some u → others ≡ now.board.names → IsJournalFollowed budget header (service_with t 0 names) left left_now bytes (Ok (u, others))
    journal-whole answer is h u others after named =
        let well : IsFollowed o budget begun now left left_now bytes (Ok tt) = subst (IsFollowed o budget begun now left left_now bytes) is h in
        record {
          taken = well.taken;
          within = well.within;
          answered = well-answered (at-last bytes (well.read (λ bad. absurd (cc)))) budget left_now bytes well.answered u others after named;
        }

    -- or not
    journal-stopped : (f : FollowFault) → IsFollowed o budget begun now left left_now bytes (Err f)
        → IsAnsweredSoFar budget left_now bytes (replay_of header (service_with t 0 names) bytes) (Err f)
    journal-stopped (Refused why) h = badly-answered (at-last bytes (h.read (λ bad. absurd (cc)))) budget left_now bytes (Refused why) h.answered
    journal-stopped ReadFault h = badly-answered (at-last bytes (h.read (λ bad. absurd (cc)))) budget left_now bytes ReadFault h.answered
    journal-stopped OutOfMemory h = tt
    journal-stopped TooLong h = badly-answered (at-last bytes (h.read (λ bad. absurd (cc)))) budget left_now bytes TooLong h.answered

    pub journal-in-part : (answer : Result (Unit {0}) FollowFault) (f : FollowFault) → answer ≡ Err f → IsFollowed o budget begun now left left_now bytes answer
        → IsJournalFollowed budget header (service_with t 0 names) left left_now bytes (Err f)
    journal-in-part answer f is h =
        let part : IsFollowed o budget begun now left left_now bytes (Err f) = subst (IsFollowed o budget begun now left left_now bytes) is h in
        record { taken = part.taken; within = part.within; answered = journal-stopped f part }

-- ---- what is handed on

abbrev pub Whole : Type 0
Whole = Result (TimetableState × Names) FollowFault

-- there was no memory for a follower
pub none-followed : (budget : ℕ) (header : List ℕ) (s : ServiceState) (left : Option (List ℕ)) (run : Whole) → IsErrAnd run (λ e. e ≡ OutOfMemory)
    → IsJournalFollowed budget header s left left [] run
none-followed budget header s left run is =
    subst (IsJournalFollowed budget header s left left []) (sym (handed-on run OutOfMemory is)) (record { taken = consumes_none left; within = omega arith; answered = tt })

-- why an input was not followed to its end is handed on
pub part-followed : {budget : ℕ} {header : List ℕ} {s : ServiceState} {left left_now : Option (List ℕ)} {bytes : List ℕ} (run : Whole) (f : FollowFault)
    → IsErrAnd run (λ e. e ≡ f) → IsJournalFollowed budget header s left left_now bytes (Err f) → IsJournalFollowed budget header s left left_now bytes run
part-followed {budget = budget} {header = header} {s = s} {left = left} {left_now = left_now} {bytes = bytes} run f is part =
    subst (IsJournalFollowed budget header s left left_now bytes) (sym (handed-on run f is)) part

-- and so is how many reads failed
same-reads : (f : FollowFault) (before : Faults) → reads_failed {T = Unit {0}} (Err f) before ≡ reads_failed {T = TimetableState × Names} (Err f) before
same-reads (Refused why) before = refl
same-reads ReadFault before = refl
same-reads OutOfMemory before = refl
same-reads TooLong before = refl

pub reads-handed : (run : Whole) (answer : Result (Unit {0}) FollowFault) (f : FollowFault) (now before : Faults) → IsErrAnd run (λ e. e ≡ f) → answer ≡ Err f
    → Some now ≡ reads_failed answer before → Some now ≡ reads_failed run before
reads-handed run answer f now before is failed reads =
    reads
    ∙ ap (λ (r : Result (Unit {0}) FollowFault). reads_failed r before) failed
    ∙ same-reads f before
    ∙ ap (λ (r : Whole). reads_failed r before) (sym (handed-on run f is))

pub reads-none : (run : Whole) (before : Faults) → IsErrAnd run (λ e. e ≡ OutOfMemory) → Some before ≡ reads_failed run before
reads-none run before is = ap (λ (r : Whole). reads_failed r before) (sym (handed-on run OutOfMemory is))

pub reads-well : (answer : Result (Unit {0}) FollowFault) (now before : Faults) → answer ≡ Ok tt → Some now ≡ reads_failed answer before → Some now ≡ Some before
reads-well answer now before well reads = reads ∙ ap (λ (r : Result (Unit {0}) FollowFault). reads_failed r before) well
