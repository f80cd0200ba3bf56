-- How a run of `gen` ends.
use Rattle.std.proofs.Common.{◌++◌, ◌≡◌, ◌⊎◌, ◌∙◌, ◌<◌, ℕ, List, Option, Some, Result, Ok, Err, ap, arith, refl, sym, subst, inl, inr, length}
use Rattle.std.proofs.lemmas.Option.{none-some}
use Rattle.std.specs.Result.{IfErr, IsErrAnd}
use Rattle.command_words.specs.declared.gen_words.AskedGen.{AskedGen}
use Rattle.command_words.specs.GenWords.{gen_asked_of}
use Rattle.gtfs_tables.specs.declared.refusals.FeedError.{FeedError}
use Rattle.gtfs_tables.specs.declared.refusals.FeedError.TheVariants as feeds
use Rattle.gtfs_tables.specs.declared.refusals.FeedRefusal.{FeedRefusal}
use Rattle.gtfs_tables.specs.Refusals.{IsErrorOf}
use Rattle.std.proofs.lemmas.List.{length-append}
use Rattle.information_service.specs.Causes.{HasCounts}
use Rattle.information_service.specs.Fronts.{AppendsFront}
use Rattle.information_service.specs.declared.fault.LinesFault.{LinesFault}
use Rattle.information_service.specs.declared.fault.LinesFault.TheVariants as lines
use Rattle.information_service.proofs.Fronts.{front_if, front_part}
use Rattle.mt_io.specs.Causes.{AppendsPart, Rose, counted, no_faults}
use Rattle.commands.specs.Failing.{Tells, WritesCannotFail}
use Rattle.commands.specs.GenContract.{GenEndsAs, GenWriteFailed, KeepsGenPromises, MeetsGenContract}
use Rattle.commands.specs.Promises.{status_ends}
use Rattle.commands.specs.Seen.{StreamSeen}
use Rattle.commands.specs.Statuses.{error_line, run_line, run_status}
use Rattle.commands.specs.Summaries.{IsOnlySummary, WritesSummary}
use Rattle.commands.specs.declared.status.Status.{Status}
use Rattle.commands.specs.declared.status.Status.TheVariants as statuses
use Rattle.commands.specs.declared.status.Stop.{Stop}
use Rattle.commands.specs.declared.status.Stop.TheVariants.{Usage, Refused, Fault}
use Rattle.commands.proofs.Endings.{is-err}
use Rattle.commands.proofs.Failing.{full-by, more-of, never-counted, rose, same-room, told-after}
use Rattle.commands.proofs.Statuses.{ended-well, few-taken, had-usage, read-failed, told-line, wanted-memory, was-long, was-refused, write-failed}

-- ---- why there is no summary

-- a timetable that is held is loaded, unless there is no memory
pub only-memory : {T : Type 0} (f : FeedError) (held : Result T FeedRefusal) (t : T)
    → held ≡ Ok t → IsErrorOf f held → (f ≡ feeds.ReadFault → Some no_faults ≡ counted no_faults) → f ≡ feeds.OutOfMemory
only-memory (feeds.Refused why) held t is gives failed = grind (arith, is, gives)
only-memory feeds.ReadFault held t is gives failed = absurd (never-counted no_faults no_faults refl (failed refl))
only-memory feeds.OutOfMemory held t is gives failed = refl

-- lines that are given without a fault, and that are fewer than may be taken, are answered, unless
-- there is no memory
pub only-memory-left : {T : Type 0} (f : LinesFault) (budget : ℕ) (all : List ℕ) (left : Option (List ℕ))
    → length all < budget → HasCounts {T = T} budget (Err f) (Some all) left no_faults no_faults no_faults no_faults ⊥ → Fault f ≡ Fault lines.OutOfMemory
only-memory-left lines.ReadFault budget all left short counts = absurd (never-counted no_faults no_faults refl counts.reads)
only-memory-left lines.WriteFault budget all left short counts = absurd (never-counted no_faults no_faults refl counts.writes)
only-memory-left lines.OutOfMemory budget all left short counts = refl
only-memory-left lines.TooLong budget all left short counts = let took = counts.too_long refl in absurd (omega (arith, few-taken (Some all) left took.0 all took.1 refl, took.2, short))

-- a result that hands on why it stops
pub handed-on : {T : Type 0} (run : Result T Stop) (s u : Stop) → IsErrAnd run (λ e. e ≡ s) → s ≡ u → IfErr run (λ e. e ≡ u)
handed-on (Ok x) s u is same = tt
handed-on (Err e) s u is same = is ∙ same

-- ---- how the run ends

module _ {K : Type 0} (words : List (List ℕ)) (out : StreamSeen) (old new : K) where
  -- a summary that is not written
  pub gen-not-written : (run : Result (Unit {0}) Stop) (asked : AskedGen) (line : List ℕ)
      → gen_asked_of words ≡ Some asked → IsOnlySummary asked.trains line → IsErrAnd run (λ e. e ≡ Fault lines.WriteFault) → GenWriteFailed out
      → AppendsPart out.bytes out.bytes_after line → GenEndsAs words out old new run
  gen-not-written run asked line asked_is only is counts part =
      subst (GenEndsAs words out old new) (is-err run (Fault lines.WriteFault) is)
      (record {
        usage = λ is. absurd cc;
        usage_exactly = λ none. absurd (none-some asked (sym none ∙ asked_is));
        usage_untouched = λ none. absurd (none-some asked (sym none ∙ asked_is));
        ok = λ is. absurd cc;
        memory = λ is. absurd cc;
        front = inr (record { asked = asked; line = line; asked_is = asked_is; is = only; written = front_part out.bytes out.bytes_after line part });
        never = (λ line is. is, λ is. (absurd cc), λ is. (absurd cc));
        write_fault = λ is. counts;
        no_fault = λ not_written. absurd (not_written refl);
      })

-- where nothing fails, no write did
no-gen-write : {K Failed : Type 0} {words : List (List ℕ)} {out : StreamSeen} {old new : K} → ((new ≡ old) × ¬ Failed) ⊎ WritesSummary (AppendsFront Failed) words out.bytes out.bytes_after
    → (¬ (Rose out.faults out.faults_after)) ⊎ WritesCannotFail (WritesSummary (AppendsFront ⊥) words out.bytes) out → Failed → GenWriteFailed out → ⊥
no-gen-write {out = out} front (inl none) is failed = none (rose out.faults.can out.faults.count out.faults_after.count out.faults_after.can failed.0)
no-gen-write {out = out} front (inr (inl never_fails)) is failed = never-counted out.faults out.faults_after never_fails failed.0
no-gen-write (inl none) (inr (inr room)) is failed = none.1 is
no-gen-write {out = out} (inr f) (inr (inr room)) is failed =
    let now = told-after out.bytes out.bytes_after room.held f.written.front room.told f.written.written in
    let more = more-of out.bytes now.0 f.line is (rw now.1 at f.written) in
    let full = full-by room.room out.faults_after now.0 (same-room room.room out.faults out.faults_after room.can failed.0) (rw now.1 at failed.1) in
    absurd (omega (arith, full, more.1, length-append now.0 more.0, room.fits (now.0 ++ more.0) (record { asked = f.asked; line = f.line; asked_is = f.asked_is; is = f.is; written = more.2 })))

module _ {K : Type 0} {words : List (List ℕ)} {out : StreamSeen} {old new : K} where
  -- a run that is asked for a number of trains, and in which no write fails, goes well, or there is
  -- no memory
  gen-unhindered : (run : Result (Unit {0}) Stop) (asked : AskedGen) → GenEndsAs words out old new run
      → gen_asked_of words ≡ Some asked → (¬ (Rose out.faults out.faults_after)) ⊎ WritesCannotFail (WritesSummary (AppendsFront ⊥) words out.bytes) out
      → (run_status run ≡ statuses.Ok) ⊎ (run_status run ≡ statuses.OutOfMemory)
  gen-unhindered (Ok u) asked p is out_well = inl refl
  gen-unhindered (Err Usage) asked p is out_well = absurd (none-some asked (sym (p.usage refl) ∙ is))
  gen-unhindered (Err (Refused line)) asked p is out_well = absurd (p.never.0 line.items refl)
  gen-unhindered (Err (Fault lines.ReadFault)) asked p is out_well = absurd (p.never.1 refl)
  gen-unhindered (Err (Fault lines.WriteFault)) asked p is out_well = absurd (no-gen-write p.front out_well refl (p.write_fault refl))
  gen-unhindered (Err (Fault lines.OutOfMemory)) asked p is out_well = inr refl
  gen-unhindered (Err (Fault lines.TooLong)) asked p is out_well = absurd (p.never.2 refl)

  -- it is never refused
  gen-not-refused : (run : Result (Unit {0}) Stop) → GenEndsAs words out old new run → ¬ (run_status run ≡ statuses.FeedRefused)
  gen-not-refused run p is = p.never.0 (run_line run) (was-refused run (run_line run) (is, refl))

  -- what holds of a run with a result holds of one with its status
  gen-status-promises : (run : Result (Unit {0}) Stop) (line : List ℕ) → GenEndsAs words out old new run → KeepsGenPromises (status_ends (run_status run) line) words out old new
  gen-status-promises run line p = record {
    usage = λ is. p.usage (had-usage run is);
    usage_exactly = λ none. elim (p.usage_exactly none) [ inl is ↦ inl (ap run_status is) | inr is ↦ inr (ap run_status is) ];
    usage_untouched = p.usage_untouched;
    ok = λ is. p.ok (ended-well run is);
    memory = λ is. p.memory (wanted-memory run is);
    front = elim p.front [
      | inl none ↦ inl (none.0, λ is. none.1 (write-failed run is))
      | inr f ↦ inr (record { asked = f.asked; line = f.line; asked_is = f.asked_is; is = f.is; written = front_if (write-failed run) _ _ f.line f.written })
    ];
    never = (λ line is. gen-not-refused run p is.0, λ is. p.never.1 (read-failed run is), λ is. p.never.2 (was-long run is));
    write_fault = λ is. p.write_fault (write-failed run is);
    no_fault = λ not_written. p.no_fault (λ is. not_written (ap run_status is));
  }

  -- a run whose end is told meets the contract of `gen`
  pub gen-contract-met : {err : StreamSeen} (run : Result (Unit {0}) Stop) (s : Status)
      → GenEndsAs words out old new run → s ≡ run_status run → Tells err (run_line run) → MeetsGenContract words out err old new s
  gen-contract-met {err = err} run s p status told = subst (MeetsGenContract words out err old new) (sym status) (record {
    error_line = subst (Tells err) (told-line run (gen-not-refused run p)) told;
    promises = gen-status-promises run (error_line (run_status run)) p;
    complete = λ asked is out_well. gen-unhindered run asked p is out_well;
  })
