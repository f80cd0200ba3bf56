-- The status of a run, by how it ended.
use Rattle.std.proofs.Common.{◌≡◌, ◌≢◌, ◌∙◌, refl, sym, ◌≤◌, ℕ, List, length, Option, Some, None, Result, Ok, Err, ap, subst, inl, inr, ◌⊎◌, arith}
use Rattle.std.proofs.lemmas.List.{length-append}
use Rattle.std.proofs.lemmas.Option.{none-some, same_Some}
use Rattle.std.specs.Io.KnownBytes.{Consumes, IsAtEnd}
use Rattle.information_service.specs.Causes.{TookFewer}
use Rattle.information_service.specs.declared.fault.LinesFault.TheVariants as lines
use Rattle.information_service.proofs.Ends.{all_taken}
use Rattle.information_service.proofs.Fronts.{taken_if}
use Rattle.commands.specs.Contract.{EndsAs, MeetsContract}
use Rattle.commands.specs.Failing.{NothingFails, Tells}
use Rattle.commands.specs.Promises.{IsRefusedWith, KeepsPromises, status_ends}
use Rattle.commands.specs.Runs.{Begins}
use Rattle.commands.specs.Seen.{FeedSeen, StreamSeen}
use Rattle.commands.specs.Statuses.{error_line, run_line, run_status}
use Rattle.commands.specs.Tasks.{Task}
use Rattle.commands.specs.declared.status.Status.{Status}
use Rattle.commands.specs.declared.status.Status.TheVariants as statuses
use Rattle.commands.specs.declared.status.Stop.{Stop}
use Rattle.commands.specs.declared.status.Stop.TheVariants.{Usage, Refused, Fault}
use Rattle.commands.proofs.Failing.{no-read, no-write}
use Rattle.commands.proofs.Tables.{begun-not-refused}

-- ---- from a result to a status

-- the result of a run with this status, where the status tells it
result-of : Status → Option (Result (Unit {0}) Stop)
result-of statuses.Ok = Some (Ok tt)
result-of statuses.Usage = Some (Err Usage)
result-of statuses.FeedRefused = None
result-of statuses.ReadFault = Some (Err (Fault lines.ReadFault))
result-of statuses.WriteFault = Some (Err (Fault lines.WriteFault))
result-of statuses.OutOfMemory = Some (Err (Fault lines.OutOfMemory))
result-of statuses.TooLong = Some (Err (Fault lines.TooLong))

told-result : (run : Result (Unit {0}) Stop) → (result-of (run_status run) ≡ Some run) ⊎ (run_status run ≡ statuses.FeedRefused)
unfolding result-of
told-result (Ok u) = inl refl
told-result (Err Usage) = inl refl
told-result (Err (Refused line)) = inr refl
told-result (Err (Fault lines.ReadFault)) = inl refl
told-result (Err (Fault lines.WriteFault)) = inl refl
told-result (Err (Fault lines.OutOfMemory)) = inl refl
told-result (Err (Fault lines.TooLong)) = inl refl

-- a run whose status tells a result has that result
had-result : (run : Result (Unit {0}) Stop) (s : Status) (u : Result (Unit {0}) Stop) → result-of s ≡ Some u → run_status run ≡ s → run ≡ u
unfolding result-of
had-result run s u told is = elim (told-result run) [
  | inl had ↦ same_Some run u (sym had ∙ ap result-of is ∙ told)
  | inr refused ↦ absurd (none-some u (ap result-of (sym refused ∙ is) ∙ told))
]

pub ended-well : (run : Result (Unit {0}) Stop) → run_status run ≡ statuses.Ok → run ≡ Ok tt
unfolding result-of
ended-well run is = had-result run statuses.Ok (Ok tt) refl is

pub had-usage : (run : Result (Unit {0}) Stop) → run_status run ≡ statuses.Usage → run ≡ Err Usage
unfolding result-of
had-usage run is = had-result run statuses.Usage (Err Usage) refl is

pub read-failed : (run : Result (Unit {0}) Stop) → run_status run ≡ statuses.ReadFault → run ≡ Err (Fault lines.ReadFault)
unfolding result-of
read-failed run is = had-result run statuses.ReadFault (Err (Fault lines.ReadFault)) refl is

pub write-failed : (run : Result (Unit {0}) Stop) → run_status run ≡ statuses.WriteFault → run ≡ Err (Fault lines.WriteFault)
unfolding result-of
write-failed run is = had-result run statuses.WriteFault (Err (Fault lines.WriteFault)) refl is

pub wanted-memory : (run : Result (Unit {0}) Stop) → run_status run ≡ statuses.OutOfMemory → run ≡ Err (Fault lines.OutOfMemory)
unfolding result-of
wanted-memory run is = had-result run statuses.OutOfMemory (Err (Fault lines.OutOfMemory)) refl is

pub was-long : (run : Result (Unit {0}) Stop) → run_status run ≡ statuses.TooLong → run ≡ Err (Fault lines.TooLong)
unfolding result-of
was-long run is = had-result run statuses.TooLong (Err (Fault lines.TooLong)) refl is

-- it is refused with a line where its status says so, and it is told that line
pub was-refused : (run : Result (Unit {0}) Stop) (line : List ℕ) → (run_status run ≡ statuses.FeedRefused) × (line ≡ run_line run) → IsRefusedWith line run
was-refused (Ok u) line is = let h = is.0 in absurd cc
was-refused (Err Usage) line is = let h = is.0 in absurd cc
was-refused (Err (Refused told)) line is = is.1
was-refused (Err (Fault lines.ReadFault)) line is = let h = is.0 in absurd cc
was-refused (Err (Fault lines.WriteFault)) line is = let h = is.0 in absurd cc
was-refused (Err (Fault lines.OutOfMemory)) line is = let h = is.0 in absurd cc
was-refused (Err (Fault lines.TooLong)) line is = let h = is.0 in absurd cc

pub is-refused : (run : Result (Unit {0}) Stop) (line : List ℕ) → IsRefusedWith line run → (run_status run ≡ statuses.FeedRefused) × (line ≡ run_line run)
is-refused (Ok u) line is = absurd is
is-refused (Err Usage) line is = absurd is
is-refused (Err (Refused told)) line is = (refl, is)
is-refused (Err (Fault f)) line is = absurd is

-- and else it is told the line of its status
pub told-line : (run : Result (Unit {0}) Stop) → run_status run ≢ statuses.FeedRefused → run_line run ≡ error_line (run_status run)
told-line (Ok u) other = refl
told-line (Err Usage) other = refl
told-line (Err (Refused line)) other = absurd (other refl)
told-line (Err (Fault f)) other = refl

-- ---- a run that nothing hinders

-- an input that is at its end, and of which fewer bytes were taken than may be, has fewer
pub not-full : (budget : ℕ) (left now : Option (List ℕ)) (bytes : List ℕ) → left ≡ Some bytes → budget ≤ length bytes → IsAtEnd now → TookFewer budget left now → ⊥
not-full budget left now bytes told full end took = absurd (omega (arith, full, took.2, ap length (all_taken left now bytes took.0 took.1 end told)))

-- no more bytes are taken than were left
pub few-taken : (left now : Option (List ℕ)) (bytes all : List ℕ) → Consumes left now bytes → left ≡ Some all → length bytes ≤ length all
few-taken None now bytes all source is = absurd (none-some all is)
few-taken (Some xs) None bytes all source is = absurd source
few-taken (Some xs) (Some ys) bytes all source is = omega (arith, ap length (same_Some xs all is), ap length source, length-append bytes ys)

module _ {B F S K : Type 0} {task : Task B} {budget : ℕ}
    {words : List (List ℕ)} {feed : FeedSeen} {input out : StreamSeen} {feed_old feed_new : F} {input_old input_new : S} {out_old out_new : K} where
  -- a run that has something to begin with, and in which nothing fails, goes well, or there is no
  -- memory, or the input is too long
  unhindered : {start : B} (run : Result (Unit {0}) Stop) → EndsAs task budget words feed input out feed_old feed_new input_old input_new out_old out_new run
      → Begins task words feed.tables start → NothingFails task budget words feed input out
      → (run ≡ Ok tt) ⊎ (run ≡ Err (Fault lines.OutOfMemory)) ⊎ (run ≡ Err (Fault lines.TooLong))
  unhindered (Ok u) p begins none = inl refl
  unhindered (Err Usage) p begins none = absurd (none-some begins.loads.asked (sym (p.usage refl) ∙ begins.loads.asked_is))
  unhindered (Err (Refused told)) p begins none = let says = p.refused told.items refl in absurd (begun-not-refused begins says.why (says.is begins.loads.told begins.loads.told_is))
  unhindered (Err (Fault lines.ReadFault)) p begins none = absurd (no-read task none (p.read_fault refl))
  unhindered (Err (Fault lines.WriteFault)) p begins none = absurd (no-write task p.at_most p.front begins none refl (p.write_fault refl))
  unhindered (Err (Fault lines.OutOfMemory)) p begins none = inr (inl refl)
  unhindered (Err (Fault lines.TooLong)) p begins none = inr (inr refl)

  -- what holds of a run with a result holds of one with its status
  status-promises : (run : Result (Unit {0}) Stop) → EndsAs task budget words feed input out feed_old feed_new input_old input_new out_old out_new run
      → KeepsPromises (status_ends (run_status run) (run_line run)) task budget words feed input out feed_old feed_new input_old input_new out_old out_new
  status-promises run p = record {
    usage = λ is. p.usage (had-usage run is);
    usage_exactly = λ no. elim (p.usage_exactly no) [ inl is ↦ inl (ap run_status is) | inr is ↦ inr (ap run_status is) ];
    usage_untouched = p.usage_untouched;
    refused = λ line is. p.refused line (was-refused run line is);
    refused_exactly = λ why r. elim (p.refused_exactly why r) [
      | inl is ↦ inl (is-refused run _ is)
      | inr other ↦ elim other [ inl is ↦ inr (inl (ap run_status is)) | inr read ↦ inr (inr (ap run_status read.0, read.1)) ]
    ];
    untouched = λ line is. p.untouched line (was-refused run line is);
    refused_untouched = p.refused_untouched;
    at_most = p.at_most;
    fewer = λ is. p.fewer (ended-well run is);
    ok = λ is. p.ok (ended-well run is);
    ended = λ is. p.ended (ended-well run is);
    stopped = λ is. p.stopped (elim is [ inl read ↦ inl (read-failed run read) | inr long ↦ inr (was-long run long) ]);
    front = λ start begins. taken_if (write-failed run) (p.front start begins);
    read_fault = λ is. p.read_fault (read-failed run is);
    write_fault = λ is. p.write_fault (write-failed run is);
    no_fault = λ not_read not_written. p.no_fault (λ is. not_read (ap run_status is)) (λ is. not_written (ap run_status is));
    too_long = λ is. p.too_long (was-long run is);
  }

  -- a run whose end is told meets the contract of its command
  pub contract-met : {err : StreamSeen} (run : Result (Unit {0}) Stop) (s : Status)
      → EndsAs task budget words feed input out feed_old feed_new input_old input_new out_old out_new run → s ≡ run_status run → Tells err (run_line run)
      → MeetsContract task budget words feed input out err feed_old feed_new input_old input_new out_old out_new s
  contract-met {err = err} run s p status told = subst (MeetsContract task budget words feed input out err feed_old feed_new input_old input_new out_old out_new) (sym status) (record {
    line = run_line run;
    told = told;
    error_line = told-line run;
    promises = status-promises run p;
    too_long_exactly = λ fills none. elim (unhindered run p fills.begins none) [
      | inl well ↦ absurd (not-full budget input.bytes input.bytes_after fills.bytes fills.told fills.count (p.ended well) (p.fewer well))
      | inr other ↦ elim other [ inl memory ↦ inr (ap run_status memory) | inr long ↦ inl (ap run_status long) ]
    ];
    complete = λ can none. elim (unhindered run p can.begins none) [
      | inl well ↦ inl (ap run_status well)
      | inr other ↦ elim other [
        | inl memory ↦ inr (ap run_status memory)
        | inr long ↦ (let took = p.too_long long in absurd (omega (arith, few-taken input.bytes input.bytes_after took.0 can.bytes took.1 can.told, took.2, can.count)))
      ]
    ];
  })
