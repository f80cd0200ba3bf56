-- What `gen` promises of each run, whatever its outputs do.
use Rattle.std.specs.Prelude.{ℕ, ◌≡◌, ◌⊎◌, List, None, Some, Result}
use Rattle.std.specs.Io.KnownBytes.{Appends}
use Rattle.command_words.specs.GenWords.{gen_asked_of}
use Rattle.command_words.specs.declared.gen_words.AskedGen.{AskedGen}
use Rattle.information_service.specs.Fronts.{AppendsFront}
use Rattle.mt_io.specs.Causes.{IsFull, Rose, counted}
use Rattle.commands.specs.Failing.{Tells, WritesCannotFail}
use Rattle.commands.specs.Promises.{Ends, run_ends, status_ends}
use Rattle.commands.specs.Seen.{StreamSeen}
use Rattle.commands.specs.Statuses.{error_line}
use Rattle.commands.specs.Summaries.{WritesSummary}
use Rattle.commands.specs.declared.status.Status.{Status}
use Rattle.commands.specs.declared.status.Status.TheVariants.{Ok, OutOfMemory}
use Rattle.commands.specs.declared.status.Stop.{Stop}

-- one write of the output failed. An output that can fail only once it is full is full, where it
-- tells its bytes
abbrev pub GenWriteFailed : StreamSeen → Type 0
GenWriteFailed out =
    (Some out.faults_after ≡ counted out.faults) × IsFull out.faults_after out.bytes_after

-- What is promised of a run of `gen` that has ended in one of these ways. The run had these words;
-- it found the output as the first and left it as the second
pub record KeepsGenPromises {K : Type 0} (ends : Ends) (words : List (List ℕ)) (out : StreamSeen)
    (out_old out_new : K) : Type 0 where
  -- ---- words

  -- it ends for words that ask for nothing where they are such words
  pub usage : ends.usage → gen_asked_of words ≡ None
  -- and for all of them, unless there is no memory
  pub usage_exactly : gen_asked_of words ≡ None → ends.usage ⊎ ends.out_of_memory
  -- such words touch nothing
  pub usage_untouched : gen_asked_of words ≡ None → out_new ≡ out_old
  -- ---- the output

  -- all went well: the summary of so many trains is written, of which there is only one
  pub ok : ends.well → WritesSummary Appends words out.bytes out.bytes_after
  -- where there was no memory, nothing was written
  pub memory : ends.out_of_memory → out_new ≡ out_old
  -- however the run ended, what is written is a front of the summary, or nothing was touched; where
  -- a write failed, a front that is not all of it
  pub front : ((out_new ≡ out_old) × ¬ ends.write_fault)
      ⊎ WritesSummary (AppendsFront ends.write_fault) words out.bytes out.bytes_after
  -- ---- faults

  -- its own feed is not refused, its own reads do not fail, and its own lines are not too many
  pub never : ((line : List ℕ) → ¬ (ends.refused line)) × (¬ ends.read_fault) × (¬ ends.too_long)
  -- a write fault comes where one write of the output failed
  pub write_fault : ends.write_fault → GenWriteFailed out
  -- and where it ends in another way none failed
  pub no_fault : ¬ ends.write_fault → out.faults_after ≡ out.faults

-- how a run of `gen` ends, before its status is told: with this result
abbrev pub GenEndsAs : {K : Type 0} → List (List ℕ) → StreamSeen → K → K
    → Result (Unit {0}) Stop → Type 0
GenEndsAs words out out_old out_new run = KeepsGenPromises (run_ends run) words out out_old out_new

-- The contract of `gen`. The run had these words; it found the output and the error stream as the
-- first of each pair and left them as the second; and it ended with this status
pub record MeetsGenContract {K : Type 0} (words : List (List ℕ)) (out err : StreamSeen)
    (out_old out_new : K) (status : Status) : Type 0 where
  -- all that is promised of a run with this status
  pub promises : KeepsGenPromises (status_ends status (error_line status)) words out out_old
      out_new
  -- words that ask for a number of trains, and no write that fails, as the count of the run tells
  -- or since none can: all goes well, unless there is no memory
  pub complete : (asked : AskedGen) → gen_asked_of words ≡ Some asked
      → (¬ (Rose out.faults out.faults_after))
      ⊎ WritesCannotFail (WritesSummary (AppendsFront ⊥) words out.bytes) out
      → (status ≡ Ok) ⊎ (status ≡ OutOfMemory)
  -- the error stream has the line of the status
  pub error_line : Tells err (error_line status)
