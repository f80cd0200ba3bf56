-- The contract of a command: what it promises of each run, whatever its feed, its input and its
-- outputs do.
use Rattle.std.specs.Prelude.{ℕ, ◌≡◌, ◌≢◌, ◌⊎◌, ◌^◌, List, Result}
use Rattle.commands.specs.Failing.{NothingFails, Tells}
use Rattle.commands.specs.Promises.{KeepsPromises, run_ends, status_ends}
use Rattle.commands.specs.Runs.{CanEnd, FillsBudget}
use Rattle.commands.specs.Seen.{FeedSeen, StreamSeen}
use Rattle.commands.specs.Statuses.{error_line}
use Rattle.commands.specs.Tasks.{Task}
use Rattle.commands.specs.declared.status.Status.{Status}
use Rattle.commands.specs.declared.status.Status.TheVariants.{Ok, FeedRefused, OutOfMemory, TooLong}
use Rattle.commands.specs.declared.status.Stop.{Stop}

-- how many bytes of the input the program takes, if it finds no end before
abbrev pub byte_budget : ℕ
byte_budget = 2 ^ 40

-- how a run of a command ends, before its status is told: with this result
abbrev pub EndsAs : {B F S K : Type 0} → Task B → ℕ → List (List ℕ) → FeedSeen → StreamSeen
    → StreamSeen → F → F → S → S → K → K → Result (Unit {0}) Stop → Type 0
EndsAs task budget words feed input out feed_old feed_new input_old input_new out_old out_new run =
    KeepsPromises (run_ends run) task budget words feed input out feed_old feed_new input_old
    input_new out_old out_new

-- The contract of a command that is to do this. The run had these words; it found the feed, the
-- input, the output and the error stream as the first of each pair and left them as the second; and
-- it ended with this status
pub record MeetsContract {B F S K : Type 0} (task : Task B) (budget : ℕ)
    (words : List (List ℕ)) (feed : FeedSeen) (input out err : StreamSeen)
    (feed_old feed_new : F) (input_old input_new : S) (out_old out_new : K)
    (status : Status) : Type 0 where
  -- what the error stream is told: the line of the status, and where the run is refused a line that
  -- says why
  pub line : List ℕ
  pub told : Tells err line
  pub error_line : status ≢ FeedRefused → line ≡ error_line status
  -- all that is promised of a run with this status, of which the error stream was told this line
  pub promises : KeepsPromises (status_ends status line) task budget words feed input out
      feed_old feed_new input_old input_new out_old out_new
  -- words that ask for a feed that holds a timetable, an input with as many bytes as may be taken
  -- or more, and nothing that fails: the input is too long, unless there is no memory
  pub too_long_exactly : FillsBudget task words feed.tables input.bytes budget
      → NothingFails task budget words feed input out
      → (status ≡ TooLong) ⊎ (status ≡ OutOfMemory)
  -- words that ask for a feed that holds a timetable, an input with fewer bytes than may be taken,
  -- and nothing that fails: all goes well, unless there is no memory. So it is over objects in
  -- memory that cannot fail, whatever the run does
  pub complete : CanEnd task words feed.tables input.bytes budget
      → NothingFails task budget words feed input out → (status ≡ Ok) ⊎ (status ≡ OutOfMemory)
