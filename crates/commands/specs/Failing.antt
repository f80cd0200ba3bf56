-- What fails in a run, and what cannot.
use Rattle.std.specs.Prelude.{ℕ, ◌≡◌, ◌≤◌, ◌⊎◌, List, length, Some}
use Rattle.std.specs.declared.option.Option.{Option}
use Rattle.std.specs.Io.KnownBytes.{Appends}
use Rattle.information_service.specs.Causes.{TookAtMost}
use Rattle.information_service.specs.Fronts.{AppendsTakenFront}
use Rattle.gtfs_tables.specs.Feeds.{Files}
use Rattle.mt_io.specs.Causes.{AppendsPart, Faults, IsFull, Rose, counted, never, once_full}
use Rattle.commands.specs.Runs.{Begins}
use Rattle.commands.specs.Seen.{FeedSeen, StreamSeen}
use Rattle.commands.specs.Tasks.{Task}

-- ---- what failed

-- the same faults as before
abbrev pub kept : Faults → Option Faults
kept before = Some before

-- the faults of the feed, the input and the output after the run, by those before it
pub record AreCounted (of_feed of_input of_out : Faults → Option Faults) (feed : FeedSeen)
    (input out : StreamSeen) : Type 0 where
  pub feed_reads : Some feed.faults_after ≡ of_feed feed.faults
  pub input_reads : Some input.faults_after ≡ of_input input.faults
  pub writes : Some out.faults_after ≡ of_out out.faults

-- no read of the feed or the input failed in the run, and no write of the output
abbrev pub NothingFailed : FeedSeen → StreamSeen → StreamSeen → Type 0
NothingFailed = AreCounted kept kept kept

-- one read of the feed failed, and nothing else
abbrev pub FeedReadFailed : FeedSeen → StreamSeen → StreamSeen → Type 0
FeedReadFailed = AreCounted counted kept kept

-- one read of the input failed, and nothing else
abbrev pub InputReadFailed : FeedSeen → StreamSeen → StreamSeen → Type 0
InputReadFailed = AreCounted kept counted kept

-- one write of the output failed, and nothing else. An output that can fail only once it is full is
-- full, where it tells its bytes
abbrev pub WriteFailed : FeedSeen → StreamSeen → StreamSeen → Type 0
WriteFailed feed input out =
    AreCounted kept kept counted feed input out × IsFull out.faults_after out.bytes_after

-- what is written to the error stream is this, and no write to it failed; or one write to it
-- failed, and a part is written
abbrev pub Tells : StreamSeen → List ℕ → Type 0
Tells err line =
    (Appends err.bytes err.bytes_after line × (err.faults_after ≡ err.faults))
    ⊎ (AppendsPart err.bytes err.bytes_after line × (Some err.faults_after ≡ counted err.faults)
    × IsFull err.faults_after err.bytes_after)

-- ---- what does not fail

-- no count of faults rose
pub record NoneRose (feed : FeedSeen) (input out : StreamSeen) : Type 0 where
  pub feed_reads : ¬ (Rose feed.faults feed.faults_after)
  pub input_reads : ¬ (Rose input.faults input.faults_after)
  pub writes : ¬ (Rose out.faults out.faults_after)

-- an output tells its bytes, and can fail only once it has as many as it has room for; and with any
-- front of what is to be written behind its bytes (`IsFront` says which bytes these are together)
-- it has no more than that
pub record HasRoom (IsFront : Option (List ℕ) → Type 0) (out : StreamSeen) : Type 0 where
  pub room : ℕ
  pub can : out.faults.can ≡ once_full room
  pub held : List ℕ
  pub told : out.bytes ≡ Some held
  pub fits : (written : List ℕ) → IsFront (Some written) → length written ≤ room

-- a write of an output cannot fail: at all, or since it has room for what is to be written
abbrev pub WritesCannotFail : (Option (List ℕ) → Type 0) → StreamSeen → Type 0
WritesCannotFail IsFront out = (out.faults.can ≡ never) ⊎ HasRoom IsFront out

-- these bytes of an output are those before the run and a front of what a command writes for bytes
-- that it takes from an input, no more than may be, over a feed with these tables
abbrev pub IsFrontWritten : {B : Type 0} → Task B → ℕ → List (List ℕ) → Option Files
    → Option (List ℕ) → Option (List ℕ) → Option (List ℕ) → Type 0
IsFrontWritten {B = B} task budget words tables left written written_now = (start : B)
    × Begins task words tables start × (left_now : Option (List ℕ))
    × TookAtMost budget left left_now
    × AppendsTakenFront ⊥ (task.output.IsWhole start)
    (task.output.AreReplies start) budget left left_now written written_now

-- no read of the feed or the input can fail, and no write of the output
pub record CannotFail {B : Type 0} (task : Task B) (budget : ℕ) (words : List (List ℕ))
    (feed : FeedSeen) (input out : StreamSeen) : Type 0 where
  pub feed_reads : feed.faults.can ≡ never
  pub input_reads : input.faults.can ≡ never
  pub writes : WritesCannotFail (IsFrontWritten task budget words feed.tables input.bytes
      out.bytes) out

-- nothing fails: as the counts of the run tell, or since nothing can
abbrev pub NothingFails : {B : Type 0} → Task B → ℕ → List (List ℕ) → FeedSeen → StreamSeen
    → StreamSeen → Type 0
NothingFails task budget words feed input out =
    NoneRose feed input out ⊎ CannotFail task budget words feed input out
