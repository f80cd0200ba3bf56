-- How a run begins, or stops before it reads its input.
use Rattle.std.specs.Prelude.{ℕ, ◌≡◌, ◌⊎◌, List, None, Some, Result, Err}
use Rattle.std.specs.declared.option.Option.{Option}
use Rattle.command_words.specs.Words.{asked_of}
use Rattle.gtfs_tables.specs.Feeds.{Files}
use Rattle.information_service.specs.declared.fault.LinesFault.TheVariants as lines
use Rattle.mt_io.specs.Causes.{counted}
use Rattle.mt_io.specs.Lines.{Line}
use Rattle.commands.specs.Promises.{IsRefusedWith}
use Rattle.commands.specs.Runs.{Begins, IsRefused, Refusal, SaysWhy, line_of_refusal}
use Rattle.commands.specs.Seen.{FeedSeen}
use Rattle.commands.specs.Tasks.{Task}
use Rattle.commands.specs.declared.status.Stop.{Stop}
use Rattle.commands.specs.declared.status.Stop.TheVariants.{Usage, Refused, Fault}

-- the words ask for something that is not to be refused; and what is written that is all for lines
-- by the first of these, or the replies to them by the second, is what the command is to write
pub record IsBegun {B : Type 0} (task : Task B) (words : List (List ℕ)) (tables : Option Files)
    (IsAll Are : List Line → List ℕ → Type 0) : Type 0 where
  pub asked : ¬ (asked_of words ≡ None)
  pub not_refused : (why : Refusal) → ¬ (IsRefused task words tables why)
  pub whole : (start : B) → Begins task words tables start → (lines : List Line)
      (bytes : List ℕ) → IsAll lines bytes
      → task.output.IsWhole start lines bytes
  pub replies : (start : B) → Begins task words tables start → (lines : List Line)
      (bytes : List ℕ) → Are lines bytes
      → task.output.AreReplies start lines bytes

-- a run can stop for this before it reads its input
abbrev pub IsEarly : Stop → Type 0
IsEarly Usage = Unit {0}
IsEarly (Refused line) = Unit {0}
IsEarly (Fault lines.ReadFault) = Unit {0}
IsEarly (Fault lines.WriteFault) = ⊥
IsEarly (Fault lines.OutOfMemory) = Unit {0}
IsEarly (Fault lines.TooLong) = ⊥

-- a run that stops
abbrev pub stops : Stop → Result (Unit {0}) Stop
stops s = Err s

-- a run stops for this before it reads its input, with all that is promised of it then. `Same` says
-- that it left the feed as it was
pub record StopsEarly {B : Type 0} (task : Task B) (words : List (List ℕ)) (feed : FeedSeen)
    (Same : Type 0) (s : Stop) : Type 0 where
  pub early : IsEarly s
  pub usage : stops s ≡ stops Usage → asked_of words ≡ None
  pub usage_exactly : asked_of words ≡ None
      → (stops s ≡ stops Usage) ⊎ (stops s ≡ stops (Fault lines.OutOfMemory))
  pub usage_untouched : asked_of words ≡ None → Same
  pub refused : (line : List ℕ) → IsRefusedWith line (stops s)
      → SaysWhy task words feed.tables line
  pub refused_exactly : (why : Refusal) → IsRefused task words feed.tables why
      → IsRefusedWith (line_of_refusal why) (stops s)
      ⊎ (stops s ≡ stops (Fault lines.OutOfMemory)) ⊎ (stops s ≡ stops (Fault lines.ReadFault))
  pub failed : stops s ≡ stops (Fault lines.ReadFault)
      → Some feed.faults_after ≡ counted feed.faults
  pub answered : ¬ (stops s ≡ stops (Fault lines.ReadFault)) → feed.faults_after ≡ feed.faults
