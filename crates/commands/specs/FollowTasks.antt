-- What `follow` begins with, why it is refused, and what it writes.
use Rattle.std.specs.Prelude.{ℕ, ◌≡◌, ◌≢◌, ◌<◌, ◌≤◌, ◌⊎◌, List, length, take, None, Some}
use Rattle.std.specs.declared.option.Option.{Option}
use Rattle.std.specs.Io.KnownBytes.{Consumes}
use Rattle.delay_model.specs.declared.network.Network.{Network}
use Rattle.delay_model.specs.declared.state.State.{State}
use Rattle.delay_report.specs.Table.{table}
use Rattle.followed_input.specs.FollowedJournals.{IsRefusedSoFar}
use Rattle.followed_input.specs.declared.fault.FollowFault.{FollowFault}
use Rattle.followed_input.specs.declared.fault.FollowFault.TheVariants as follows
use Rattle.gtfs_tables.specs.declared.refusals.FeedRefusal.{FeedRefusal}
use Rattle.gtfs_tables.specs.Feeds.{Files}
use Rattle.information_service.specs.Fronts.{EndWasRead}
use Rattle.information_service.specs.ServiceState.{ServiceState}
use Rattle.information_service.specs.declared.fault.LinesFault.TheVariants as lines
use Rattle.journal_lines.specs.Lines.{text_of_head}
use Rattle.journal_replay.specs.Reading.{JournalProgress}
use Rattle.journal_replay.specs.Replayed.{refusal_at_end, replay_of}
use Rattle.journal_replay.specs.declared.refusal.JournalRefusal.{JournalRefusal}
use Rattle.journal_replay.specs.declared.refusal.JournalRefusal.TheVariants as refusals
use Rattle.schedule_build.specs.Directory.{Names}
use Rattle.commands.specs.OwnLoads.{head_of, journal_line}
use Rattle.commands.specs.Runs.{IsFeedRefused, Loads}
use Rattle.commands.specs.Seen.{StreamSeen}
use Rattle.commands.specs.Statuses.{refusal_line}
use Rattle.commands.specs.Tasks.{first_service}
use Rattle.commands.specs.declared.status.Stop.{Stop}
use Rattle.commands.specs.declared.status.Stop.TheVariants as stops

-- ---- what it begins with

-- the header that its journal has to have, and the service that was loaded
pub record FollowStart : Type 0 where
  pub header : List ℕ
  pub service : ServiceState

-- the words ask for a feed that tells its tables and holds a timetable, and it begins with this
pub record BeginsFollowing (words : List (List ℕ)) (tables : Option Files)
    (start : FollowStart) : Type 0 where
  pub network : Network
  pub state : State
  pub names : Names
  pub loads : Loads words tables network state names
  pub header_is : start.header ≡ text_of_head (head_of loads.asked)
  pub service_is : start.service ≡ first_service network names state

-- so far its journal is read whose bytes these are
abbrev pub read_from : FollowStart → List ℕ → JournalProgress
read_from start bytes = replay_of start.header start.service bytes

-- the table of all times behind it
abbrev pub table_behind : JournalProgress → List ℕ
table_behind p = table p.service.network p.service.names p.service.state

-- ---- why it is refused

-- this line tells why the feed is refused: for a reason which is the one by the definition where
-- the feed tells its tables
pub record SaysWhyFeed (words : List (List ℕ)) (tables : Option Files) (line : List ℕ)
    : Type 0 where
  pub why : FeedRefusal
  pub line_is : line ≡ refusal_line why
  pub is : (told : Files) → tables ≡ Some told → IsFeedRefused words tables why

-- this line tells why the journal is refused, which is never for want of memory: for a reason
-- which, where the feed tells its tables and holds a timetable, is the one by the definition, by
-- the bytes that were taken of the input, no more than may be
pub record SaysWhyJournal (budget : ℕ) (words : List (List ℕ)) (tables : Option Files)
    (input : StreamSeen) (line : List ℕ) : Type 0 where
  pub why : JournalRefusal
  pub line_is : line ≡ journal_line why
  pub can : why ≢ refusals.OutOfMemory
  pub is : (start : FollowStart) → BeginsFollowing words tables start → (bytes : List ℕ)
      × Consumes input.bytes input.bytes_after bytes × (length bytes ≤ budget)
      × IsRefusedSoFar budget input.bytes_after bytes (read_from start bytes) why

-- a journal with these bytes, of which so many may be taken, is to be refused for this: for a line
-- among those that may be taken; or, where they are more than it has, at its end, where it also has
-- to have a whole line
abbrev pub IsJournalRefused : ℕ → FollowStart → List ℕ → JournalRefusal → Type 0
IsJournalRefused budget start bytes why =
    ((read_from start (take budget bytes)).refusal ≡ Some why)
    ⊎ ((length bytes < budget) × (refusal_at_end (read_from start bytes) ≡ Some why))

-- ---- what it does

-- nothing is refused among the bytes that were taken of the input
abbrev pub IsNotRefused : List (List ℕ) → Option Files → StreamSeen → Type 0
IsNotRefused words tables input = (start : FollowStart) → BeginsFollowing words tables start
    → (bytes : List ℕ) × Consumes input.bytes input.bytes_after bytes
    × ((read_from start bytes).refusal ≡ None)

-- the end of the input was read, nothing of its journal is refused, and the table of all times
-- behind it was written in this way: whole, or in part
abbrev pub WritesTable : (Option (List ℕ) → Option (List ℕ) → List ℕ → Type 0) → ℕ
    → List (List ℕ) → Option Files → StreamSeen → StreamSeen → Type 0
WritesTable Written budget words tables input out = (start : FollowStart)
    → BeginsFollowing words tables start
    → (bytes : List ℕ) × Consumes input.bytes input.bytes_after bytes
    × EndWasRead budget input.bytes_after bytes
    × (refusal_at_end (read_from start bytes) ≡ None)
    × Written out.bytes out.bytes_after (table_behind (read_from start bytes))

-- ---- what can be followed

-- it has something to begin with, the input tells its bytes, and of these this holds
pub record CanBeFollowed (words : List (List ℕ)) (tables : Option Files)
    (left : Option (List ℕ)) (Is : FollowStart → List ℕ → Type 0) : Type 0 where
  pub start : FollowStart
  pub begins : BeginsFollowing words tables start
  pub bytes : List ℕ
  pub told : left ≡ Some bytes
  pub is : Is start bytes

-- the journal has fewer bytes than may be taken, and is not to be refused
abbrev pub IsWhole : ℕ → FollowStart → List ℕ → Type 0
IsWhole budget start bytes =
    (length bytes < budget) × (refusal_at_end (read_from start bytes) ≡ None)

-- it has as many as may be taken, or more, and among so many nothing is to be refused
abbrev pub IsTooLong : ℕ → FollowStart → List ℕ → Type 0
IsTooLong budget start bytes =
    (budget ≤ length bytes) × ((read_from start (take budget bytes)).refusal ≡ None)

-- ---- why it stops

-- so it stops where the journal is not followed to its end: a refusal is told by its line, unless
-- there is no memory for that
abbrev pub IsFollowStop : FollowFault → Stop → Type 0
IsFollowStop (follows.Refused why) stops.Usage = ⊥
IsFollowStop (follows.Refused why) (stops.Refused line) = line.items ≡ journal_line why
IsFollowStop (follows.Refused why) (stops.Fault fault) = fault ≡ lines.OutOfMemory
IsFollowStop follows.ReadFault stop = stop ≡ stops.Fault lines.ReadFault
IsFollowStop follows.OutOfMemory stop = stop ≡ stops.Fault lines.OutOfMemory
IsFollowStop follows.TooLong stop = stop ≡ stops.Fault lines.TooLong
