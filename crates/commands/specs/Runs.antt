-- What a run does, by its words, the tables of its feed, and the bytes of its input and its output.
use Rattle.std.specs.Prelude.{ℕ, ◌≡◌, ◌<◌, ◌≤◌, List, Some, Ok, Err, true, false, length}
use Rattle.std.specs.declared.option.Option.{Option}
use Rattle.std.specs.Io.KnownBytes.{Consumes}
use Rattle.mt_base.specs.declared.tables.Tables.{Tables}
use Rattle.delay_model.specs.declared.network.Network.{Network}
use Rattle.delay_model.specs.declared.state.State.{State}
use Rattle.command_words.specs.Words.{Asked, asked_of}
use Rattle.gtfs_tables.specs.declared.refusals.FeedRefusal.{FeedRefusal}
use Rattle.gtfs_tables.specs.Feeds.{Files}
use Rattle.information_service.specs.Fronts.{AppendsAll, AppendsTakenFront}
use Rattle.mt_io.specs.Lines.{lines_of}
use Rattle.schedule_build.specs.Directory.{Names}
use Rattle.commands.specs.Feeds.{network, tables_in, asked_in}
use Rattle.commands.specs.Statuses.{refusal_line}
use Rattle.commands.specs.Tasks.{Task, first_service}

-- ---- what a command begins with

-- the words ask for a feed that tells its tables and holds this timetable
pub record Loads (words : List (List ℕ)) (tables : Option Files) (nw : Network) (st : State)
    (names : Names) : Type 0 where
  pub asked : Asked
  pub told : Files
  pub asked_is : asked_of words ≡ Some asked
  pub told_is : tables ≡ Some told
  pub rows : Tables
  pub rows_are : tables_in told asked ≡ Ok rows
  pub network_is : network rows asked.opts ≡ nw
  pub holds : asked_in told asked ≡ Ok (st, names)

-- the words ask for a feed that tells its tables and holds a timetable, over which the command
-- begins with this
pub record Begins {B : Type 0} (task : Task B) (words : List (List ℕ)) (tables : Option Files)
    (start : B) : Type 0 where
  pub network : Network
  pub state : State
  pub names : Names
  pub loads : Loads words tables network state names
  pub begins : task.begins loads.told loads.asked (first_service network names state) ≡ Ok start

-- ---- why a run is refused

-- the feed is refused for this, or the command refuses by this line what it finds behind the feed
pub data Refusal : Type 0 where
  by_feed : FeedRefusal → Refusal
  by_command : List ℕ → Refusal

-- the line that the error stream is told
abbrev pub line_of_refusal : Refusal → List ℕ
line_of_refusal (by_feed why) = refusal_line why
line_of_refusal (by_command line) = line

-- the command can be refused so: for a reason that feeds have, or by a line that it has
abbrev pub CanBeRefused : {B : Type 0} → Task B → Refusal → Type 0
CanBeRefused task (by_feed why) = Unit {0}
CanBeRefused task (by_command line) = task.Refuses line

-- the words ask for a feed that tells its tables and is to be refused for this
pub record IsFeedRefused (words : List (List ℕ)) (tables : Option Files)
    (why : FeedRefusal) : Type 0 where
  pub asked : Asked
  pub told : Files
  pub asked_is : asked_of words ≡ Some asked
  pub told_is : tables ≡ Some told
  pub refused : asked_in told asked ≡ Err why

-- the words ask for a feed that tells its tables and holds a timetable, behind which the command
-- refuses by this line what it finds
pub record IsLoadRefused {B : Type 0} (task : Task B) (words : List (List ℕ))
    (tables : Option Files) (line : List ℕ) : Type 0 where
  pub network : Network
  pub state : State
  pub names : Names
  pub loads : Loads words tables network state names
  pub refused : task.begins loads.told loads.asked (first_service network names state) ≡ Err line

-- what the words ask for is to be refused for this
abbrev pub IsRefused : {B : Type 0} → Task B → List (List ℕ) → Option Files → Refusal → Type 0
IsRefused task words tables (by_feed why) = IsFeedRefused words tables why
IsRefused task words tables (by_command line) = IsLoadRefused task words tables line

-- this line tells why the run is refused: for a reason for which the command can be refused, and
-- which is the one by the definition where the feed tells its tables
pub record SaysWhy {B : Type 0} (task : Task B) (words : List (List ℕ)) (tables : Option Files)
    (line : List ℕ) : Type 0 where
  pub why : Refusal
  pub line_is : line ≡ line_of_refusal why
  pub can : CanBeRefused task why
  pub is : (told : Files) → tables ≡ Some told → IsRefused task words tables why

-- ---- what a run writes

-- what was written is an output of all lines of the input
abbrev pub WritesAll : {B : Type 0} → Task B → List (List ℕ) → Option Files → Option (List ℕ)
    → Option (List ℕ) → Option (List ℕ) → Type 0
WritesAll {B = B} task words tables left written written_now =
    (start : B) (bytes : List ℕ) → Begins task words tables start → left ≡ Some bytes
    → AppendsAll (task.output.IsWhole start (lines_of true bytes))
    written written_now

-- what was written are the replies to the lines that are whole among the bytes taken; in `serve`,
-- to the windows that are
abbrev pub WritesReplies : {B : Type 0} → Task B → List (List ℕ) → Option Files → Option (List ℕ)
    → Option (List ℕ) → Option (List ℕ) → Option (List ℕ) → Type 0
WritesReplies {B = B} task words tables left left_now written written_now =
    (start : B) → Begins task words tables start
    → (bytes : List ℕ) × Consumes left left_now bytes
    × AppendsAll (task.output.AreReplies start (lines_of false bytes))
    written written_now

-- what was written is a front of an output for the bytes that were taken, however the run ended: of
-- the replies to the first of the lines that are whole among them, or, where the end of the input
-- was read, of a whole output. Where a write has `Failed`, it is not all of that
abbrev pub WritesFront : {B : Type 0} → Type 0 → Task B → ℕ → List (List ℕ) → Option Files
    → Option (List ℕ) → Option (List ℕ) → Option (List ℕ) → Option (List ℕ) → Type 0
WritesFront {B = B} Failed task budget words tables left left_now written written_now =
    (start : B) → Begins task words tables start
    → AppendsTakenFront Failed (task.output.IsWhole start)
    (task.output.AreReplies start) budget left left_now written written_now

-- ---- what can be answered

-- the command has something to begin with, and the input tells its bytes, of which the number is
-- one of these
pub record CanBeAnswered {B : Type 0} (task : Task B) (words : List (List ℕ))
    (tables : Option Files) (left : Option (List ℕ)) (Is : ℕ → Type 0) : Type 0 where
  pub start : B
  pub begins : Begins task words tables start
  pub bytes : List ℕ
  pub told : left ≡ Some bytes
  pub count : Is (length bytes)

-- the command has something to begin with, and the input has fewer bytes than may be taken
abbrev pub CanEnd : {B : Type 0} → Task B → List (List ℕ) → Option Files → Option (List ℕ) → ℕ
    → Type 0
CanEnd task words tables left budget = CanBeAnswered task words tables left (λ n. n < budget)

-- the command has something to begin with, and the input has as many bytes as may be taken, or more
abbrev pub FillsBudget : {B : Type 0} → Task B → List (List ℕ) → Option Files → Option (List ℕ)
    → ℕ → Type 0
FillsBudget task words tables left budget =
    CanBeAnswered task words tables left (λ n. budget ≤ n)
