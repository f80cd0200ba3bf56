-- What each command does that reads a feed.
use Rattle.std.specs.Prelude.{ℕ, List, [], ◌∷◌}
use Rattle.std.specs.Option.{unwrap_or}
use Rattle.std.specs.declared.option.Option.{Option}
use Rattle.checked_answers.specs.CheckedLines.{checked_output}
use Rattle.command_words.specs.declared.words.Command.{Command}
use Rattle.command_words.specs.declared.words.Command.TheVariants.{Times, Serve, Check, Plans}
use Rattle.command_words.specs.declared.words.Command.TheVariants.{Watch, Desk, Journal, Restart}
use Rattle.command_words.specs.declared.words.Command.TheVariants.{Follow}
use Rattle.command_words.specs.Words.{command_of}
use Rattle.desk_answers.specs.DeskOutput.{desk_output}
use Rattle.gtfs_tables.specs.Feeds.{Files}
use Rattle.information_service.specs.TimesOutput.{times_output as replies_output}
use Rattle.journal_answers.specs.JournaledLines.{journal_output}
use Rattle.plan_answers.specs.PlannedLines.{planned_output}
use Rattle.watch_answers.specs.WatchedLines.{watched_output}
use Rattle.commands.specs.Contract.{MeetsContract}
use Rattle.commands.specs.Failing.{IsFrontWritten}
use Rattle.commands.specs.FollowContract.{IsTableFront, MeetsFollowContract}
use Rattle.commands.specs.FollowTasks.{CanBeFollowed, IsWhole}
use Rattle.commands.specs.LineTasks.{line_task, nothing_behind}
use Rattle.commands.specs.OwnLoads.{header_behind, journal_behind, plans_behind, watch_behind}
use Rattle.commands.specs.Runs.{CanEnd}
use Rattle.commands.specs.Seen.{FeedSeen, StreamSeen}
use Rattle.commands.specs.Tasks.{Task, served_output, service_task, times_output}
use Rattle.commands.specs.declared.status.Status.{Status}

-- a task, with the type of what it begins with
pub record AnyTask : Type 1 where
  pub Beginning : Type 0
  pub task : Task Beginning

-- what a command does with its input: it answers the lines of it, or it follows the journal that it
-- holds
pub data Work : Type 1 where
  answers : AnyTask → Work
  follows : Work

-- `times` and `serve` begin with the service that was loaded. The others answer line by line:
-- `check` with certificates and judged claims, `plans` with all best plans, `watch` with what
-- becomes of the journeys that it showed, `desk` with the departures of stations and with what
-- decides the times of events, `journal` with the lines of a journal, and `restart`, which begins
-- behind the messages of a journal, with what `times` writes. `follow` follows a journal
abbrev pub work_of : Command → Work
work_of Times = answers (record { Beginning = _; task = service_task times_output })
work_of Serve = answers (record { Beginning = _; task = service_task served_output })
work_of Check = answers (record { Beginning = _; task = line_task nothing_behind checked_output })
work_of Plans = answers (record { Beginning = _; task = line_task plans_behind planned_output })
work_of Watch = answers (record { Beginning = _; task = line_task watch_behind watched_output })
work_of Desk = answers (record { Beginning = _; task = line_task nothing_behind desk_output })
work_of Journal = answers (record { Beginning = _; task = line_task header_behind journal_output })
work_of Restart = answers (record { Beginning = _; task = line_task journal_behind replies_output })
work_of Follow = follows

-- the command that words ask for, if they ask for anything
abbrev pub command_named : List (List ℕ) → Command
command_named [] = Serve
command_named (name ∷ rest) = unwrap_or (command_of name) Serve

-- what the words ask for
abbrev pub work_for : List (List ℕ) → Work
work_for words = work_of (command_named words)

-- The contract of this work. The run had these words; it found the feed, the input, the output and
-- the error stream as the first of each pair and left them as the second; and it ended with this
-- status
abbrev pub MeetsContractOf : {F S K : Type 0} → Work → ℕ → List (List ℕ) → FeedSeen → StreamSeen
    → StreamSeen → StreamSeen → F → F → S → S → K → K → Status → Type 0
MeetsContractOf (answers any) = MeetsContract any.task
MeetsContractOf follows = MeetsFollowContract

-- the work has something to begin with, and over this input it can go well: the input has fewer
-- bytes than may be taken, and where it is followed its journal is not to be refused
abbrev pub CanGoWell : Work → List (List ℕ) → Option Files → Option (List ℕ) → ℕ → Type 0
CanGoWell (answers any) words tables left budget = CanEnd any.task words tables left budget
CanGoWell follows words tables left budget = CanBeFollowed words tables left (IsWhole budget)

-- these bytes of an output are those before the run and a front of what this work writes
abbrev pub IsFrontOf : Work → ℕ → List (List ℕ) → Option Files → Option (List ℕ)
    → Option (List ℕ) → Option (List ℕ) → Type 0
IsFrontOf (answers any) = IsFrontWritten any.task
IsFrontOf follows = IsTableFront
