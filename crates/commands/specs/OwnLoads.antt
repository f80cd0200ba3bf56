-- What the commands load behind the feed that answer line by line, and how `restart` takes the
-- journal of the feed's folder. Its header and the lines that refuse it are also those of `follow`.
use Rattle.std.specs.Prelude.{ℕ, ◌≡◌, ◌++◌, List, [], codes, decimal, Result, Ok, Err, None, Some}
use Rattle.std.specs.declared.option.Option.{Option}
use Rattle.command_words.specs.Words.{Asked}
use Rattle.information_service.specs.ServiceState.{ServiceState}
use Rattle.journal_lines.specs.declared.heads.Head.{Head}
use Rattle.journal_lines.specs.Lines.{text_of_head}
use Rattle.journal_replay.specs.Reading.{JournalProgress, after_bytes, nothing_read}
use Rattle.journal_replay.specs.Replayed.{refusal_at_end}
use Rattle.journal_replay.specs.declared.refusal.JournalRefusal.{JournalRefusal}
use Rattle.journal_replay.specs.declared.refusal.JournalRefusal.TheVariants.{Header, Line, OutOfMemory}
use Rattle.journey_watch.specs.Watching.{WatchState}
use Rattle.commands.specs.LineTasks.{Behind, Start}
use Rattle.commands.specs.declared.loading.LoadFault.{LoadFault}
use Rattle.commands.specs.declared.loading.LoadFault.TheVariants as faults
use Rattle.commands.specs.declared.loading.LoadFault.TheVariants.{Refused}

-- it begins with the service that was loaded, and keeps this, by what the words ask for
abbrev pub keeping : {C : Type 0} → (Asked → C) → Behind C
keeping kept = record {
  table = None;
  begins = λ asked table t. Ok (record { service = t; kept = kept asked });
}

-- `plans` keeps up to how many rides plans have
abbrev pub plans_behind : Behind ℕ
plans_behind = keeping (λ asked. asked.rides)

-- `watch` keeps the journeys that are watched: at first none, of 10,000 at most
abbrev pub none_watched : WatchState
none_watched = record { room = 10000; watched = [] }

abbrev pub watch_behind : Behind WatchState
watch_behind = keeping (λ asked. none_watched)

-- ---- journals

-- the head of a journal over the feed and with the options that the words ask for
abbrev pub head_of : Asked → Head
head_of asked = record {
  first = asked.first;
  days = asked.days;
  opts = asked.opts;
  zone = asked.zone_text;
}

-- `journal` keeps the header of its journal
abbrev pub header_behind : Behind (List ℕ)
header_behind = keeping (λ asked. text_of_head (head_of asked))

-- the lines by which `restart` refuses the journal of the feed's folder; `follow` has those that
-- name a row for the journal of its input
abbrev pub missing_line : List ℕ
missing_line = codes "traind: feed refused: missing journal.jsonl\n"

abbrev pub journal_line : JournalRefusal → List ℕ
journal_line Header = codes "traind: feed refused: journal.jsonl row 1: bad header\n"
journal_line (Line line) = codes "traind: feed refused: journal.jsonl row "
    ++ (decimal line ++ codes ": bad line\n")
journal_line OutOfMemory = []

-- a journal that is refused for this is refused with its line, unless there is no memory
abbrev pub HasJournalLine : JournalRefusal → LoadFault → Type 0
HasJournalLine Header (Refused line) = line.items ≡ journal_line Header
HasJournalLine (Line number) (Refused line) = line.items ≡ journal_line (Line number)
HasJournalLine OutOfMemory (Refused line) = ⊥
HasJournalLine why faults.OutOfMemory = Unit {0}

-- and a folder without a journal with its own
abbrev pub IsMissingFault : LoadFault → Type 0
IsMissingFault (Refused line) = line.items ≡ missing_line
IsMissingFault faults.OutOfMemory = Unit {0}

-- what it begins with, by how far the journal is read: the service behind its messages
abbrev pub restarted_by : JournalProgress → Option JournalRefusal
    → Result (Start (Unit {0})) (List ℕ)
restarted_by p None = Ok (record { service = p.service; kept = tt })
restarted_by p (Some why) = Err (journal_line why)

abbrev pub restarted_at : JournalProgress → Result (Start (Unit {0})) (List ℕ)
restarted_at p = restarted_by p (refusal_at_end p)

-- by the bytes of the journal, if there is one
abbrev pub restarted : Asked → Option (List ℕ) → ServiceState → Result (Start (Unit {0})) (List ℕ)
restarted asked None t = Err missing_line
restarted asked (Some bytes) t =
    restarted_at (after_bytes (text_of_head (head_of asked)) (nothing_read t) bytes)

-- it takes the table `journal.jsonl`
abbrev pub journal_behind : Behind (Unit {0})
journal_behind = record { table = Some (codes "journal.jsonl"); begins = restarted }
