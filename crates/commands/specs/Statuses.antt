-- The exit status, and the line on the error stream.
use Rattle.std.specs.Prelude.{ℕ, ◌≡◌, ◌++◌, List, [], codes, decimal, Result, Ok as Ended, Err as Stopped}
use Rattle.mt_base.specs.declared.tables.What.{What}
use Rattle.mt_base.specs.declared.tables.What.TheVariants as what
use Rattle.gtfs_tables.specs.declared.faults.Cause.{Cause}
use Rattle.gtfs_tables.specs.declared.faults.Cause.TheVariants.{NoColumn, NotUtf8, FieldCount, BadNumber, BadTime, BadDate, UnknownReference, DuplicateKey, BackwardsTimes, TooFewCalls, UntimedEnd}
use Rattle.gtfs_tables.specs.declared.refusals.FeedRefusal.{FeedRefusal}
use Rattle.gtfs_tables.specs.declared.refusals.FeedRefusal.TheVariants.{Missing, Bad, Frequencies, TooMany, TooLong as TableTooLong}
use Rattle.gtfs_tables.specs.declared.refusals.FeedError.{FeedError}
use Rattle.gtfs_tables.specs.declared.refusals.FeedError.TheVariants as feeds
use Rattle.gtfs_tables.specs.Names.{file_name}
use Rattle.command_words.specs.declared.words.WordsFault.{WordsFault}
use Rattle.command_words.specs.declared.words.WordsFault.TheVariants as words
use Rattle.information_service.specs.declared.fault.LinesFault.{LinesFault}
use Rattle.information_service.specs.declared.fault.LinesFault.TheVariants as lines
use Rattle.commands.specs.declared.status.Status.{Status}
use Rattle.commands.specs.declared.status.Status.TheVariants.{Ok, Usage, FeedRefused, ReadFault, WriteFault, OutOfMemory, TooLong}
use Rattle.commands.specs.declared.status.Stop.{Stop}
use Rattle.commands.specs.declared.status.Stop.TheVariants as stops

abbrev pub number_of : Status → ℕ
number_of Ok = 0
number_of Usage = 2
number_of FeedRefused = 3
number_of ReadFault = 4
number_of WriteFault = 5
number_of OutOfMemory = 6
number_of TooLong = 7

-- the line of a status: none where all went well. That of a refused feed says why, and stands below
abbrev pub error_line : Status → List ℕ
error_line Ok = []
error_line Usage = codes "traind: usage: traind COMMAND FEED --from DATE or traind gen N\n"
error_line FeedRefused = []
error_line ReadFault = codes "traind: read fault\n"
error_line WriteFault = codes "traind: write fault\n"
error_line OutOfMemory = codes "traind: out of memory\n"
error_line TooLong = codes "traind: input too long\n"

-- the words for what is wrong with a row
abbrev pub cause_words : Cause → List ℕ
cause_words NoColumn = codes "no column"
cause_words NotUtf8 = codes "not UTF-8"
cause_words FieldCount = codes "wrong field count"
cause_words BadNumber = codes "bad number"
cause_words BadTime = codes "bad time"
cause_words BadDate = codes "bad date"
cause_words UnknownReference = codes "unknown reference"
cause_words DuplicateKey = codes "duplicate key"
cause_words BackwardsTimes = codes "backwards times"
cause_words TooFewCalls = codes "too few calls"
cause_words UntimedEnd = codes "untimed end"

-- the word for what there is too many of
abbrev pub what_word : What → List ℕ
what_word what.Stops = codes "stops"
what_word what.Transfers = codes "transfers"
what_word what.Rules = codes "rules"
what_word what.Trains = codes "trains"
what_word what.Nodes = codes "nodes"
what_word what.Pairs = codes "pairs"

-- the line of a refused feed
abbrev pub refusal_line : FeedRefusal → List ℕ
refusal_line (Missing table) = codes "traind: feed refused: missing "
    ++ (file_name table ++ codes "\n")
refusal_line (Bad table row cause) =
    codes "traind: feed refused: "
    ++ (file_name table
    ++ (codes " row "
    ++ (decimal row ++ (codes ": " ++ (cause_words cause ++ codes "\n")))))
refusal_line Frequencies = codes "traind: feed refused: frequencies.txt has rows\n"
refusal_line (TooMany w) = codes "traind: feed refused: too many " ++ (what_word w ++ codes "\n")
refusal_line (TableTooLong table) = codes "traind: feed refused: "
    ++ (file_name table ++ codes " is too long\n")

-- the status of a run that stops for this
abbrev pub status_of : Stop → Status
status_of stops.Usage = Usage
status_of (stops.Refused line) = FeedRefused
status_of (stops.Fault lines.ReadFault) = ReadFault
status_of (stops.Fault lines.WriteFault) = WriteFault
status_of (stops.Fault lines.OutOfMemory) = OutOfMemory
status_of (stops.Fault lines.TooLong) = TooLong

-- and the line on the error stream
abbrev pub line_of : Stop → List ℕ
line_of stops.Usage = error_line Usage
line_of (stops.Refused line) = line.items
line_of (stops.Fault fault) = error_line (status_of (stops.Fault fault))

-- the same of a run that ended, or that stopped
abbrev pub run_status : Result (Unit {0}) Stop → Status
run_status (Ended u) = Ok
run_status (Stopped stop) = status_of stop

abbrev pub run_line : Result (Unit {0}) Stop → List ℕ
run_line (Ended u) = []
run_line (Stopped stop) = line_of stop

-- how a run ends whose lines ended so
abbrev pub run_of : Result (Unit {0}) LinesFault → Result (Unit {0}) Stop
run_of (Ended u) = Ended tt
run_of (Stopped fault) = Stopped (stops.Fault fault)

-- why a run stops, where the words are not read
abbrev pub words_stop : WordsFault → Stop
words_stop words.Usage = stops.Usage
words_stop words.OutOfMemory = stops.Fault lines.OutOfMemory

-- and where the feed is not: a refusal is told by its line, unless there is no memory for that
abbrev pub IsFeedStop : FeedError → Stop → Type 0
IsFeedStop feeds.ReadFault stop = stop ≡ stops.Fault lines.ReadFault
IsFeedStop feeds.OutOfMemory stop = stop ≡ stops.Fault lines.OutOfMemory
IsFeedStop (feeds.Refused why) stops.Usage = ⊥
IsFeedStop (feeds.Refused why) (stops.Refused line) = line.items ≡ refusal_line why
IsFeedStop (feeds.Refused why) (stops.Fault fault) = fault ≡ lines.OutOfMemory
