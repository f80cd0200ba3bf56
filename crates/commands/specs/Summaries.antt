-- What `gen` writes.
use Rattle.std.specs.Prelude.{ℕ, ◌≡◌, List, [], ◌∷◌, Some, Ok, true, length}
use Rattle.std.specs.declared.option.Option.{Option}
use Rattle.mt_base.specs.declared.tables.Tables.{Tables}
use Rattle.delay_model.specs.declared.state.State.{State}
use Rattle.command_words.specs.GenWords.{default_options, gen_asked_of}
use Rattle.command_words.specs.declared.gen_words.AskedGen.{AskedGen}
use Rattle.feed_gen.specs.Lines.{input}
use Rattle.feed_gen.specs.Tables.{files}
use Rattle.feed_load.specs.Loaded.{loaded}
use Rattle.gtfs_tables.specs.Feeds.{contents_of, tables_of}
use Rattle.mt_io.specs.Lines.{lines_of}
use Rattle.window_service.specs.declared.sums.ReplySums.{ReplySums}
use Rattle.window_service.specs.Summary.{summary_line}
use Rattle.schedule_build.specs.Directory.{Names}
use Rattle.window_service.specs.Summed.{AreSummed}
use Rattle.commands.specs.Feeds.{network}

-- this line shows the sums over the replies of an output of `serve` for the lines of so many
-- trains, in the timetable that the tables of so many trains hold on 5 January 2026, with the
-- options as they are where none is given; and how many trains the timetable has, which are so many
pub record IsSummary (trains : ℕ) (line : List ℕ) : Type 0 where
  pub rows : Tables
  pub state : State
  pub names : Names
  pub sums : ReplySums
  pub rows_are : tables_of (contents_of (files trains) []) ≡ Ok rows
  pub holds : loaded (contents_of (files trains) []) 20260105 1 (0 ∷ []) default_options
      ≡ Ok (state, names)
  pub summed : AreSummed (network rows default_options) names state (lines_of true (input trains))
      sums
  pub one_each : length state.trains ≡ trains
  pub line_is : line ≡ summary_line sums (length state.trains)

-- and it is the only one, whichever journeys are shown and whoever answers which query. No number
-- of workers is named in it, so it is the same for each
pub record IsOnlySummary (trains : ℕ) (line : List ℕ) : Type 0 where
  pub is : IsSummary trains line
  pub only : (other : List ℕ) → IsSummary trains other → other ≡ line

-- the words ask for a number of trains, and their summary was written, in this way: whole, or in
-- part
pub record WritesSummary (Written : Option (List ℕ) → Option (List ℕ) → List ℕ → Type 0)
    (words : List (List ℕ)) (old new : Option (List ℕ)) : Type 0 where
  pub asked : AskedGen
  pub line : List ℕ
  pub asked_is : gen_asked_of words ≡ Some asked
  pub is : IsOnlySummary asked.trains line
  pub written : Written old new line
