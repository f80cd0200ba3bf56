-- The timetable that the tables of so many trains hold.
use Rattle.std.specs.Prelude.{ℕ, ◌≡◌, List, [], ◌∷◌, length, Ok}
use Rattle.mt_base.specs.declared.options.Opts.{Opts}
use Rattle.mt_base.specs.declared.tables.Tables.{Tables}
use Rattle.delay_model.specs.declared.state.State.{State}
use Rattle.feed_gen.specs.Tables.{files}
use Rattle.feed_load.specs.Loaded.{loaded}
use Rattle.gtfs_tables.specs.Feeds.{contents_of, tables_of}
use Rattle.schedule_build.specs.Directory.{Names}

-- with these options the tables of so many trains hold this timetable of 5 January 2026, which has
-- exactly so many trains
pub record HoldsTimetable (trains : ℕ) (folder : List ℕ) (o : Opts) : Type 0 where
  pub rows : Tables
  pub state : State
  pub names : Names
  pub rows_are : tables_of (contents_of (files trains) folder) ≡ Ok rows
  pub holds : loaded (contents_of (files trains) folder) 20260105 1 (0 ∷ []) o ≡ Ok (state, names)
  pub one_each : length state.trains ≡ trains
