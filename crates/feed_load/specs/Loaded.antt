-- What a feed gives: the state of its timetable with the names, or the first cause to refuse it.
use Rattle.std.specs.Prelude.{ℕ, List, Option, None, Some, Result, Ok, Err}
use Rattle.mt_base.specs.declared.options.Opts.{Opts}
use Rattle.mt_base.specs.declared.tables.Tables.{Tables}
use Rattle.mt_base.specs.declared.tables.What.{What}
use Rattle.mt_base.specs.declared.tables.What.TheVariants.{Pairs}
use Rattle.change_times.specs.ChangeTables.{tables_of}
use Rattle.change_times.specs.Reach.{pairs}
use Rattle.delay_model.specs.declared.state.State.{State}
use Rattle.gtfs_tables.specs.declared.refusals.FeedRefusal.{FeedRefusal}
use Rattle.gtfs_tables.specs.declared.refusals.FeedRefusal.TheVariants.{TooMany}
use Rattle.gtfs_tables.specs.declared.refusals.FeedError.{FeedError}
use Rattle.gtfs_tables.specs.declared.refusals.FeedError.TheVariants.{Refused, OutOfMemory}
use Rattle.gtfs_tables.specs.Checks.{◌>>=◌}
use Rattle.gtfs_tables.specs.Feeds.{Contents, at_most, tables_of as tables_in}
use Rattle.schedule_build.specs.declared.faults.ExpandFault.{ExpandFault}
use Rattle.schedule_build.specs.declared.faults.ExpandFault.TheVariants as build
use Rattle.schedule_build.specs.Directory.{Names, names_of}
use Rattle.schedule_build.specs.Runs.{all_runs}
use Rattle.schedule_build.specs.Schedule.{schedule, too_many}

-- the state of a timetable, and the names of what it numbers
abbrev pub Timetable : Type 0
Timetable = State × Names

-- the timetable, unless there is too many of something
abbrev pub unless_too_many : Option What → Timetable → Result Timetable FeedRefusal
unless_too_many None timetable = Ok timetable
unless_too_many (Some what) timetable = Err (TooMany what)

-- the timetable of so many days from the date `first` on, which have these bases, from the tables
-- of a feed
abbrev pub days_loaded : Tables → ℕ → ℕ → List ℕ → Opts → Result Timetable FeedRefusal
days_loaded t first days bases o = unless_too_many (too_many t.calls (all_runs t first days bases))
    (schedule t first days bases o, names_of t first days bases o)

-- there are not too many pairs of a stop or station and a stop to which one can change from it
abbrev pub few_pairs : Tables → Opts → Result (Unit {0}) FeedRefusal
few_pairs t o = at_most 4000000 Pairs (pairs (tables_of t o.change))

-- the same, where the pairs are counted first
abbrev pub tables_loaded : Tables → ℕ → ℕ → List ℕ → Opts → Result Timetable FeedRefusal
tables_loaded t first days bases o = do
  _ ← few_pairs t o
  days_loaded t first days bases o

-- the same, from what the feed holds: first of all its tables are read
unfoldable pub loaded : Contents → ℕ → ℕ → List ℕ → Opts → Result Timetable FeedRefusal
loaded contents first days bases o = do
  t ← tables_in contents
  tables_loaded t first days bases o

-- why a feed is not loaded, where its schedule is not built
abbrev pub schedule_error : ExpandFault → FeedError
schedule_error (build.TooMany what) = Refused (TooMany what)
schedule_error build.OutOfMemory = OutOfMemory
