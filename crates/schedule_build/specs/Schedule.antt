-- The trains of the loaded service days.
use Rattle.std.specs.Prelude.{ℕ, ◌*◌, ◌<◌, ◌≤◌, List, [], ◌∷◌, Option, None, Some, nat_lt, if◌then◌else◌, length, map}
use Rattle.std.specs.List.{sum_by}
use Rattle.std.specs.FinMap as finmap
use Rattle.mt_base.specs.declared.options.Opts.{Opts}
use Rattle.mt_base.specs.declared.tables.CallRow.{CallRow}
use Rattle.mt_base.specs.declared.tables.Tables.{Tables}
use Rattle.mt_base.specs.declared.tables.What.{What}
use Rattle.mt_base.specs.declared.tables.What.TheVariants.{Trains, Nodes}
use Rattle.feed_tables.specs.Calls.{rows_of}
use Rattle.delay_model.specs.declared.state.Train.{Train}
use Rattle.delay_model.specs.declared.state.State.{State}
use Rattle.call_lines.specs.declared.calls.TableCall.{TableCall}
use Rattle.train_nodes.specs.Loaded.{loaded_train, with_train, DoNotFall}
use Rattle.schedule_build.specs.declared.runs.Run.{Run}
use Rattle.schedule_build.specs.TripCalls.{trip_calls}
use Rattle.schedule_build.specs.Runs.{all_runs}

-- the calls of a run
abbrev pub run_calls : List CallRow → Run → List TableCall
run_calls calls r = trip_calls r.base (rows_of calls r.trip)

-- the train of a run
abbrev pub run_train : List CallRow → Run → Train
run_train calls r = loaded_train r.day r.route (run_calls calls r)

-- a train for each run, no overrides, and what the options spare
abbrev pub schedule_of : List CallRow → List Run → Opts → State
schedule_of calls rs o =
    record {
      trains = map (run_train calls) rs;
      overrides = finmap.empty;
      spare_trains = o.spare_trains;
      spare_calls = o.spare_calls;
      spare_overrides = o.overrides;
    }

-- the schedule of so many days from the date `first` on, which have these bases
abbrev pub schedule : Tables → ℕ → ℕ → List ℕ → Opts → State
schedule t first days bases o = schedule_of t.calls (all_runs t first days bases) o

-- how many calls the runs have together
abbrev pub count_calls : List CallRow → List Run → ℕ
count_calls calls rs = sum_by (λ r. length (run_calls calls r)) rs

-- of what a schedule with these runs has too many: of trains, past 200,000, or else of nodes, past
-- 2,000,000 with two for each call
abbrev pub too_many : List CallRow → List Run → Option What
too_many calls rs =
    if nat_lt 200000 (length rs) then Some Trains
    else (if nat_lt 2000000 (2 * count_calls calls rs) then Some Nodes else None)

-- a run is of a loaded day, whose base is at most 30 days of 26 hours after that of day 0; it has
-- two calls at least, and its times do not fall
pub record IsFit (calls : List CallRow) (r : Run) : Type 0 where
  pub day : r.day < 31
  pub base : r.base ≤ 2808000
  pub two_calls : 2 ≤ length (run_calls calls r)
  pub in_order : DoNotFall (run_calls calls r)

-- the state after the trains of the runs were added one after another
abbrev pub pushed : List CallRow → List Run → State → State
pushed calls [] st = st
pushed calls (r ∷ rs) st = pushed calls rs (with_train (run_train calls r) st)
