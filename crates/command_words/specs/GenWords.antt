-- What the words after the program's name ask for, where the first of them is `gen`.
use Rattle.std.specs.Prelude.{List, [], ◌∷◌, Bool, false, if◌then◌else◌, Some, None, bytes_eq, codes}
use Rattle.std.specs.declared.option.Option.{Option}
use Rattle.mt_base.specs.declared.options.Opts.{Opts}
use Rattle.clap.specs.Words.{Row, Text, fault_of, matches_of}
use Rattle.clap.specs.Walk.{is_empty}
use Rattle.command_words.specs.Commands.{gen_app}
use Rattle.command_words.specs.Words.{◌>>=◌, number_within}
use Rattle.command_words.specs.declared.gen_words.AskedGen.{AskedGen}

-- the options of the timetable where none is given
abbrev pub default_options : Opts
default_options = record {
  slack = 7;
  stop = 60;
  change = 180;
  window = 1800;
  spare_trains = 200;
  spare_calls = 4000;
  overrides = 10000;
}

-- the first word is `gen`
abbrev pub is_gen : List Text → Bool
is_gen [] = false
is_gen (name ∷ rest) = bytes_eq name (codes "gen")

-- what the values of its arguments ask for: 1 to 100,000 trains, and 1 to 16 workers
abbrev pub gen_values_ask : List Row → Option AskedGen
gen_values_ask given =
    number_within (codes "N") 1 100000 given >>= λ trains.
    number_within (codes "workers") 1 16 given >>= λ workers.
    Some (record { trains = trains; workers = workers })

-- what these words ask for: clap reads them without a fault, and each value is well spelt and in
-- its range
unfoldable pub gen_asked_of : List Text → Option AskedGen
gen_asked_of words =
    if is_gen words then (
    if is_empty (fault_of gen_app words) then gen_values_ask (matches_of gen_app words)
    else None) else None
