-- What the words after the program's name ask for.
use Rattle.std.specs.Prelude.{ℕ, List, [], ◌∷◌, ◌&&◌, nat_le, if◌then◌else◌, Some, None, is_none, bytes_eq, codes, option_and_then}
use Rattle.std.specs.Option.{option_map_or}
use Rattle.std.specs.declared.option.Option.{Option}
use Rattle.clap.specs.Words.{App, Row, Text, fault_of, first_of, matches_of}
use Rattle.clap.specs.Walk.{is_empty}
use Rattle.mt_base.specs.Texts.{date_of}
use Rattle.gtfs_tables.specs.Fields.{number_of}
use Rattle.mt_base.specs.declared.options.Opts.{Opts}
use Rattle.service_zones.specs.Bases.{base_seconds, day_of_wrong_length}
use Rattle.service_zones.specs.Zones.{ZoneRules, utc}
use Rattle.service_zones.specs.ZoneTexts.{zone_of}
use Rattle.command_words.specs.Commands.{app_for}
use Rattle.command_words.specs.declared.words.Command.{Command}
use Rattle.command_words.specs.declared.words.Command.TheVariants.{Times, Serve, Check, Plans, Watch, Desk, Journal, Restart, Follow}

-- the command, the folder of the feed, the first service day as the number YYYYMMDD, how many
-- service days there are, the options of the timetable, how many workers answer queries, up to how
-- many rides plans have, the text of the zone in which service days begin, where one is given, and
-- this zone
pub record Asked : Type 0 where
  pub command : Command
  pub folder : Text
  pub first : ℕ
  pub days : ℕ
  pub opts : Opts
  pub workers : ℕ
  pub rides : ℕ
  pub zone_text : Option Text
  pub zone : ZoneRules

infixl 10 ◌>>=◌
-- the next step, where there is a value
abbrev pub ◌>>=◌ : {A B : Type 0} → Option A → (A → Option B) → Option B
x >>= next = option_and_then next x

-- the number, if it lies in the range
abbrev pub within : ℕ → ℕ → ℕ → Option ℕ
within least most n = if nat_le least n && nat_le n most then Some n else None

-- the value of an option: one to nine digits that spell a number in its range
abbrev pub number_within : Text → ℕ → ℕ → List Row → Option ℕ
number_within name least most given = first_of name given >>= number_of >>= within least most

-- the value of `--from`: eight digits that name a civil date of the years 1900 to 2100
abbrev pub first_date : List Row → Option ℕ
first_date given = first_of (codes "from") given >>= date_of >>= within 19000101 21001231

-- the options of the timetable, each in its range
abbrev pub options_of : List Row → Option Opts
options_of given =
    number_within (codes "slack") 0 50 given >>= λ slack.
    number_within (codes "stop") 0 3600 given >>= λ stop.
    number_within (codes "change") 1 3600 given >>= λ change.
    number_within (codes "window") 0 3600 given >>= λ window.
    number_within (codes "spare-trains") 0 2000 given >>= λ spare_trains.
    number_within (codes "spare-calls") 0 40000 given >>= λ spare_calls.
    number_within (codes "overrides") 0 100000 given >>= λ overrides.
    Some (record {
      slack = slack;
      stop = stop;
      change = change;
      window = window;
      spare_trains = spare_trains;
      spare_calls = spare_calls;
      overrides = overrides;
    })

-- the zone of a zone text, if it is one; where no text is given, universal time
abbrev pub zone_given : Option Text → Option ZoneRules
zone_given text = option_map_or zone_of text (Some utc)

-- up to how many rides plans have: the value of the option, one to nine digits that spell a number
-- from 1 to 8; where there is no such option, 4
abbrev pub rides_given : Option Text → Option ℕ
rides_given text = option_map_or (λ t. number_of t >>= within 1 8) text (Some 4)

-- the bases of the service days that are asked for, in seconds from that of day 0
abbrev pub asked_bases : Asked → List ℕ
asked_bases a = base_seconds a.zone a.first a.days

-- the command of this name, of those that read a feed
unfoldable pub command_of : Text → Option Command
command_of name = if bytes_eq name (codes "times") then Some Times
    else (if bytes_eq name (codes "serve") then Some Serve
    else (if bytes_eq name (codes "check") then Some Check
    else (if bytes_eq name (codes "plans") then Some Plans
    else (if bytes_eq name (codes "watch") then Some Watch
    else (if bytes_eq name (codes "desk") then Some Desk
    else (if bytes_eq name (codes "journal") then Some Journal
    else (if bytes_eq name (codes "restart") then Some Restart
    else (if bytes_eq name (codes "follow") then Some Follow else None))))))))

-- what the values of a command's arguments ask for
abbrev pub values_ask : Command → List Row → Option Asked
values_ask command given =
    first_of (codes "feed") given >>= λ folder.
    first_date given >>= λ first.
    number_within (codes "days") 1 31 given >>= λ days.
    options_of given >>= λ opts.
    number_within (codes "workers") 1 16 given >>= λ workers.
    rides_given (first_of (codes "rides") given) >>= λ rides.
    zone_given (first_of (codes "zone") given) >>= λ zone.
    if is_none (day_of_wrong_length zone first days) then Some (record {
      command = command;
      folder = folder;
      first = first;
      days = days;
      opts = opts;
      workers = workers;
      rides = rides;
      zone_text = first_of (codes "zone") given;
      zone = zone;
    }) else None

-- what these words ask of the command that clap reads as this app: clap reads them without a
-- fault, each value is well spelt and in its range, and no service day is too short or too long in
-- the zone
unfoldable pub command_asked : Command → App → List Text → Option Asked
command_asked command app words = if is_empty (fault_of app words)
    then values_ask command (matches_of app words) else None

-- what the words after the program's name ask for: the first is the name of the command
unfoldable pub asked_of : List Text → Option Asked
asked_of [] = None
asked_of (name ∷ rest) = command_of name >>= λ command.
    command_asked command (app_for command name) (name ∷ rest)
