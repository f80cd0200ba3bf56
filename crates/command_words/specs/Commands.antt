-- The commands as clap reads them.
use Rattle.std.specs.Prelude.{[], ◌∷◌, true, Some, codes, fold}
use Rattle.clap.specs.Words.{App, Rule, Text, new_app, new_rule, with_rule}
use Rattle.clap.specs.Simple.{on_top}
use Rattle.command_words.specs.declared.words.Command.{Command}
use Rattle.command_words.specs.declared.words.Command.TheVariants.{Times, Serve, Check, Plans, Watch, Desk, Journal, Restart, Follow}

-- the word `FEED`: the folder of the feed
abbrev pub feed_rule : Rule
feed_rule = record (new_rule (codes "feed")) { required = true }

-- `--from DATE`, which must be given
abbrev pub from_rule : Rule
from_rule = record (new_rule (codes "from")) { required = true; long = Some (codes "from") }

-- an option with a value, which has a default
abbrev pub option_rule : Text → Text → Rule
option_rule name default = record (new_rule name) { long = Some name; defaults = default ∷ [] }

-- `--zone TEXT`, which need not be given
abbrev pub zone_rule : Rule
zone_rule = record (new_rule (codes "zone")) { long = Some (codes "zone") }

-- a command without flags for help and version
abbrev pub bare_app : Text → App
bare_app name = on_top (λ s. record s { disable_help_flag = true; disable_version_flag = true })
    (new_app name)

-- `NAME FEED --from DATE` with the options that all commands have
unfoldable pub command_app : Text → App
command_app name = fold with_rule (bare_app name) (
    feed_rule
    ∷ from_rule
    ∷ option_rule (codes "days") (codes "1")
    ∷ option_rule (codes "slack") (codes "7")
    ∷ option_rule (codes "stop") (codes "60")
    ∷ option_rule (codes "change") (codes "180")
    ∷ option_rule (codes "window") (codes "1800")
    ∷ option_rule (codes "spare-trains") (codes "200")
    ∷ option_rule (codes "spare-calls") (codes "4000")
    ∷ option_rule (codes "overrides") (codes "10000")
    ∷ option_rule (codes "workers") (codes "4")
    ∷ zone_rule
    ∷ [])

-- with one more: up to how many rides plans have
unfoldable pub plans_app : Text → App
plans_app name = with_rule (command_app name) (option_rule (codes "rides") (codes "4"))

-- the command of this name as clap reads it
abbrev pub app_for : Command → Text → App
app_for Times name = command_app name
app_for Serve name = command_app name
app_for Check name = command_app name
app_for Plans name = plans_app name
app_for Watch name = command_app name
app_for Desk name = command_app name
app_for Journal name = command_app name
app_for Restart name = command_app name
app_for Follow name = command_app name

-- the word `N`: how many trains are made
abbrev pub trains_rule : Rule
trains_rule = record (new_rule (codes "N")) { required = true }

-- `gen N` with its option
unfoldable pub gen_app : App
gen_app = fold with_rule (bare_app (codes "gen")) (
    trains_rule
    ∷ option_rule (codes "workers") (codes "4")
    ∷ [])
