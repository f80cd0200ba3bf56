-- Words that give no option ask for the default options.
use Rattle.std.specs.Prelude.{◌≡◌, List, [], ◌∷◌, None, Some, codes}
use Rattle.clap.specs.Words.{Text}
use Rattle.service_zones.specs.Zones.{utc}
use Rattle.command_words.specs.declared.words.Command.{Command}
use Rattle.command_words.specs.declared.words.Command.TheVariants.{Times, Serve, Check, Plans, Watch, Desk, Journal, Restart, Follow}
use Rattle.command_words.specs.GenWords.{default_options}
use Rattle.command_words.specs.Words.{Asked, asked_of}

-- `NAME feed --from 20260105`
abbrev pub words_without_options : Text → List Text
words_without_options name = name ∷ codes "feed" ∷ codes "--from" ∷ codes "20260105" ∷ []

-- what they ask for
abbrev pub asked_by_default : Command → Asked
asked_by_default command = record {
  command = command;
  folder = codes "feed";
  first = 20260105;
  days = 1;
  opts = default_options;
  workers = 4;
  rides = 4;
  zone_text = None;
  zone = utc;
}

abbrev pub DefaultsAreAsked : Type 0
DefaultsAreAsked =
    (asked_of (words_without_options (codes "times")) ≡ Some (asked_by_default Times))
    × (asked_of (words_without_options (codes "serve")) ≡ Some (asked_by_default Serve))
    × (asked_of (words_without_options (codes "check")) ≡ Some (asked_by_default Check))
    × (asked_of (words_without_options (codes "plans")) ≡ Some (asked_by_default Plans))
    × (asked_of (words_without_options (codes "watch")) ≡ Some (asked_by_default Watch))
    × (asked_of (words_without_options (codes "desk")) ≡ Some (asked_by_default Desk))
    × (asked_of (words_without_options (codes "journal")) ≡ Some (asked_by_default Journal))
    × (asked_of (words_without_options (codes "restart")) ≡ Some (asked_by_default Restart))
    × (asked_of (words_without_options (codes "follow")) ≡ Some (asked_by_default Follow))
