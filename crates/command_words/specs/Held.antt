-- What the words ask for, as it is held.
use Rattle.std.specs.Prelude.{◌≡◌, ◌≤◌, ◌<◌, None, option_map}
use Rattle.mt_base.specs.Civil.{IsCivil}
use Rattle.mt_base.specs.Options.{IsInRange}
use Rattle.service_zones.specs.Bases.{day_of_wrong_length}
use Rattle.command_words.specs.declared.words.Asked.{Asked as Held}
use Rattle.command_words.specs.Words.{Asked}

-- the same, with the texts that are lent
abbrev pub asked_view : Held → Asked
asked_view a = record {
  command = a.command;
  folder = a.folder.now;
  first = a.first;
  days = a.days;
  opts = a.opts;
  workers = a.workers;
  rides = a.rides;
  zone_text = option_map (λ text. text.now) a.zone_text;
  zone = a.zone;
}

-- each value of words that were read is in its range, and no service day is too short or too long
pub record IsInRanges (a : Held) : Type 0 where
  pub civil : IsCivil a.first
  pub year : a.first < 21010000
  pub days : (1 ≤ a.days) × (a.days ≤ 31)
  pub options : IsInRange a.opts
  pub workers : (1 ≤ a.workers) × (a.workers ≤ 16)
  pub rides : (1 ≤ a.rides) × (a.rides ≤ 8)
  pub lengths : day_of_wrong_length a.zone a.first a.days ≡ None
