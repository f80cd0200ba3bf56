-- How loaded entries are seen, and what holds of them.
use Rattle.std.specs.Prelude.{◌<◌, ◌^◌, List, length}
use Rattle.mt_base.specs.declared.index_entries.Entry.{Entry}
use Rattle.station_index.specs.declared.loaded.LoadedEntries.TheInside.{Inside}
use Rattle.station_index.specs.Indexed.{AreInOrder}
use Rattle.station_index.specs.Slots.{AreEnds, rebuilt}

-- the entries, in order
abbrev pub loaded_entries : Inside → List Entry
loaded_entries a = rebuilt a.ends.items 0 a.events.items

-- they are in order, there are not too many, and the ends of their parts are known
pub record AreLoaded (a : Inside) : Type 0 where
  pub ends : AreEnds a.ends.items (length a.events.items)
  pub ordered : AreInOrder (loaded_entries a)
  pub few : length a.events.items < 2 ^ 32
