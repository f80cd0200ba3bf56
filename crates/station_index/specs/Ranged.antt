-- How a range is seen, and what holds of it.
use Rattle.std.specs.Prelude.{◌≡◌, List, map, length}
use Rattle.mt_base.specs.declared.index_entries.Entry.{Entry}
use Rattle.station_index.specs.declared.range.Range.TheInside.{Inside}
use Rattle.station_index.specs.Indexed.{AreInOrder}
use Rattle.station_index.specs.Merged.{kept, merged}
use Rattle.station_index.specs.Slots.{entry_of}

-- the entries of the loaded events
abbrev pub loaded_left : Inside → List Entry
loaded_left s = map (entry_of s.stop s.dep) s.loaded.now

-- the live loaded entries and the added ones, in their order
abbrev pub entries_left : Inside → List Entry
entries_left s = merged (kept (loaded_left s) s.live.now) s.added

-- both lists are in order, and each loaded entry has its flag
pub record IsRange (s : Inside) : Type 0 where
  pub loaded : AreInOrder (loaded_left s)
  pub flags : length s.live.now ≡ length s.loaded.now
  pub added : AreInOrder s.added
