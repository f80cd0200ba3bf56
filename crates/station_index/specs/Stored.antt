-- How a stored index is seen, and what holds of it.
use Rattle.std.specs.Prelude.{◌≡◌, List, ◌≤◌, length, true}
use Rattle.std.specs.List.{All, slice_index_or}
use Rattle.mt_base.specs.declared.index_entries.Entry.{Entry}
use Rattle.station_index.specs.declared.index.StationIndex.TheInside.{Inside}
use Rattle.station_index.specs.Indexed.{Indexed, AreInOrder}
use Rattle.station_index.specs.Merged.{kept, merged}
use Rattle.station_index.specs.Slots.{slot_of}

-- the live loaded entries and the added ones
abbrev pub all_entries : Inside → List Entry
all_entries a = merged (kept a.loaded a.live.items) a.added.items

-- they are seen, and for how many more there is room
abbrev pub seen : Inside → Indexed
seen a = record { entries = all_entries a; spare = a.spare }

-- the entries are in order, each loaded one has its flag, the stop and kind of each added one are
-- noted, and there is room for the spare ones
pub record IsStored (a : Inside) : Type 0 where
  pub loaded : AreInOrder a.loaded
  pub flags : length a.live.items ≡ length a.loaded
  pub added : AreInOrder a.added.items
  pub ordered : AreInOrder (all_entries a)
  pub ever_added : All (λ e. slice_index_or a.ever_added.items (slot_of e) true ≡ true)
      a.added.items
  pub room : a.spare ≤ a.added.room
