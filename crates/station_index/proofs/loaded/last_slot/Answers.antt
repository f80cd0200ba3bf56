use Rattle.station_index.proofs.Words.{length, sym}
use Rattle.station_index.proofs.SlotLemmas.{last-slot, some-from}
use Rattle.station_index.proofs.loaded.last_slot.Goals as goal

pub returns : goal.returns
returns c =
    rw c.slot_number.ensures (last-slot c.args.entries.now c.index-entries-entries.result c.requires (some-from (length c.args.entries.now) (sym c.if-is_empty.ensures)) c.index-entries-entries.is)
