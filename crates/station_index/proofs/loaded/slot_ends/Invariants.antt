use Rattle.station_index.proofs.SlotLemmas.{AreFilled}
use Rattle.station_index.proofs.loaded.slot_ends.Given as goal

-- the ends of the parts so far
abbrev pub invariant-loop-slot : goal.invariant-loop-slot
invariant-loop-slot l = AreFilled l.entries l.ends.items l.slot-counter
