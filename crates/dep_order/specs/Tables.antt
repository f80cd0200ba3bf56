-- How the two parts of slots are seen as slots.
use Rattle.std.specs.Prelude.{◌≡◌, List, [], ◌∷◌, length}
use Rattle.dep_order.specs.declared.slot_table.Cold.{Cold}
use Rattle.dep_order.specs.declared.slot_table.Hot.{Hot}
use Rattle.dep_order.specs.declared.slot_table.SlotTable.TheInside.{Inside}
use Rattle.dep_order.specs.Slots.{Slot}

-- a slot of its two parts
abbrev pub slot_of : Hot → Cold → Slot
slot_of h c = record {
  time = h.time;
  stop = h.stop;
  arrival = h.arrival;
  to = h.to;
  next = h.next;
  after = h.after;
  scheduled = c.scheduled;
  train = c.train;
  label = c.label;
  before = c.before;
}

-- slots of their parts, one by one
abbrev pub joined : List Hot → List Cold → List Slot
joined [] cs = []
joined (h ∷ hs) [] = []
joined (h ∷ hs) (c ∷ cs) = slot_of h c ∷ joined hs cs

abbrev pub seen : Inside → List Slot
seen a = joined a.hot.items a.cold.items

-- there are as many of the one as of the other
abbrev pub ArePaired : Inside → Type 0
ArePaired a = length a.hot.items ≡ length a.cold.items
