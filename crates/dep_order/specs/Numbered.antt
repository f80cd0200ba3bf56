-- How departures by number are seen, and what holds of them.
use Rattle.dep_order.specs.declared.numbered.NumberedDepartures.TheInside.{Inside}
use Rattle.dep_order.specs.Held.{Numbered}
use Rattle.dep_order.specs.Stored.{AreKept, entries_of, onwards_of}

abbrev pub seen : Inside → Numbered
seen a = record { entries = entries_of a.lists; onwards = onwards_of a.lists }

abbrev pub AreNumbered : Inside → Type 0
AreNumbered a = AreKept a.lists
