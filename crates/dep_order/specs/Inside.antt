-- How the departures in their order are seen, and what holds of what is stored.
use Rattle.std.specs.Prelude.{◌≡◌, ℕ, ◌≤◌, None, Some, length}
use Rattle.dep_order.specs.declared.departure.Departure.{Departure}
use Rattle.dep_order.specs.declared.order.DepartureOrder.TheInside.{Inside}
use Rattle.dep_order.specs.CallNumbering.{labels_of, number_at}
use Rattle.dep_order.specs.Departing.{departures_in_order, held}
use Rattle.dep_order.specs.Ordered.{Ordered}

abbrev pub seen : Inside → Ordered
seen a = record {
  departures = departures_in_order a.numbered.entries;
  entries = a.numbered.entries;
  onwards = a.numbered.onwards;
  used = a.used;
  labels = labels_of a.numbers;
  spare_trains = a.numbers.spare_trains;
  spare_calls = a.numbers.spare_calls;
}

-- the number of each departure is noted at its call
pub record IsOrdered (a : Inside) : Type 0 where
  pub noted : (i : ℕ) (d : Departure) → held a.numbered.entries i ≡ Some d
      → number_at a.numbers d.key.train d.key.label ≡ Some i
  pub within : a.used ≤ length a.numbered.entries
  pub unused : (n : ℕ) → a.used ≤ n → held a.numbered.entries n ≡ None
