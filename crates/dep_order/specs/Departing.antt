-- Departures by number, and the order in which they take place.
use Rattle.std.specs.Prelude.{ℕ, List, [], ◌∷◌, Bool, Option, None, Some, slice_get, refl}
use Rattle.std.specs.Coded.{Coded, code_by, coded×, coded_ℕ}
use Rattle.std.specs.Option.{option_map_or}
use Rattle.std.specs.declared.cmp.Ordering.{Ordering}
use Rattle.std.specs.Ordering.{nat_cmp, ordering_then, is_lt}
use Rattle.mt_base.specs.declared.keys.Key.{Key}
use Rattle.mt_base.specs.contracts.keys.Key.{the_row as key_row}
use Rattle.mt_base.specs.Order.{key_cmp}
use Rattle.mt_base.specs.Sorted.{in_order}
use Rattle.dep_order.specs.declared.departure.Departure.{Departure}

-- a departure as its fields
abbrev pub coded_departure : Coded Departure
coded_departure =
    code_by (ℕ × (Key × ℕ)) (coded× coded_ℕ (coded× key_row.coded coded_ℕ))
    (λ d. (d.time, (d.key, d.stop)))
    (λ p. record { time = p.0; key = p.1.0; stop = p.1.1 }) (λ _. refl)

-- the order of departures: by time, and then by key, of which no two are the same
abbrev pub departure_cmp : Departure → Departure → Ordering
departure_cmp a b =
    ordering_then (nat_cmp a.time b.time)
    (ordering_then (key_cmp a.key b.key) (nat_cmp a.stop b.stop))

-- departure a takes place before departure b, or stands before it in the same second
unfoldable pub leaves_before : Departure → Departure → Bool
leaves_before a b = is_lt (departure_cmp a b)

-- the departure that has a number, if there is one
abbrev pub held : List (Option Departure) → ℕ → Option Departure
held es number = option_map_or (λ entry. entry) (slice_get es number) None

-- the departures that are there
abbrev pub departures_of : List (Option Departure) → List Departure
departures_of [] = []
departures_of (None ∷ es) = departures_of es
departures_of (Some d ∷ es) = d ∷ departures_of es

-- they in the order in which they take place
abbrev pub departures_in_order : List (Option Departure) → List Departure
departures_in_order es = in_order leaves_before (departures_of es)
