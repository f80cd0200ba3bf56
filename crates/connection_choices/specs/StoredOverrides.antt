-- How stored overrides are seen, and what holds of them.
use Rattle.std.specs.Prelude.{◌≡◌, ℕ, List, length, refl, true}
use Rattle.std.specs.Coded.{Coded, code_by, coded×, coded_ℕ}
use Rattle.std.specs.FinMap.{FinMap, code, find, from_sorted, is_sorted}
use Rattle.delay_model.specs.declared.overrides.Connection.{Connection}
use Rattle.delay_model.specs.declared.overrides.Override.{Override}
use Rattle.delay_model.specs.Overrides.{connection_cmp, coded_connection, coded_override}
use Rattle.connection_choices.specs.declared.override_rows.End.TheVariants.{Departure}
use Rattle.connection_choices.specs.declared.override_table.OverrideTable.TheInside.{Inside}
use Rattle.connection_choices.specs.OverrideRows.{end_cmp}

-- what was chosen for connections, and for how many more there is room
pub record Overrides : Type 0 where
  pub choices : FinMap connection_cmp Override
  pub spare : ℕ

abbrev pub coded_overrides : Coded Overrides
coded_overrides =
    code_by (FinMap connection_cmp Override × ℕ)
    (coded× (code coded_connection coded_override) coded_ℕ) (λ o. (o.choices, o.spare))
    (λ p. record { choices = p.0; spare = p.1 }) (λ _. refl)

abbrev pub seen : Inside → Overrides
seen a = record { choices = from_sorted a.by_arrival.items; spare = a.by_arrival.room }

-- the same choices in the order of the arrivals and in that of the departures
pub record AreTurned (by_arrival by_departure : List (Connection × Override)) : Type 0 where
  pub sorted : is_sorted connection_cmp by_arrival ≡ true
  pub turned : is_sorted (end_cmp Departure) by_departure ≡ true
  pub same : (p : Connection) → find (end_cmp Departure) p by_departure
      ≡ find connection_cmp p by_arrival

-- there is the same room in both orders
pub record AreStored (a : Inside) : Type 0 where
  pub choices : AreTurned a.by_arrival.items a.by_departure.items
  pub count : length a.by_departure.items ≡ length a.by_arrival.items
  pub room : a.by_departure.room ≡ a.by_arrival.room
