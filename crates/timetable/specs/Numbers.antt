-- What becomes of the numbers of departures where some are taken out, moved and put in.
use Rattle.std.specs.Prelude.{◌≡◌, ◌≢◌, ℕ, ◌⊎◌, ◌≤◌, List, true, Some, length}
use Rattle.std.specs.Option.{option_map}
use Rattle.mt_base.specs.declared.keys.Node.{Node}
use Rattle.dep_order.specs.declared.departure.Departure.{Departure}
use Rattle.dep_order.specs.Departing.{held}
use Rattle.dep_order.specs.Ordered.{KeepsRoom, Ordered}
use Rattle.timetable.specs.Moved.{is_of_none}

-- departures were taken out: each that is left has its number still, and so has each that is of
-- none of these events
pub record AreLeft (gone : List Node) (before now : Ordered) : Type 0 where
  pub left : (n : ℕ) (d : Departure) → held now.entries n ≡ Some d → held before.entries n ≡ Some d
  pub stays : (n : ℕ) (d : Departure) → held before.entries n ≡ Some d
      → is_of_none gone d ≡ true → held now.entries n ≡ Some d
  pub lengths : length now.entries ≡ length before.entries
  pub used : now.used ≡ before.used
  pub onwards : now.onwards ≡ before.onwards

-- the departure that had the number before has this key
pub record HadNumber (before : Ordered) (n : ℕ) (d : Departure) : Type 0 where
  pub departure : Departure
  pub held_before : held before.entries n ≡ Some departure
  pub key : departure.key ≡ d.key

-- the number was not given before, and no departure had this key
pub record GotNumber (before : Ordered) (n : ℕ) (d : Departure) : Type 0 where
  pub fresh : before.used ≤ n
  pub new_key : (i : ℕ) (e : Departure) → held before.entries i ≡ Some e → e.key ≢ d.key

-- departures were moved and put in: each has its number still, or a new one
pub record AreMoved (before now : Ordered) : Type 0 where
  pub kept : (n : ℕ) (d : Departure) → held now.entries n ≡ Some d
      → HadNumber before n d ⊎ GotNumber before n d
  pub stays : (n : ℕ) (d : Departure) → held before.entries n ≡ Some d
      → option_map (λ (e : Departure). e.key) (held now.entries n) ≡ Some d.key
  pub lengths : length now.entries ≡ length before.entries
  pub used : before.used ≤ now.used
  pub onwards : now.onwards ≡ before.onwards
  pub room : KeepsRoom before now
