-- The scan, on plain lists: what is known once departures are scanned, one after the other.
use Rattle.std.specs.Prelude.{◌≡◌, ℕ, ◌<◌, ◌≤◌, List, [], ◌∷◌, Bool, true, false, ◌&&◌, not, nat_eq, nat_le, nat_lt, if◌then◌else◌, Option, Some, None, length, set}
use Rattle.std.specs.Option.{option_map_or, option_or}
use Rattle.mt_base.specs.declared.journeys.Query.{Query}
use Rattle.change_times.specs.ChangeTables.{ChangeTables}
use Rattle.change_times.specs.Reach.{reached}
use Rattle.delay_model.specs.Changes.{station}
use Rattle.dep_order.specs.declared.departure.Leaving.{Leaving}
use Rattle.conn_scan.specs.Aboard.{boarding_at}
use Rattle.conn_scan.specs.Openings.{lowered}
use Rattle.conn_scan.specs.StopTimes.{is_by}
use Rattle.conn_scan.specs.declared.known.Ending.{Ending}
use Rattle.conn_scan.specs.declared.known.Known.{Known}
use Rattle.conn_scan.specs.declared.stop_rides.Stretch.{Stretch}

-- place b is of the destination's station
abbrev pub ends_there : ChangeTables → Query → ℕ → Bool
ends_there t q b = nat_eq (station t.stops b) (station t.stops q.to_stop)

-- the best arrival is not after a time
abbrev pub is_there_by : Option Ending → ℕ → Bool
is_there_by best time = option_map_or (λ (e : Ending). nat_le e.time time) best false

-- a time is before the best arrival
abbrev pub is_before : ℕ → Option Ending → Bool
is_before time best = option_map_or (λ (e : Ending). nat_lt time e.time) best true

-- the number of the departure where passengers boarded who ride on departure d: those that are
-- aboard stay aboard, and else they board here if they can
abbrev pub boarding : Leaving → Known → Option ℕ
boarding d k =
    option_or (boarding_at k.aboard d.number)
    (if is_by k.openings.times d.stop d.time then Some d.number else None)

-- passengers may alight where the train of departure d arrives next, at one of so many stops, and
-- none has arrived there by then
abbrev pub is_first_arrival : ℕ → Leaving → Known → Bool
is_first_arrival stops d k = nat_lt d.to stops && not (is_by k.held d.to d.arrival)

-- the best arrival, once that of this ride is known
abbrev pub better : ChangeTables → Query → Leaving → Stretch → Option Ending → Option Ending
better t q d r best =
    if ends_there t q d.to && is_before d.arrival best
    then Some (record { time = d.arrival; ride = r }) else best

-- once passengers arrived where the train of departure d arrives next, by this ride
abbrev pub arrived : ChangeTables → Query → Leaving → Stretch → Known → Known
arrived t q d r k =
    record {
      openings = lowered d.arrival (Some r) (reached t d.to) k.openings;
      held = set k.held d.to (Some d.arrival);
      aboard = k.aboard;
      best = better t q d r k.best;
    }

-- departure d, where those are aboard who boarded at the departure of number b
abbrev pub ride_by : ℕ → Leaving → Stretch
ride_by b d = record { first = b; last = d.number }

-- once they stay aboard
abbrev pub stayed : ℕ → Leaving → Known → Known
stayed b d k = record k { aboard = set k.aboard d.next (Some b) }

-- once they rode on to the next arrival
abbrev pub rode : ChangeTables → Query → ℕ → Leaving → Known → Known
rode t q b d k =
    if is_first_arrival (length t.stops) d k then arrived t q d (ride_by b d) (stayed b d k)
    else stayed b d k

-- once a departure is scanned
abbrev pub departed : ChangeTables → Query → Leaving → Known → Known
departed t q d k = option_map_or (λ b. rode t q b d k) (boarding d k) k

-- once these departures are scanned, up to the first that is not before the best arrival
abbrev pub scanned : ChangeTables → Query → List Leaving → Known → Known
scanned t q [] k = k
scanned t q (d ∷ ds) k =
    if is_there_by k.best d.time then k else scanned t q ds (departed t q d k)

-- there are rows for so many stops and the number past all of them, and for so many numbers of
-- departures and the one past all of them
pub record HasRoomFor (stops numbers : ℕ) (k : Known) : Type 0 where
  pub held : stops ≤ length k.held
  pub times : stops < length k.openings.times
  pub rides : stops < length k.openings.rides
  pub aboard : numbers < length k.aboard

-- the numbers of a departure are within these
pub record IsWithin (stops numbers : ℕ) (d : Leaving) : Type 0 where
  pub number : d.number < numbers
  pub next : d.next ≤ numbers
  pub stop : d.stop ≤ stops

-- there are as many rows as before
pub record HasSameRoom (old new : Known) : Type 0 where
  pub held : length new.held ≡ length old.held
  pub times : length new.openings.times ≡ length old.openings.times
  pub rides : length new.openings.rides ≡ length old.openings.rides
  pub aboard : length new.aboard ≡ length old.aboard
