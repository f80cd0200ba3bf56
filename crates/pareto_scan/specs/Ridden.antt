-- The scan for all numbers of rides at once, on plain lists: what is known once departures are
-- scanned, one after the other.
use Rattle.std.specs.Prelude.{ℕ, ◌+◌, List, [], ◌∷◌, nat_eq, nat_lt, min, if◌then◌else◌, Option, Some, None, length, set}
use Rattle.std.specs.Option.{option_map, option_map_or, option_or}
use Rattle.mt_base.specs.declared.journeys.Query.{Query}
use Rattle.change_times.specs.ChangeTables.{ChangeTables}
use Rattle.dep_order.specs.declared.departure.Leaving.{Leaving}
use Rattle.conn_scan.specs.Scanned.{ride_by}
use Rattle.pareto_scan.specs.Levels.{arrived_from, first_open, top_at}
use Rattle.pareto_scan.specs.Riders.{riding}
use Rattle.pareto_scan.specs.declared.level.Level.{Level}
use Rattle.pareto_scan.specs.declared.riders.Rider.{Rider}

-- what a scan knows: by the number of rides where passengers can board and have arrived, and who is
-- aboard where
pub record Ridden : Type 0 where
  pub levels : List Level
  pub riders : List (Option Rider)

abbrev pub known : List Level → List (Option Rider) → Ridden
known levels riders = record { levels = levels; riders = riders }

-- after fewer than how many rides passengers may board who are to have taken fewer than those
-- aboard
abbrev pub below_of : ℕ → Option Rider → ℕ
below_of top aboard = option_map_or (λ (r : Rider). min r.rides top) aboard top

-- those aboard, if they had taken fewer rides
abbrev pub still_riding : ℕ → Option Rider → Option Rider
still_riding top None = None
still_riding top (Some r) = if nat_lt r.rides top then Some r else None

-- those who board at departure d after so many rides
abbrev pub boarding : Leaving → ℕ → Rider
boarding d rides = record { boarded = d.number; rides = rides }

-- who rides on departure d, of those who had taken fewer than `top` rides: those who board there,
-- if they have taken fewer rides than those aboard, and else those aboard
abbrev pub rider_at : ℕ → Leaving → Ridden → Option Rider
rider_at top d s =
    let aboard = riding s.riders d.number in
    option_or (option_map (boarding d) (first_open s.levels d (below_of top aboard)))
    (still_riding top aboard)

-- once they rode on to the next arrival
abbrev pub rode : ChangeTables → Query → Rider → Leaving → Ridden → Ridden
rode t q r d s =
    record {
      levels = if nat_lt d.to (length t.stops)
          then arrived_from (r.rides + 1) t q d (ride_by r.boarded d) s.levels else s.levels;
      riders = set s.riders d.next (Some r);
    }

-- once a departure is scanned
abbrev pub departed : ChangeTables → Query → ℕ → Leaving → Ridden → Ridden
departed t q top d s = option_map_or (λ r. rode t q r d s) (rider_at top d s) s

-- once these departures are scanned, at which those board who have taken fewer than `top` rides, up
-- to the first where nobody boards any more
abbrev pub scanned : ChangeTables → Query → ℕ → List Leaving → Ridden → Ridden
scanned t q top [] s = s
scanned t q top (d ∷ ds) s =
    let now = top_at s.levels d.time top in
    if nat_eq now 0 then s else scanned t q now ds (departed t q now d s)
