-- Departures that a scan passes over, since they change nothing of what is known.
use Rattle.std.specs.Prelude.{ℕ, ◌<◌, List, [], ◌∷◌, Bool, ◌&&◌, not, nat_eq, nat_lt, if◌then◌else◌, Option, is_some, All, length}
use Rattle.dep_order.specs.declared.departure.Leaving.{Leaving}
use Rattle.conn_scan.specs.StopTimes.{is_by}
use Rattle.pareto_scan.specs.Levels.{top_at}
use Rattle.pareto_scan.specs.Riders.{riding}
use Rattle.pareto_scan.specs.Ridden.{Ridden, rider_at, still_riding}
use Rattle.pareto_scan.specs.declared.bound.Bound.{Bound}
use Rattle.pareto_scan.specs.declared.level.Level.{Level}
use Rattle.pareto_scan.specs.declared.riders.Rider.{Rider}

-- at departure d those who have taken fewer than `top` rides still board, and nobody rides on it
abbrev pub is_passed : ℕ → Ridden → Leaving → Bool
is_passed top s d = nat_eq (top_at s.levels d.time top) top && not (is_some (rider_at top d s))

-- these departures, from the first on of which that is not so
abbrev pub from_ridden : ℕ → Ridden → List Leaving → List Leaving
from_ridden top s [] = []
from_ridden top s (d ∷ ds) = if is_passed top s d then from_ridden top s ds else d ∷ ds

-- there are rows for the number and the stop of a departure
pub record HasRows (s : Ridden) (d : Leaving) : Type 0 where
  pub number : d.number < length s.riders
  pub stops : All (λ (v : Level). d.stop < length v.openings.times) s.levels

-- by what a scan has at hand: departure d is before the end of a bound, nobody is aboard there who
-- had taken fewer rides than it says, and nobody can board, by the times from which on stops are
-- open
abbrev pub is_quiet : Bound → List (Option ℕ) → List (Option Rider) → Leaving → Bool
is_quiet b times riders d =
    nat_lt d.time b.end
    && (not (is_some (still_riding b.top (riding riders d.number)))
    && not (is_by times d.stop d.time))
