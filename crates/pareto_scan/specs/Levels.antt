-- What is known of passengers who have taken 0, 1, 2, .. rides at most, on plain lists.
use Rattle.std.specs.Prelude.{◌≡◌, ℕ, zero, suc, ◌≤◌, ◌<◌, List, [], ◌∷◌, Bool, true, false, if◌then◌else◌, Option, Some, None, All, get_or, length, set}
use Rattle.mt_base.specs.declared.journeys.Query.{Query}
use Rattle.change_times.specs.ChangeTables.{ChangeTables}
use Rattle.change_times.specs.Reach.{reached}
use Rattle.dep_order.specs.declared.departure.Leaving.{Leaving}
use Rattle.conn_scan.specs.Begun.{begun, cleared}
use Rattle.conn_scan.specs.Openings.{lowered}
use Rattle.conn_scan.specs.Scanned.{better, is_there_by}
use Rattle.conn_scan.specs.StopTimes.{is_by}
use Rattle.conn_scan.specs.declared.known.Known.{Known}
use Rattle.conn_scan.specs.declared.stop_rides.Stretch.{Stretch}
use Rattle.pareto_scan.specs.declared.level.Level.{Level}

-- stands for what is known after more rides than there are
abbrev pub blank_level : Level
blank_level =
    record { openings = record { times = []; rides = [] }; held = []; best = None }

-- what is known after at most so many rides
abbrev pub level_at : List Level → ℕ → Level
level_at levels rides = get_or levels rides blank_level

-- there are rows for so many stops and the number past all of them
pub record HasLevelRoom (stops : ℕ) (v : Level) : Type 0 where
  pub held : stops ≤ length v.held
  pub times : stops < length v.openings.times
  pub rides : stops < length v.openings.rides

-- there are as many, with rows for as many stops as before
pub record KeepsRoom (old new : List Level) : Type 0 where
  pub rows : (stops : ℕ) → All (HasLevelRoom stops) old → All (HasLevelRoom stops) new
  pub count : length new ≡ length old

-- ---- who may take more rides

-- something follows
abbrev pub is_more : List Level → Bool
is_more [] = false
is_more (v ∷ vs) = true

-- what is known after one ride more than so many is kept too
abbrev pub has_more : List Level → ℕ → Bool
has_more [] rides = false
has_more (v ∷ vs) zero = is_more vs
has_more (v ∷ vs) (suc rides) = has_more vs rides

-- ---- before the first departure

-- as a scan for the earliest arrival knows it, with nobody aboard
abbrev pub as_known : Level → Known
as_known v = record { openings = v.openings; held = v.held; aboard = None ∷ []; best = v.best }

-- where passengers of the query can board without a ride, if they may take a ride more, and nothing
-- else
abbrev pub begun_level : ChangeTables → Query → Bool → Level → Level
begun_level t q more v =
    let k = begun t q (as_known v) in
    record {
      openings = if more then k.openings else (cleared (as_known v)).openings;
      held = k.held;
      best = k.best;
    }

-- the same after any number of rides
abbrev pub begun_levels : ChangeTables → Query → List Level → List Level
begun_levels t q [] = []
begun_levels t q (v ∷ vs) = begun_level t q (is_more vs) v ∷ begun_levels t q vs

-- ---- an arrival

-- once a ride arrived where the train of departure d arrives next; where passengers may take a ride
-- more, they can board behind it
abbrev pub arrived : ChangeTables → Query → Leaving → Stretch → Bool → Level → Level
arrived t q d r more v =
    record {
      openings = if more then lowered d.arrival (Some r) (reached t d.to) v.openings
          else v.openings;
      held = set v.held d.to (Some d.arrival);
      best = better t q d r v.best;
    }

-- the same one ride after the other, up to the first where the arrival is not earlier
abbrev pub arrived_on : ChangeTables → Query → Leaving → Stretch → List Level → List Level
arrived_on t q d r [] = []
arrived_on t q d r (v ∷ vs) =
    if is_by v.held d.to d.arrival then v ∷ vs
    else arrived t q d r (is_more vs) v ∷ arrived_on t q d r vs

-- the same from so many rides on
abbrev pub arrived_from : ℕ → ChangeTables → Query → Leaving → Stretch → List Level
    → List Level
arrived_from zero t q d r vs = arrived_on t q d r vs
arrived_from (suc rides) t q d r [] = []
arrived_from (suc rides) t q d r (v ∷ vs) = v ∷ arrived_from rides t q d r vs

-- ---- a boarding

-- one can board at departure d after so many rides
abbrev pub opens : List Level → Leaving → ℕ → Bool
opens levels d rides = is_by (level_at levels rides).openings.times d.stop d.time

-- the least number of rides from which on, up to this one, one can board at departure d
abbrev pub least_open : List Level → Leaving → ℕ → ℕ
least_open levels d zero = zero
least_open levels d (suc rides) =
    if opens levels d rides then least_open levels d rides else suc rides

-- after how few rides one can board at departure d, if one can after fewer than so many. Since with
-- more rides nobody is anywhere later, one can board after each number of rides from there on
abbrev pub first_open : List Level → Leaving → ℕ → Option ℕ
first_open levels d zero = None
first_open levels d (suc rides) =
    if opens levels d rides then Some (least_open levels d rides) else None

-- the greatest number of rides up to this one with which the best arrival is after a time, or there
-- is none; 0 if there is no such number. Passengers board then who have taken fewer rides
abbrev pub top_at : List Level → ℕ → ℕ → ℕ
top_at levels time zero = zero
top_at levels time (suc rides) =
    if is_there_by (level_at levels (suc rides)).best time then top_at levels time rides
    else suc rides
