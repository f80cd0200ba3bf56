-- Whether among stops that are reached no arrival is missing, on plain lists.
use Rattle.std.specs.Prelude.{ℕ, List, [], ◌∷◌, Bool, true, false, ◌&&◌, not, nat_lt, min, if◌then◌else◌, Option, Some, None, is_some, set}
use Rattle.std.specs.Option.{option_map_or}
use Rattle.mt_base.specs.declared.certificates.Reach.{Reach}
use Rattle.change_times.specs.ChangeTables.{ChangeTables}
use Rattle.change_times.specs.Reach.{reached}
use Rattle.dep_order.specs.declared.departure.Leaving.{Leaving}
use Rattle.journey_laws.specs.Checked.{is_early}
use Rattle.conn_scan.specs.Openings.{lowered}
use Rattle.conn_scan.specs.Scanned.{boarding, stayed}
use Rattle.conn_scan.specs.StopTimes.{is_by}
use Rattle.conn_scan.specs.declared.known.Known.{Known}

-- once it is known that a stop is reached: it is held, and passengers can board after the changes
-- from there
abbrev pub noted_one : ChangeTables → Reach → Known → Known
noted_one t x k =
    record k {
      openings = lowered x.time None (reached t x.stop) k.openings;
      held = set k.held x.stop (Some x.time);
    }

-- once it is known that these stops are reached
abbrev pub noted : ChangeTables → List Reach → Known → Known
noted t [] k = k
noted t (x ∷ xs) k = noted t xs (noted_one t x k)

-- the least of a time and those with which these stops are reached
abbrev pub first_time : ℕ → List Reach → ℕ
first_time time [] = time
first_time time (x ∷ xs) = first_time (min time x.time) xs

-- passengers may alight, at one of n stops, where the train of departure d arrives next, that is
-- before the best arrival, and nobody is held to be there by then
abbrev pub is_lacking : ℕ → Option ℕ → Leaving → List (Option ℕ) → Bool
is_lacking n best d held =
    nat_lt d.to n && (is_early best d.arrival && not (is_by held d.to d.arrival))

-- the arrival of passengers who ride on departure d is missing
abbrev pub is_missed : ℕ → Option ℕ → Leaving → Known → Bool
is_missed n best d k = is_some (boarding d k) && is_lacking n best d k.held

-- once those who ride on departure d stay aboard
abbrev pub passed : Leaving → Known → Known
passed d k = option_map_or (λ b. stayed b d k) (boarding d k) k

-- whether no arrival behind these departures is missing, up to the first that is not before the
-- best arrival
abbrev pub has_all : ℕ → Option ℕ → List Leaving → Known → Bool
has_all n best [] k = true
has_all n best (d ∷ ds) k =
    if is_early best d.time then
    (if is_missed n best d k then false else has_all n best ds (passed d k)) else true
