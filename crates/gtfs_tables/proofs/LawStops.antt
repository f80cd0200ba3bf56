-- What the rows of `stops.txt` keep: a `parent_station` is a station, and no two have one id.
use Rattle.gtfs_tables.proofs.Words.{◌≡◌, ℕ, zero, suc, ◌+◌, List, [], ◌∷◌, ◌++◌, Option, IfSome, Ok, All, map, true, refl, subst, arith, append_assoc, append-nil, map_push, All-nil, All-push, All-weaker, Platform, StopRow, AreDistinct, HasKind, Column, table_from, line_ids, with_stations, stop_ids}
use Rattle.mt_base.specs.declared.places.PlaceKind.{PlaceKind}
use Rattle.mt_base.specs.declared.places.PlaceKind.TheVariants.{Station}
use Rattle.mt_base.specs.Places.{is_platform}
use Rattle.feed_tables.specs.Lawful.{IsLocation}
use Rattle.gtfs_tables.specs.declared.stops.StopLine.{StopLine}
use Rattle.gtfs_tables.specs.Stops.{stop_columns, stop_step, has_station, parent_of, stops_of}
use Rattle.gtfs_tables.proofs.LawNames.{ids-push}
use Rattle.gtfs_tables.proofs.LawSteps.{bind-ok, ok-same, table-keeps}

-- ---- the rows by themselves

line-added : (row : ℕ) (field : Column → List ℕ) (lines next : List StopLine) → stop_step row field lines ≡ Ok next → AreDistinct (line_ids lines) → AreDistinct (line_ids next)
line-added row field lines next h k = grind (arith, ids-push (λ (line : StopLine). line.id) lines)

-- ---- their stations

pub platform-is : (kind : PlaceKind) → is_platform kind ≡ true → kind ≡ Platform
platform-is kind h = grind arith

-- a `parent_station` stands at a stop or platform and is a station of the rows
record IsPlaced (lines : List StopLine) (row : StopRow) : Type 0 where
  pub parent : IfSome row.parent (λ n. (row.kind ≡ Platform) × (has_station lines n ≡ true))

parent-found : (lines : List StopLine) (row : ℕ) (line : StopLine) (parent : Option ℕ) → parent_of lines row line ≡ Ok parent → IfSome parent (λ n. (line.kind ≡ Platform) × (has_station lines n ≡ true))
parent-found lines row line parent h = grind (arith, platform-is line.kind)

-- the rows with their stations have the ids and kinds of the rows by themselves
record AreAlong (lines before : List StopLine) (rows : List StopRow) : Type 0 where
  pub ids : stop_ids rows ≡ line_ids before
  pub kinds : map (λ (row : StopRow). row.kind) rows ≡ map (λ (line : StopLine). line.kind) before
  pub placed : All (IsPlaced lines) rows

along : (lines before : List StopLine) (row : ℕ) (rows last : List StopRow) (rest : List StopLine) → with_stations lines row rows rest ≡ Ok last → AreAlong lines before rows → AreAlong lines (before ++ rest) last
unfolding with_stations
along lines before row rows last [] h a = rw append-nil (subst (AreAlong lines before) (ok-same h) a)
along lines before row rows last (line ∷ rest) h a =
    grind (
      arith,
      map_push (λ (row : StopRow). row.id) rows,
      map_push (λ (line : StopLine). line.id) before,
      map_push (λ (row : StopRow). row.kind) rows,
      map_push (λ (line : StopLine). line.kind) before,
      All-push (IsPlaced lines) rows,
      parent-found lines row,
      append_assoc before (line ∷ []) rest,
      λ (r : List StopRow). along lines (before ++ line ∷ []) (row + 1) r last rest,
    )

station-kept : (lines : List StopLine) (stops : List StopRow) (n : ℕ) → map (λ (row : StopRow). row.kind) stops ≡ map (λ (line : StopLine). line.kind) lines → has_station lines n ≡ true → HasKind stops Station n
station-kept [] stops n e h = absurd (cc h)
station-kept (line ∷ lines) [] n e h = absurd (cc e)
station-kept (line ∷ lines) (stop ∷ stops) zero e h = grind arith
station-kept (line ∷ lines) (stop ∷ stops) (suc n) e h = station-kept lines stops n (cc e) h

-- the stops of a table without a fault
pub record AreStops (stops : List StopRow) : Type 0 where
  pub ids : AreDistinct (stop_ids stops)
  pub locations : All (IsLocation stops) stops

pub stops-keep : (all : List (List (List ℕ))) (stops : List StopRow) → stops_of all ≡ Ok stops → AreStops stops
unfolding stops_of AreDistinct
stops-keep all stops h =
    let p = bind-ok (table_from stop_columns stop_step [] all) (λ lines. with_stations lines 2 [] lines) stops h in
    let lines : List StopLine = p.0 in
    let read = table-keeps (λ (ls : List StopLine). AreDistinct (line_ids ls)) stop_step line-added stop_columns [] lines all p.1 tt in
    let a = along lines [] 2 [] stops lines p.2 (record { ids = refl; kinds = refl; placed = All-nil (IsPlaced lines) }) in
    record {
      ids = rw a.ids read;
      locations = All-weaker (IsPlaced lines) (IsLocation stops) (λ row placed. grind (arith, station-kept lines stops)) stops a.placed;
    }
