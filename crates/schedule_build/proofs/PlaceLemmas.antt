-- Places by their ids and their kinds.
use Rattle.schedule_build.proofs.Words.{◌≡◌, ◌+◌, ◌<◌, ◌≤◌, ◌∷◌, [], ℕ, zero, suc, List, Some, None, get_or, length, map, refl, arith, ap, bytes_eq, slice_index_or, number_from, Place, place_of_row}
use Rattle.std.specs.Option.{option_map, option_map_or}
use Rattle.std.specs.Prelude.{slice_get}
use Rattle.mt_base.specs.declared.places.PlaceKind.{PlaceKind}
use Rattle.mt_base.specs.declared.tables.StopRow.{StopRow}
use Rattle.schedule_build.specs.Stored.{number_of_name, number_of_place, seen_places}

-- the number of a place is that of its id
places-from : (at : ℕ) (ids : List (List ℕ)) (kinds : List PlaceKind) (id : List ℕ) → length kinds ≡ length ids → number_from at (λ (p : Place). bytes_eq p.id id) (seen_places ids kinds) ≡ number_from at (λ n. bytes_eq n id) ids
places-from at [] kinds id h = refl
places-from at (i ∷ ids) [] id h = absurd (omega arith)
places-from at (i ∷ ids) (k ∷ kinds) id h = rw (places-from (at + 1) ids kinds id (omega arith)) refl

pub place-number : (ids : List (List ℕ)) (kinds : List PlaceKind) (id : List ℕ) → length kinds ≡ length ids → number_of_place (seen_places ids kinds) id ≡ number_of_name ids id
place-number ids kinds id h = places-from 0 ids kinds id h

pub kind-at : (ids : List (List ℕ)) (kinds : List PlaceKind) (n : ℕ) → length kinds ≡ length ids → option_map (λ (p : Place). p.kind) (slice_get (seen_places ids kinds) n) ≡ slice_get kinds n
kind-at [] [] n h = refl
kind-at [] (k ∷ kinds) n h = absurd (omega arith)
kind-at (i ∷ ids) [] n h = absurd (omega arith)
kind-at (i ∷ ids) (k ∷ kinds) zero h = refl
kind-at (i ∷ ids) (k ∷ kinds) (suc n) h = kind-at ids kinds n (omega arith)

pub id-at : (ids : List (List ℕ)) (kinds : List PlaceKind) (n : ℕ) → length kinds ≡ length ids → option_map_or (λ (p : Place). p.id) (slice_get (seen_places ids kinds) n) [] ≡ slice_index_or ids n []
id-at [] kinds n h = refl
id-at (i ∷ ids) [] n h = absurd (omega arith)
id-at (i ∷ ids) (k ∷ kinds) zero h = refl
id-at (i ∷ ids) (k ∷ kinds) (suc n) h = id-at ids kinds n (omega arith)

pub get-there : (kinds : List PlaceKind) (n : ℕ) (kind : PlaceKind) → n < length kinds → kind ≡ get_or kinds n kind → Some kind ≡ slice_get kinds n
get-there [] n kind l h = absurd (omega arith)
get-there (k ∷ kinds) zero kind l h = ap Some h
get-there (k ∷ kinds) (suc n) kind l h = get-there kinds n kind (omega arith) h

pub get-past : (kinds : List PlaceKind) (n : ℕ) → length kinds ≤ n → None ≡ slice_get kinds n
get-past [] n l = refl
get-past (k ∷ kinds) zero l = absurd (omega arith)
get-past (k ∷ kinds) (suc n) l = get-past kinds n (omega arith)

-- the places of rows
pub seen-rows : (rows : List StopRow) → seen_places (map (λ (r : StopRow). r.id) rows) (map (λ (r : StopRow). r.kind) rows) ≡ map place_of_row rows
seen-rows [] = refl
seen-rows (r ∷ rows) = ap (λ ps. place_of_row r ∷ ps) (seen-rows rows)
