-- What a table keeps of the tables of a feed.
use Rattle.change_times.proofs.Words.{◌≡◌, ℕ, zero, suc, ◌<◌, ◌≤◌, List, [], ◌∷◌, Bool, true, false, ◌&&◌, nat_eq, cond, find, map, length, All, IsTrue, IfSome, Option, None, Some, refl, sym, subst, ◌∙◌, ap, arith, inl, inr, cases_Bool, cases_lt, and_parts, length-map, All-contains, All-weaker, filter_passes, slice_get, if◌then◌else◌, filter, Contains, option_map, option_map_or, option_or, PlaceKind, Platform, StopRow, Tables, TransferRow, is_platform_or_station, kind_of, station, station_by, is_looked_at, is_row_of, is_stop_or_station, first_row, deciding_row, change_by, change, ChangeTables, without_id, HaveSameChanges, from_of, is_from, is_to, HaveSameFirsts, IsKept}
use Rattle.std.proofs.lemmas.List.Elements.{All-head, All-tail, All-map}
use Rattle.std.proofs.lemmas.Option.{slice_get-map, slice_get_past}
use Rattle.std.specs.Prelude.{nat_le}
use Rattle.mt_base.specs.declared.places.PlaceKind.TheVariants.{Station}
use Rattle.feed_tables.specs.Lawful.{IsLawful, IsLocation, HasKind}
use Rattle.change_times.specs.ChangeTables.{tables_of}

-- what is asked of a location has one answer with and without ids
by-place : {Y : Type 0} (f : Option StopRow → Y) → ((row : StopRow) → f (Some (without_id row)) ≡ f (Some row)) → (o : Option StopRow) → f (option_map without_id o) ≡ f o
by-place f same None = refl
by-place f same (Some row) = same row

pub kind-same : (stops : List StopRow) (a : ℕ) → kind_of (map without_id stops) a ≡ kind_of stops a
kind-same stops a =
    let kind = λ (o : Option StopRow). option_map (λ (row : StopRow). row.kind) o in
    ap kind (slice_get-map without_id stops a) ∙ by-place kind (λ row. refl) (slice_get stops a)

pub station-same : (stops : List StopRow) (a : ℕ) → station (map without_id stops) a ≡ station stops a
station-same stops a =
    let at = λ (o : Option StopRow). option_map_or (station_by a) o a in
    ap at (slice_get-map without_id stops a) ∙ by-place at (λ row. refl) (slice_get stops a)

looked-same : (stops : List StopRow) (row : TransferRow) → is_looked_at (map without_id stops) row ≡ is_looked_at stops row
looked-same stops row = simp (kind-same stops row.from_stop, kind-same stops row.to_stop)

-- what is asked past the locations
pub past-none : {Y : Type 0} (stops : List StopRow) (f : Option StopRow → Y) (a : ℕ) → length stops ≤ a → f (slice_get stops a) ≡ f None
past-none stops f a l = ap f (slice_get_past stops a l)

place-within : (stops : List StopRow) (a : ℕ) → is_stop_or_station stops a ≡ true → a < length stops
place-within stops a h =
    elim (cases_lt a (length stops)) [
      | inl l ↦ l
      | inr l ↦ let n = past-none stops (λ o. option_map_or is_platform_or_station (option_map (λ (row : StopRow). row.kind) o) false) a l in absurd (cc)
    ]

-- the ends of a row that is looked at are locations
pub row-within : (stops : List StopRow) (row : TransferRow) → IsTrue (is_looked_at stops row) → (row.from_stop < length stops) × (row.to_stop < length stops)
row-within stops row h =
    let places = (and_parts (nat_le row.kind 3) (is_stop_or_station stops row.from_stop && is_stop_or_station stops row.to_stop) h).1 in
    let ends = and_parts (is_stop_or_station stops row.from_stop) (is_stop_or_station stops row.to_stop) places in
    (place-within stops row.from_stop ends.0, place-within stops row.to_stop ends.1)

-- the rows that are looked at lead from locations
pub looked-within : (stops : List StopRow) (rows : List TransferRow) → All (λ row. from_of row < length stops) (filter (is_looked_at stops) rows)
looked-within stops rows =
    All-weaker (λ row. IsTrue (is_looked_at stops row)) (λ row. from_of row < length stops) (λ row h. (row-within stops row h).0) (filter (is_looked_at stops) rows) (filter_passes (is_looked_at stops) rows)

find-agree : {X : Type 0} (p q : X → Bool) → ((x : X) → p x ≡ q x) → (xs : List X) → find p xs ≡ find q xs
find-agree p q same xs = let e : p ≡ q = λ i x. same x i in ap (λ r. find r xs) e

pub find-filter : {X : Type 0} (p q : X → Bool) (xs : List X) → find p (filter q xs) ≡ find (λ x. q x && p x) xs
find-filter p q [] = refl
find-filter p q (x ∷ xs) =
    elim (cases_Bool (q x)) [
      | inl e ↦ simp e (ap (λ r. cond (p x) (Some x) r) (find-filter p q xs))
      | inr e ↦ simp e (find-filter p q xs)
    ]

pub find-head : {X : Type 0} (p : X → Bool) (xs : List X) → find p xs ≡ slice_get (filter p xs) 0
find-head p [] = refl
find-head p (x ∷ xs) =
    elim (cases_Bool (p x)) [
      | inl e ↦ simp e
      | inr e ↦ simp e (find-head p xs)
    ]

filter-all : {X : Type 0} (p : X → Bool) (xs : List X) → All (λ x. IsTrue (p x)) xs → filter p xs ≡ xs
filter-all p [] h = refl
filter-all p (x ∷ xs) h =
    ap (λ b. cond b (x ∷ filter p xs) (filter p xs)) (All-head (λ x. IsTrue (p x)) x xs h)
    ∙ ap (λ ys. x ∷ ys) (filter-all p xs (All-tail (λ x. IsTrue (p x)) x xs h))

and-swap : (a b c : Bool) → (a && (b && c)) ≡ ((b && c) && a)
and-swap true true true = refl
and-swap true true false = refl
and-swap true false c = refl
and-swap false true true = refl
and-swap false true false = refl
and-swap false false c = refl

-- the first row of a pair, among the rows that are looked at
first-looked : (stops : List StopRow) (rows : List TransferRow) (a b : ℕ) → find (is_to b) (filter (is_from a) (filter (is_looked_at stops) rows)) ≡ first_row stops rows a b
first-looked stops rows a b =
    find-filter (is_to b) (is_from a) (filter (is_looked_at stops) rows)
    ∙ find-filter (λ row. is_from a row && is_to b row) (is_looked_at stops) rows
    ∙ find-agree (λ row. is_looked_at stops row && (is_from a row && is_to b row)) (is_row_of stops a b) (λ row. and-swap (is_looked_at stops row) (is_from a row) (is_to b row)) rows

-- a search among the rows from a location finds the first row of a pair
pub first-from : (t : ChangeTables) (a b : ℕ) → IsKept t → find (is_to b) (filter (is_from a) t.transfers) ≡ first_row t.stops t.transfers a b
first-from t a b h =
    ap (λ rows. find (is_to b) (filter (is_from a) rows)) (sym (filter-all (is_looked_at t.stops) t.transfers h.rows))
    ∙ first-looked t.stops t.transfers a b

-- what a change follows from
abbrev change-with : (ℕ → ℕ → Option TransferRow) → (ℕ → ℕ) → ℕ → ℕ → ℕ → Option ℕ
change-with first at default a b =
    option_map_or (change_by default) (option_or (first a b) (option_or (first a (at b)) (option_or (first (at a) b) (first (at a) (at b))))) (if nat_eq (at a) (at b) then Some default else None)

change-is : (stops : List StopRow) (rows : List TransferRow) (default a b : ℕ) → change stops rows default a b ≡ change-with (first_row stops rows) (station stops) default a b
unfolding change
change-is stops rows default a b = refl

first-same : (stops : List StopRow) (rows kept all : List TransferRow) (a b : ℕ) → kept ≡ filter (is_looked_at (map without_id stops)) rows → HaveSameFirsts kept all → IsKept (record { stops = map without_id stops; transfers = all; default = 0 }) → first_row (map without_id stops) all a b ≡ first_row stops rows a b
unfolding HaveSameFirsts
first-same stops rows kept all a b e same h =
    let blank = map without_id stops in
    sym (first-from (record { stops = blank; transfers = all; default = 0 }) a b h)
    ∙ same a b
    ∙ ap (λ xs. find (is_to b) (filter (is_from a) xs)) e ∙ first-looked blank rows a b
    ∙ find-agree (is_row_of blank a b) (is_row_of stops a b) (λ row. ap (λ looked. (is_from a row && is_to b row) && looked) (looked-same stops row)) rows

-- the locations without ids, and the rows that are looked at by pair, have the same change times
same-changes : (stops : List StopRow) (rows kept all : List TransferRow) (default : ℕ) → kept ≡ filter (is_looked_at (map without_id stops)) rows → HaveSameFirsts kept all → IsKept (record { stops = map without_id stops; transfers = all; default = default }) → HaveSameChanges (record { stops = stops; transfers = rows; default = default }) (record { stops = map without_id stops; transfers = all; default = default })
same-changes stops rows kept all default e same h =
    let blank = map without_id stops in
    let first : first_row blank all ≡ first_row stops rows = λ i a b. first-same stops rows kept all a b e same (record { few = h.few; rows = h.rows; parents = h.parents }) i in
    let at : station blank ≡ station stops = λ i a. station-same stops a i in
    record {
      stops = refl;
      default = refl;
      kind = kind-same stops;
      station = station-same stops;
      change = λ a b.
          change-is blank all default a b ∙ ap (λ f. change-with f (station blank) default a b) first
          ∙ ap (λ g. change-with (first_row stops rows) g default a b) at ∙ sym (change-is stops rows default a b);
    }

within : (stops : List StopRow) (kind : PlaceKind) (n : ℕ) → HasKind stops kind n → n < length stops
within [] kind n h = absurd h
within (row ∷ stops) kind zero h = omega arith
within (row ∷ stops) kind (suc n) h = omega (arith, within stops kind n h)

parent-within : (stops : List StopRow) (o : Option ℕ) (P : ℕ → Type 0) → IfSome o (λ n. P n × HasKind stops Station n) → IfSome o (λ n. n < length (map without_id stops))
parent-within stops None P h = tt
parent-within stops (Some n) P h = subst (λ k. n < k) (sym (length-map stops without_id)) (within stops Station n h.1)

is-kept : (stops : List StopRow) (rows kept all : List TransferRow) (default : ℕ) → length stops ≤ 100000 → All (IsLocation stops) stops → kept ≡ filter (is_looked_at (map without_id stops)) rows → All (Contains kept) all → IsKept (record { stops = map without_id stops; transfers = all; default = default })
is-kept stops rows kept all default few lawful e given =
    let blank = map without_id stops in
    let Looked : TransferRow → Type 0 = λ row. IsTrue (is_looked_at blank row) in
    record {
      few = omega (arith, few, length-map stops without_id);
      rows = All-weaker (Contains kept) Looked (λ row h. All-contains Looked kept row (subst (All Looked) (sym e) (filter_passes (is_looked_at blank) rows)) h) all given;
      parents = All-map (λ (row : StopRow). IfSome row.parent (λ n. n < length blank)) without_id stops (All-weaker (IsLocation stops) (λ (row : StopRow). IfSome row.parent (λ n. n < length blank)) (λ row l. parent-within stops row.parent (λ n. row.kind ≡ Platform) l.parent) stops lawful);
    }

-- what a table is made of
pub record IsMade (t : Tables) (stops : List StopRow) (looked all : List TransferRow) : Type 0 where
  pub lawful : IsLawful t
  pub places : stops ≡ map without_id t.stops
  pub kept : looked ≡ filter (is_looked_at stops) t.transfers
  pub first : HaveSameFirsts looked all
  pub given : All (Contains looked) all

pub made-kept : (t : Tables) (places : List StopRow) (kept all : List TransferRow) (default : ℕ) → IsMade t places kept all → IsKept (record { stops = places; transfers = all; default = default })
made-kept t places kept all default h =
    let looked = h.kept ∙ ap (λ (stops : List StopRow). filter (is_looked_at stops) t.transfers) h.places in
    subst (λ stops. IsKept (record { stops = stops; transfers = all; default = default })) (sym h.places) (is-kept t.stops t.transfers kept all default h.lawful.limits.stops h.lawful.stops looked h.given)

pub made-same : (t : Tables) (places : List StopRow) (kept all : List TransferRow) (default : ℕ) → IsMade t places kept all → HaveSameChanges (tables_of t default) (record { stops = places; transfers = all; default = default })
made-same t places kept all default h =
    let looked = h.kept ∙ ap (λ (stops : List StopRow). filter (is_looked_at stops) t.transfers) h.places in
    subst (λ stops. HaveSameChanges (tables_of t default) (record { stops = stops; transfers = all; default = default })) (sym h.places) (same-changes t.stops t.transfers kept all default looked h.first (is-kept t.stops t.transfers kept all default h.lawful.limits.stops h.lawful.stops looked h.given))

option_or_assoc : {X : Type 0} (a b c d : Option X) → option_or (option_or (option_or a b) c) d ≡ option_or a (option_or b (option_or c d))
option_or_assoc None None c d = refl
option_or_assoc None (Some y) c d = refl
option_or_assoc (Some x) b c d = refl

-- the four searches, one after the other, find the row that decides
pub deciding-is : (t : ChangeTables) (a b at_a at_b : ℕ) (r1 r2 r3 r4 : Option TransferRow) → IsKept t → at_a ≡ station t.stops a → at_b ≡ station t.stops b → r1 ≡ find (is_to b) (filter (is_from a) t.transfers) → r2 ≡ find (is_to at_b) (filter (is_from a) t.transfers) → r3 ≡ find (is_to b) (filter (is_from at_a) t.transfers) → r4 ≡ find (is_to at_b) (filter (is_from at_a) t.transfers) → option_or (option_or (option_or r1 r2) r3) r4 ≡ deciding_row t.stops t.transfers a b
deciding-is t a b at_a at_b r1 r2 r3 r4 h ea eb e1 e2 e3 e4 =
    let first = first_row t.stops t.transfers in
    let f1 : r1 ≡ first a b = e1 ∙ first-from t a b h in
    let f2 : r2 ≡ first a (station t.stops b) = e2 ∙ first-from t a at_b h ∙ ap (first a) eb in
    let f3 : r3 ≡ first (station t.stops a) b = e3 ∙ first-from t at_a b h ∙ ap (λ n. first n b) ea in
    let f4 : r4 ≡ first (station t.stops a) (station t.stops b) = e4 ∙ first-from t at_a at_b h ∙ ap (first at_a) eb ∙ ap (λ n. first n (station t.stops b)) ea in
    option_or_assoc r1 r2 r3 r4 ∙ ap (λ o. option_or o (option_or r2 (option_or r3 r4))) f1
    ∙ ap (λ o. option_or (first a b) (option_or o (option_or r3 r4))) f2
    ∙ ap (λ o. option_or (first a b) (option_or (first a (station t.stops b)) (option_or o r4))) f3
    ∙ ap (λ o. option_or (first a b) (option_or (first a (station t.stops b)) (option_or (first (station t.stops a) b) o))) f4
