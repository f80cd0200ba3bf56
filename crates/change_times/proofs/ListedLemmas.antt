-- The lists of changes.
use Rattle.change_times.proofs.Words.{◌≡◌, ℕ, ◌<◌, ◌≤◌, List, [], Bool, true, false, Option, None, Some, All, IsTrue, IfSome, length, get_or, refl, sym, subst, ap, arith, inl, inr, cases_lt, All-contains, if◌then◌else◌, Contains, filter_map, IsStrictlyIncreasing, option_map, option_map_or, Platform, StopRow, is_platform, station, station_by, is_stop, is_looked_at, change, Change, Direction, Onward, Back, Nearby, ChangeTables, change_at, listed, has_default, near, links_in, AreOf, IsKept}
use Rattle.std.proofs.lemmas.Bool.{cond_both}
use Rattle.std.proofs.lemmas.Option.{slice_get-get_or}
use Rattle.std.specs.Prelude.{unwrap_or}
use Rattle.change_times.specs.Reach.{places}
use Rattle.change_times.proofs.JoinLemmas.{AreJoined, IsEnd, change-joins, near-onward, near-back}
use Rattle.change_times.proofs.TableLemmas.{past-none, row-within}
use Rattle.change_times.proofs.WalkLemmas.{walk-same, nothing, cases-option}

-- past the locations there is no stop
pub no-stop : (t : ChangeTables) (a : ℕ) → length t.stops ≤ a → is_stop t.stops a ≡ false
no-stop t a l = past-none t.stops (λ o. option_map_or is_platform (option_map (λ (row : StopRow). row.kind) o) false) a l

-- a stop is one of the locations
stop-within : (t : ChangeTables) (a : ℕ) → is_stop t.stops a ≡ true → a < length t.stops
stop-within t a h =
    elim (cases_lt a (length t.stops)) [
      | inl l ↦ l
      | inr l ↦ let n = no-stop t a l in absurd (cc)
    ]

-- what a choice by a test gives, it gives where the test holds
chosen : {X : Type 0} (b : Bool) (f : ℕ → X) (o : Option ℕ) (x : X) → (if b then option_map f o else None) ≡ Some x → (b ≡ true) × ((s : ℕ) × (o ≡ Some s))
chosen true f None x e = absurd (cc)
chosen true f (Some s) x e = (refl, (s, refl))
chosen false f o x e = absurd (cc)

-- where a change leads from, and where it leads to
abbrev from_in : Direction → ℕ → ℕ → ℕ
from_in Onward place other = place
from_in Back place other = other

abbrev to_in : Direction → ℕ → ℕ → ℕ
to_in Onward place other = other
to_in Back place other = place

-- a change that is listed joins a location to a stop
listed-joins : (t : ChangeTables) (direction : Direction) (place other : ℕ) (change : Change) → change_at t direction place other ≡ Some change → (other < length t.stops) × AreJoined t (from_in direction place other) (to_in direction place other)
listed-joins t Onward a b c e =
    let given = chosen (is_stop t.stops b) (λ s. record { stop = b; seconds = s }) (change t.stops t.transfers t.default a b) c e in
    (stop-within t b given.0, change-joins t a b given.1.0 given.1.1)
listed-joins t Back b a c e =
    let given = chosen (is_stop t.stops a) (λ s. record { stop = a; seconds = s }) (change t.stops t.transfers t.default a b) c e in
    (stop-within t a given.0, change-joins t a b given.1.0 given.1.1)

-- what is listed of a location stands near it
listed-near : (t : ChangeTables) (nearby : Nearby) (direction : Direction) (place other : ℕ) → AreOf t nearby → other < length t.stops → AreJoined t (from_in direction place other) (to_in direction place other) → Contains (near nearby.members (links_in direction nearby) place (station t.stops place) (has_default t direction place (station t.stops place))) other
listed-near t nearby Onward a b h l e = near-onward t nearby a b h l e
listed-near t nearby Back b a h l e = near-back t nearby a b h l e

change-past : (t : ChangeTables) (direction : Direction) (place other : ℕ) → length t.stops ≤ other → change_at t direction place other ≡ None
change-past t Onward a b l =
    ap (λ stop. if stop then option_map (λ s. record { stop = b; seconds = s }) (change t.stops t.transfers t.default a b) else None) (no-stop t b l)
change-past t Back b a l =
    ap (λ stop. if stop then option_map (λ s. record { stop = a; seconds = s }) (change t.stops t.transfers t.default a b) else None) (no-stop t a l)

-- the changes among the locations near a location are all changes
pub listed-is : (t : ChangeTables) (nearby : Nearby) (direction : Direction) (place : ℕ) (all : List ℕ) → AreOf t nearby → IsStrictlyIncreasing all → All (Contains all) (near nearby.members (links_in direction nearby) place (station t.stops place) (has_default t direction place (station t.stops place))) → filter_map (change_at t direction place) all ≡ listed t direction place
unfolding listed
listed-is t nearby direction place all h order contains =
    walk-same (change_at t direction place) (length t.stops) all order
    (λ other c e. let joined = listed-joins t direction place other c e in
    All-contains (Contains all) (near nearby.members (links_in direction nearby) place (station t.stops place) (has_default t direction place (station t.stops place))) other contains (listed-near t nearby direction place other h joined.0 joined.1))
    (λ other l. change-past t direction place other l)

station-past : (t : ChangeTables) (a : ℕ) → length t.stops ≤ a → station t.stops a ≡ a
station-past t a l = past-none t.stops (λ o. option_map_or (station_by a) o a) a l

unwrap-within : (n a : ℕ) (o : Option ℕ) → a < n → IfSome o (λ p. p < n) → unwrap_or o a < n
unwrap-within n a None l h = l
unwrap-within n a (Some p) l h = h

-- the station of a location is a location
station-within : (t : ChangeTables) (a : ℕ) → IsKept t → a < length t.stops → station t.stops a < length t.stops
station-within t a h l =
    let d : StopRow = record { id = []; kind = Platform; parent = None } in
    let row = get_or t.stops a d in
    let by : station_by a row < length t.stops = cond_both (is_platform row.kind) (unwrap_or row.parent a) a (λ s. s < length t.stops) (λ _. unwrap-within (length t.stops) a row.parent l (h.parents a d l)) (λ _. l) in
    subst (λ o. option_map_or (station_by a) o a < length t.stops) (sym (slice_get-get_or t.stops a d l)) by

-- the end of a row is a location, so it does not belong to what is none
end-within : (t : ChangeTables) (a x : ℕ) → length t.stops ≤ a → x < length t.stops → IsEnd t.stops a x → ⊥
end-within t a x l m (inl e) = omega (arith, l, m, e)
end-within t a x l m (inr e) = let s = station-past t a l in omega (arith, l, m, e, s)

-- no change joins what is no location
past-joined : (t : ChangeTables) (a b : ℕ) → IsKept t → length t.stops ≤ a → b < length t.stops → AreJoined t a b → ⊥
past-joined t a b h l m (inl e) =
    let s = station-past t a l in let w = station-within t b h m in omega (arith, l, e.same, s, w)
past-joined t a b h l m (inr r) =
    end-within t a r.0.from_stop l (row-within t.stops r.0 (All-contains (λ row. IsTrue (is_looked_at t.stops row)) t.transfers r.0 h.rows r.1)).0 r.3

joined-past : (t : ChangeTables) (a b : ℕ) → IsKept t → length t.stops ≤ b → a < length t.stops → AreJoined t a b → ⊥
joined-past t a b h l m (inl e) =
    let s = station-past t b l in let w = station-within t a h m in omega (arith, l, e.same, s, w)
joined-past t a b h l m (inr r) =
    end-within t b r.0.to_stop l (row-within t.stops r.0 (All-contains (λ row. IsTrue (is_looked_at t.stops row)) t.transfers r.0 h.rows r.1)).1 r.4

not-joined : (t : ChangeTables) (direction : Direction) (place other : ℕ) → IsKept t → length t.stops ≤ place → other < length t.stops → AreJoined t (from_in direction place other) (to_in direction place other) → ⊥
not-joined t Onward a b h l m j = past-joined t a b h l m j
not-joined t Back b a h l m j = joined-past t a b h l m j

-- nothing is listed of what is no location
pub listed-past : (t : ChangeTables) (direction : Direction) (place : ℕ) → IsKept t → length t.stops ≤ place → listed t direction place ≡ []
unfolding listed
listed-past t direction place h l =
    nothing (change_at t direction place) (places t)
    (λ other. elim (cases-option (change_at t direction place other)) [
      | inl e ↦ e
      | inr c ↦ let j = listed-joins t direction place other c.0 c.1 in absurd (not-joined t direction place other h l j.0 j.1)
    ])
