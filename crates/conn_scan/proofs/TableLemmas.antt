-- Rows of the tables, as what they say.
use Rattle.std.proofs.Common.{◌≡◌, ℕ, zero, suc, ◌+◌, ◌≤◌, ◌<◌, List, [], ◌∷◌, Option, Some, None, nat_le, cond, length, map, set, replicate, refl, sym, ◌∙◌, ap, arith}
use Rattle.std.specs.List.{All}
use Rattle.std.proofs.lemmas.Bool.{cond-false}
use Rattle.std.proofs.lemmas.List.{length-map, map-set}
use Rattle.std.proofs.lemmas.List.Elements.{All-head, All-tail}
use Rattle.conn_scan.specs.Aboard.{row_number}
use Rattle.conn_scan.specs.StopRides.{nobody, row_ride}
use Rattle.conn_scan.specs.StopTimes.{never, row_time}
use Rattle.conn_scan.specs.declared.stop_rides.Stretch.{Stretch}

-- rows that all say nothing
pub blank : {X Y : Type 0} (f : X → Option Y) (x : X) (n : ℕ) → f x ≡ None → map f (replicate n x) ≡ replicate n None
blank f x zero e = refl
blank f x (suc n) e = ap (λ o. o ∷ map f (replicate n x)) e ∙ ap (λ os. None ∷ os) (blank f x n e)

pub blank_times : (n : ℕ) → map row_time (replicate n never) ≡ replicate n None
blank_times n = blank row_time never n refl

pub blank_rides : (last n : ℕ) → map row_ride (replicate n (record { first = nobody; last = last })) ≡ replicate n None
blank_rides last n = blank row_ride (record { first = nobody; last = last }) n refl

pub blank_numbers : (n : ℕ) → map (row_number 1) (replicate n 0) ≡ replicate n None
blank_numbers n = blank (row_number 1) 0 n refl

-- rows that an earlier query left
pub earlier_numbers : (base : ℕ) (rows : List ℕ) → All (λ row. row < base) rows → map (row_number base) rows ≡ replicate (length rows) None
earlier_numbers base [] below = refl
earlier_numbers base (row ∷ rows) below =
    let less = All-head (λ row. row < base) row rows below in
    ap (λ o. o ∷ map (row_number base) rows) (cond-false (nat_le base row) _ None (grind (arith, less))) ∙ ap (λ os. None ∷ os) (earlier_numbers base rows (All-tail (λ row. row < base) row rows below))

-- a row that is written
pub written_time : (rows : List ℕ) (b t : ℕ) → t < never → map row_time (set rows b t) ≡ set (map row_time rows) b (Some t)
written_time rows b t small = map-set row_time rows b t ∙ ap (set (map row_time rows) b) (grind (arith, small))

pub written_ride : (rows : List Stretch) (b : ℕ) (r : Stretch) → r.first < nobody → map row_ride (set rows b r) ≡ set (map row_ride rows) b (Some r)
written_ride rows b r small = map-set row_ride rows b r ∙ ap (set (map row_ride rows) b) (grind (arith, small))

pub written_nowhere : (rows : List Stretch) (b last : ℕ) → map row_ride (set rows b (record { first = nobody; last = last })) ≡ set (map row_ride rows) b None
written_nowhere rows b last = map-set row_ride rows b (record { first = nobody; last = last })

pub written_number : (base : ℕ) (rows : List ℕ) (n b : ℕ) → map (row_number base) (set rows n (base + b)) ≡ set (map (row_number base) rows) n (Some b)
written_number base rows n b = map-set (row_number base) rows n (base + b) ∙ ap (set (map (row_number base) rows) n) (grind arith)
