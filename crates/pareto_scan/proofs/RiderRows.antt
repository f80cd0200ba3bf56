-- Rows of the table of those aboard, as what they say.
use Rattle.std.proofs.Common.{◌≡◌, ℕ, ◌+◌, ◌-◌, ◌*◌, ◌/◌, ◌%◌, ◌<◌, List, [], ◌∷◌, Some, None, nat_le, length, map, set, replicate, refl, ◌∙◌, ap, arith}
use Rattle.std.specs.List.{All}
use Rattle.std.proofs.lemmas.Bool.{cond-false, cond-true}
use Rattle.std.proofs.lemmas.List.{map-set}
use Rattle.std.proofs.lemmas.List.Elements.{All-head, All-tail}
use Rattle.conn_scan.proofs.TableLemmas.{blank}
use Rattle.pareto_scan.specs.Riders.{row_rider}
use Rattle.pareto_scan.specs.declared.riders.Rider.{Rider}

pub blank_riders : (n : ℕ) → map (row_rider 1) (replicate n 0) ≡ replicate n None
blank_riders n = blank (row_rider 1) 0 n refl

-- rows that an earlier query left
pub earlier_riders : (base : ℕ) (rows : List ℕ) → All (λ row. row < base) rows → map (row_rider base) rows ≡ replicate (length rows) None
earlier_riders base [] below = refl
earlier_riders base (row ∷ rows) below =
    let less = All-head (λ row. row < base) row rows below in
    ap (λ o. o ∷ map (row_rider base) rows) (cond-false (nat_le base row) _ None (grind (arith, less))) ∙ ap (λ os. None ∷ os) (earlier_riders base rows (All-tail (λ row. row < base) row rows below))

-- a row that is written
written-row : (base b r : ℕ) → r < 8 → row_rider base (base + (b * 8 + r)) ≡ Some (record { boarded = b; rides = r })
written-row base b r few =
    let code : base + (b * 8 + r) - base ≡ b * 8 + r = omega arith in
    let boarded : (b * 8 + r) / 8 ≡ b = omega (arith, few) in
    let rides : (b * 8 + r) % 8 ≡ r = omega (arith, few) in
    rw (code, boarded, rides) (cond-true (nat_le base (base + (b * 8 + r))) (Some (record { boarded = b; rides = r })) None (grind arith))

pub written_rider : (base : ℕ) (rows : List ℕ) (n : ℕ) (r : Rider) → r.rides < 8 → map (row_rider base) (set rows n (base + (r.boarded * 8 + r.rides))) ≡ set (map (row_rider base) rows) n (Some r)
written_rider base rows n r few = map-set (row_rider base) rows n (base + (r.boarded * 8 + r.rides)) ∙ ap (set (map (row_rider base) rows) n) (written-row base r.boarded r.rides few)

-- a row that is read
pub coded_there : (code size : ℕ) → code < 8 * size → code / 8 < size
coded_there code size less = omega (arith, less)

pub coded_few : (code : ℕ) → code % 8 < 8
coded_few code = omega arith
