-- Which journeys stand beside which trains.
use Rattle.std.proofs.Common.{◌≡◌, inl, inr, Global, Vec, get_or, ℕ, zero, suc, ◌<◌, List, [], ◌∷◌, ◌++◌, map, length, slice_set, refl, sym, ◌∙◌, ap, arith}
use Rattle.std.specs.List.{Contains}
use Rattle.std.proofs.lemmas.Bool.{cases_eq}
use Rattle.std.proofs.lemmas.List.{length-map, map-append}
use Rattle.std.proofs.lemmas.List.Elements.{Contains-push}
use Rattle.journey_watch.specs.Trains.{journeys_on}

-- room beside one train more, beside which nothing stands
pub on-more : (rows : List (List ℕ)) (train : ℕ) → journeys_on (rows ++ [] ∷ []) train ≡ journeys_on rows train
on-more [] zero = refl
on-more [] (suc train) = refl
on-more (r ∷ rows) zero = refl
on-more (r ∷ rows) (suc train) = on-more rows train

-- other journeys beside one train
pub on-set : (rows : List (List ℕ)) (place : ℕ) (row : List ℕ) → place < length rows → journeys_on (slice_set rows place row) place ≡ row
on-set [] place row within = absurd (omega arith)
on-set (r ∷ rows) zero row within = refl
on-set (r ∷ rows) (suc place) row within = on-set rows place row (omega arith)

pub on-others : (rows : List (List ℕ)) (place : ℕ) (row : List ℕ) (train : ℕ) → (train ≡ place → ⊥) → journeys_on (slice_set rows place row) train ≡ journeys_on rows train
on-others [] place row train apart = refl
on-others (r ∷ rows) zero row zero apart = absurd (apart refl)
on-others (r ∷ rows) zero row (suc train) apart = refl
on-others (r ∷ rows) (suc place) row zero apart = refl
on-others (r ∷ rows) (suc place) row (suc train) apart = on-others rows place row train (λ same. apart (ap suc same))

pub map-set : {X Y : Type 0} (f : X → Y) (xs : List X) (i : ℕ) (x : X) → map f (slice_set xs i x) ≡ slice_set (map f xs) i (f x)
map-set f [] i x = refl
map-set f (y ∷ xs) zero x = refl
map-set f (y ∷ xs) (suc i) x = ap (λ ys. f y ∷ ys) (map-set f xs i x)

abbrev seen : Vec ℕ Global → List ℕ
seen row = row.items

pub on-grown : (rows grown : List (Vec ℕ Global)) (row : Vec ℕ Global) → row.items ≡ [] → grown ≡ rows ++ row ∷ [] → (train : ℕ)
    → journeys_on (map seen grown) train ≡ journeys_on (map seen rows) train
on-grown rows grown row empty is train =
    let more : map seen grown ≡ map seen rows ++ [] ∷ [] = ap (map seen) is ∙ map-append seen rows (row ∷ []) ∙ ap (λ r. map seen rows ++ r ∷ []) empty in
    ap (λ rs. journeys_on rs train) more ∙ on-more (map seen rows) train

-- the row beside a train
row-at : (rows : List (Vec ℕ Global)) (place : ℕ) (row : Vec ℕ Global) → row ≡ get_or rows place row → place < length rows → journeys_on (map seen rows) place ≡ row.items
row-at [] place row at within = absurd (omega arith)
row-at (r ∷ rows) zero row at within = ap seen (sym at)
row-at (r ∷ rows) (suc place) row at within = row-at rows place row at (omega arith)

module _ (rows : List (Vec ℕ Global)) (place train : ℕ) (row now : Vec ℕ Global) (named : place ≡ train) (within : place < length rows) (at : row ≡ get_or rows place row) where
  after : map seen (slice_set rows place now) ≡ slice_set (map seen rows) place now.items
  after = map-set seen rows place now

  fits : place < length (map seen rows)
  fits = let same : length (map seen rows) ≡ length rows = length-map rows seen in omega arith

  -- what stands beside a train still does, where the row of one gains journeys
  pub noted-kept : ((m : ℕ) → Contains row.items m → Contains now.items m) → (other m : ℕ) → Contains (journeys_on (map seen rows) other) m
      → Contains (journeys_on (map seen (slice_set rows place now)) other) m
  noted-kept more other m there = rw after (elim (cases_eq other place) [
    | inl same ↦ rw same (rw (on-set (map seen rows) place now.items fits) (more m (rw (row-at rows place row at within) at (rw same at there))))
    | inr apart ↦ rw (on-others (map seen rows) place now.items other apart) there
  ])

  -- and what it gains stands beside its train
  pub noted-added : (n : ℕ) → now.items ≡ row.items ++ n ∷ [] → Contains (journeys_on (map seen (slice_set rows place now)) train) n
  noted-added n more = rw (sym named, after, on-set (map seen rows) place now.items fits, more) (Contains-push row.items n)
