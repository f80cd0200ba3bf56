-- Names by number: each number is below the number of names, and no name stands there twice.
use Rattle.gtfs_tables.proofs.Words.{◌≡◌, ◌≢◌, ℕ, ◌+◌, ◌<◌, ◌≤◌, List, [], ◌∷◌, ◌++◌, true, Some, None, All, is_none, length, map, arith, common_steps, map_push, All-nil, All-cons, All-head, All-tail, All-push, bytes_eq-Decides, AreDistinct, number_from, number_in, names_with}

-- one more at the end that is not there
distinct-push : {X : Type 0} (xs : List X) (x : X) → AreDistinct xs → All (λ y. y ≢ x) xs → AreDistinct (xs ++ x ∷ [])
unfolding AreDistinct
distinct-push [] x h none = (All-nil (λ y. x ≢ y), tt)
distinct-push (y ∷ ys) x h none =
    (All-push (λ z. y ≢ z) ys x h.0 (All-head (λ z. z ≢ x) y ys none), distinct-push ys x h.1 (All-tail (λ z. z ≢ x) y ys none))

-- a name without a number is none of the names
not-there : (at : ℕ) (name : List ℕ) (names : List (List ℕ)) → is_none (number_from at name names) ≡ true → All (λ other. other ≢ name) names
not-there at name [] h = All-nil (λ other. other ≢ name)
not-there at name (first ∷ names) h = grind (arith, bytes_eq-Decides name first, not-there (at + 1) name names, All-cons (λ other. other ≢ name) first names)

-- a name more that has no number yet
pub distinct-more : (name : List ℕ) (names : List (List ℕ)) → AreDistinct names → number_from 0 name names ≡ None → AreDistinct (names ++ name ∷ [])
distinct-more name names h none = distinct-push names name h (not-there 0 name names (grind arith))

-- a row more whose id no earlier row has
pub ids-push : {X : Type 0} (id : X → List ℕ) (rows : List X) (row : X) → AreDistinct (map id rows) → is_none (number_from 0 (id row) (map id rows)) ≡ true → AreDistinct (map id (rows ++ row ∷ []))
ids-push id rows row h new = rw (map_push id rows row) (distinct-push (map id rows) (id row) h (not-there 0 (id row) (map id rows) new))

below-from : (at : ℕ) (name : List ℕ) (names : List (List ℕ)) (n : ℕ) → number_from at name names ≡ Some n → n < at + length names
below-from at name [] n h = absurd (cc h)
below-from at name (first ∷ names) n h = grind (arith, below-from (at + 1) name names)

pub number-below : (name : List ℕ) (names : List (List ℕ)) (n : ℕ) → number_from 0 name names ≡ Some n → n < length names
number-below name names n h = omega (arith, below-from 0 name names n h)

-- names after one more name: its number is below their number, they are not fewer than before, and none stands there twice
pub record HasName (name : List ℕ) (names : List (List ℕ)) : Type 0 where
  pub below : number_in name names < length (names_with name names)
  pub longer : length names ≤ length (names_with name names)
  pub distinct : AreDistinct names → AreDistinct (names_with name names)

pub with-name : (name : List ℕ) (names : List (List ℕ)) → HasName name names
with-name name names = grind (arith, common_steps, number-below name names, distinct-push names name, not-there 0 name names)
