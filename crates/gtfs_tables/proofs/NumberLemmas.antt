-- The numbers of names after one more name.
use Rattle.gtfs_tables.proofs.Words.{◌≡◌, ◌+◌, ◌++◌, ◌∷◌, ◌<◌, [], ℕ, zero, suc, List, Option, Some, None, true, false, get_or, length, map, arith, common_steps, bytes_eq-Decides, length-map, bytes_eq, if◌then◌else◌, AreDistinct, number_from}
use Rattle.std.proofs.lemmas.List.{get_or-map}
use Rattle.std.proofs.lemmas.Option.{slice_get-get_or, slice_get_within, get_or_from_slice_get}
use Rattle.std.specs.Prelude.{slice_get}

-- a name that is not there yet has the place at the end
number_from-end : (at : ℕ) (name : List ℕ) (names : List (List ℕ)) → number_from at name names ≡ None → number_from at name (names ++ name ∷ []) ≡ Some (at + length names)
number_from-end at name [] none = grind (arith, common_steps, bytes_eq-Decides)
number_from-end at name (first ∷ names) none = grind (arith, common_steps, number_from-end (at + 1) name names)

-- another name keeps its place
number_from-other : (at : ℕ) (name last : List ℕ) (names : List (List ℕ)) → bytes_eq name last ≡ false → number_from at name (names ++ last ∷ []) ≡ number_from at name names
number_from-other at name last [] other = grind arith
number_from-other at name last (first ∷ names) other = grind (arith, number_from-other (at + 1) name last names)

-- a name that gets the next number, and every other name
pub number_from-more : (name last : List ℕ) (names more : List (List ℕ)) (n : ℕ) (old found : Option ℕ) → found ≡ (if bytes_eq last name then Some n else old)
    → old ≡ number_from 0 name names → number_from 0 last names ≡ None → n ≡ length names → more ≡ names ++ last ∷ [] → found ≡ number_from 0 name more
number_from-more name last names more n old found is before none next longer = grind (arith, bytes_eq-Decides, number_from-end 0 last names, number_from-other 0 name last names)

-- a name stands at its number, where no name stands twice
place-from : (at n : ℕ) (name : List ℕ) (names : List (List ℕ)) → AreDistinct names → slice_get names n ≡ Some name → number_from at name names ≡ Some (at + n)
unfolding AreDistinct
place-from at n name [] distinct there = grind arith
place-from at zero name (first ∷ names) distinct there = grind (arith, bytes_eq-Decides name first)
place-from at (suc n) name (first ∷ names) distinct there =
    let other = distinct.0 n name (slice_get_within names n name there) in
    grind (arith, bytes_eq-Decides name first, other, get_or_from_slice_get names n name name there, place-from (at + 1) n name names distinct.1 there)

-- a name is found at its place, where no name stands twice
pub name-place : (names : List (List ℕ)) (n : ℕ) (there name : List ℕ) → AreDistinct names → n < length names → there ≡ get_or names n there → bytes_eq there name ≡ true → number_from 0 name names ≡ Some n
name-place names n there name distinct small is same = grind (arith, bytes_eq-Decides there name, slice_get-get_or names n there, place-from 0 n name names distinct)

-- a row is found by its id
pub place : {X : Type 0} (id : X → List ℕ) (rows : List X) (n : ℕ) (row : X) (name : List ℕ) → AreDistinct (map id rows) → n < length rows → row ≡ get_or rows n row → bytes_eq (id row) name ≡ true → number_from 0 name (map id rows) ≡ Some n
place id rows n row name distinct small is same = name-place (map id rows) n (id row) name distinct (grind (arith, length-map rows id)) (grind (arith, get_or-map id rows n row (id row))) same
