-- How many times are stored for each train.
use Rattle.propagate.proofs.Words.{◌≡◌, ℕ, zero, suc, List, [], ◌∷◌, map, length, set, refl, ◌∙◌, length-set, Node, State, StoredTimes, with_time, place_of, change_at, HasTimesFor}

-- a write of one time changes no number of times
lengths-set : (n p x : ℕ) (xss : List (List ℕ)) → map length (change_at n (λ xs. set xs p x) xss) ≡ map length xss
lengths-set n p x [] = refl
lengths-set zero p x (xs ∷ xss) = rw length-set refl
lengths-set (suc n) p x (xs ∷ xss) = rw (lengths-set n p x xss) refl

pub write-fits : (st : State) (k : StoredTimes) (n : Node) (x : ℕ) → HasTimesFor st k → HasTimesFor st (with_time n x k)
write-fits st k n x h = record { sized = lengths-set n.train (place_of n) x k.trains ∙ h.sized; spare_trains = h.spare_trains; spare_calls = h.spare_calls }
