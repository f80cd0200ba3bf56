-- Lists that stand one after the other in one list.
use Rattle.std.specs.Prelude.{ℕ, ◌≡◌, ◌≤◌, ◌-◌, List, [], ◌∷◌, take, drop, length, nat_lt, slice_index, if◌then◌else◌}

-- the parts of a list from a place on, by the places where they end
abbrev pub cut : {X : Type 0} → ℕ → List ℕ → List X → List (List X)
cut start [] xs = []
cut start (end ∷ ends) xs = take (end - start) (drop start xs) ∷ cut end ends xs

-- no part ends before it begins, and the last ends with the list
abbrev pub AreEnds : {X : Type 0} → ℕ → List ℕ → List X → Type 0
AreEnds start [] xs = start ≡ length xs
AreEnds start (end ∷ ends) xs = (start ≤ end) × AreEnds end ends xs

-- where a part begins and ends, and 0 twice where there is no such part
abbrev pub bounds_of : List ℕ → ℕ → ℕ × ℕ
bounds_of ends i = if nat_lt i (length ends) then (slice_index (0 ∷ ends) i, slice_index ends i)
    else (0, 0)
