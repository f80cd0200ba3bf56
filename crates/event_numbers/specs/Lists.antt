-- Lists with one element changed.
use Rattle.std.specs.Prelude.{ℕ, zero, suc, List, [], ◌∷◌}

-- the element with this number is changed, if it is there
abbrev pub change_at : {X : Type 0} → ℕ → (X → X) → List X → List X
change_at n f [] = []
change_at zero f (x ∷ xs) = f x ∷ xs
change_at (suc n) f (x ∷ xs) = x ∷ change_at n f xs
