-- Parts of a list, up to or from the first element that passes a test.
use Rattle.std.specs.Prelude.{List, [], ◌∷◌, Bool, if◌then◌else◌}

-- what stands before the first that passes; all, where none does
abbrev pub before : {X : Type 0} → (X → Bool) → List X → List X
before p [] = []
before p (x ∷ xs) = if p x then [] else x ∷ before p xs

-- what stands after the first that passes; nothing, where none does
abbrev pub after : {X : Type 0} → (X → Bool) → List X → List X
after p [] = []
after p (x ∷ xs) = if p x then xs else after p xs

-- the first that passes, and what stands after it
abbrev pub from : {X : Type 0} → (X → Bool) → List X → List X
from p [] = []
from p (x ∷ xs) = if p x then x ∷ xs else from p xs

-- what stands before the first that passes, and that one
abbrev pub up_to : {X : Type 0} → (X → Bool) → List X → List X
up_to p [] = []
up_to p (x ∷ xs) = if p x then x ∷ [] else x ∷ up_to p xs
