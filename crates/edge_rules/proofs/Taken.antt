-- What an iterator over parts takes.
use Rattle.edge_rules.proofs.Words.{◌≡◌, List, ◌∷◌, ◌++◌, [], Option, Some, None}

-- of all that were to come these are left: the one that was taken, or none, and what is left of its part and of the others
abbrev pub IsTaken : {X : Type 0} → List X → Option X → List X → List X → Type 0
IsTaken all None left rest = (all ≡ rest) × (left ≡ [])
IsTaken all (Some v) left rest = all ≡ v ∷ (left ++ rest)
