-- Places in a list by a test.
use Rattle.std.specs.Prelude.{◌≡◌, ℕ, zero, suc, ◌<◌, List, [], ◌∷◌, Bool, true, false, length}
use Rattle.delay_model.specs.declared.state.Call.{Call}
use Rattle.delay_model.specs.Effect.{is_call}
use Rattle.delay_model.specs.Valid.{HasDistinctLabels}

-- the first element that passes the test is the one at this place
abbrev pub IsFirst : {X : Type 0} → (X → Bool) → ℕ → List X → Type 0
IsFirst p place [] = ⊥
IsFirst p zero (x ∷ xs) = p x ≡ true
IsFirst p (suc place) (x ∷ xs) = (p x ≡ false) × IsFirst p place xs

-- the two calls of these labels stand at these places, the one before the other
pub record AreInOrder (from to first last : ℕ) (cs : List Call) : Type 0 where
  pub labels : HasDistinctLabels cs
  pub start : IsFirst (is_call from) first cs
  pub end : IsFirst (is_call to) last cs
  pub order : first < last
  pub within : last < length cs
