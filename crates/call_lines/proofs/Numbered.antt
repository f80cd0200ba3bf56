-- Calls whose labels count up.
use Rattle.call_lines.proofs.Words.{◌≡◌, ℕ, ◌+◌, ◌<◌, ◌≤◌, List, [], ◌∷◌, length, arith, All}
use Rattle.call_lines.proofs.Words.{elements, NewCall, Call, new_calls, HasDistinctLabels, TableCall, loaded_from}

-- so many calls, labelled from `label` on
pub record AreNumbered (label count : ℕ) (cs : List Call) : Type 0 where
  pub length_is : length cs ≡ count
  pub from : All (λ c. label ≤ c.label) cs
  pub below : All (λ c. c.label < label + count) cs
  pub distinct : HasDistinctLabels cs

pub numbered-new : (k : ℕ) (cs : List NewCall) → AreNumbered k (length cs) (new_calls k cs)
numbered-new k [] = grind (arith, elements)
numbered-new k (c ∷ cs) = grind (arith, elements, numbered-new (k + 1) cs)

pub numbered-loaded : (count k : ℕ) (cs : List TableCall) → AreNumbered k (length cs) (loaded_from count k cs)
numbered-loaded count k [] = grind (arith, elements)
numbered-loaded count k (c ∷ cs) = grind (arith, elements, numbered-loaded count (k + 1) cs)
