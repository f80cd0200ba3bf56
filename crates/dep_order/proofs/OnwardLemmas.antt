-- What stands beside the departure of a call, once it was told anew.
use Rattle.dep_order.proofs.Words.{◌≡◌, ◌≢◌, ◌<◌, ℕ, suc, inl, inr, List, [], ◌∷◌, arith, Option, None, Some, refl, ◌∙◌, ap, cases_Bool, get_or, length, set, get_or-set_same, Departure, Onward, HaveDistinctCalls, blank_onward, held, is_of_call, number_of}
use Rattle.std.specs.Prelude.{if◌then◌else◌}
use Rattle.dep_order.proofs.NumberLemmas.{number-held, one-number}

set-else : (os : List Onward) (n m : ℕ) (o : Onward) → m ≢ n → get_or (set os n o) m blank_onward ≡ get_or os m blank_onward
set-else [] n m o far = refl
set-else (p ∷ os) (suc n) (suc m) o far = set-else os n m o (λ e. far (ap suc e))
set-else (p ∷ os) n m o far = grind (arith, far)

module _ (es : List (Option Departure)) (os : List Onward) (distinct : HaveDistinctCalls es) (t l : ℕ) where
  pub told-one : (f : Onward → Onward) (n : ℕ) (o : Onward) → number_of es t l ≡ Some n → n < length os → o ≡ f (get_or os n blank_onward) → (m : ℕ) (d : Departure) → held es m ≡ Some d → get_or (set os n o) m blank_onward ≡ (if is_of_call t l d then f (get_or os m blank_onward) else get_or os m blank_onward)
  told-one f n o is low own m d at =
      elim (cases_Bool (is_of_call t l d)) [
        | inl mine ↦ (
            let one = one-number es t l m d distinct at mine in
            let same : m ≡ n = cc in
            rw (mine, same) (get_or-set_same os n o blank_onward low ∙ own))
        | inr other ↦ (
            let e = number-held es t l n is in
            let apart : m ≢ n = λ same. (let k = rw same at at in let there = e.1 in let it : d ≡ e.0 = cc in let h = e.2 in let g = rw it at other in cc) in
            rw other (set-else os n m o apart))
      ]

  pub told-none : (f : Onward → Onward) → number_of es t l ≡ None → (m : ℕ) (d : Departure) → held es m ≡ Some d → get_or os m blank_onward ≡ (if is_of_call t l d then f (get_or os m blank_onward) else get_or os m blank_onward)
  told-none f none m d at =
      elim (cases_Bool (is_of_call t l d)) [
        | inl mine ↦ (let one = one-number es t l m d distinct at mine in absurd (cc))
        | inr other ↦ rw other refl
      ]
