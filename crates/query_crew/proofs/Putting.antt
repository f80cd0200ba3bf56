-- A list in which one element was put.
use Rattle.query_crew.proofs.Words.{◌≡◌, ℕ, ◌<◌, List, length, set, sym, ap, subst, ◌∙◌, ⊎_elim, ◌⊎◌, inl, inr, true, false, get_or-set_other}
use Rattle.std.proofs.Common.{◌≢◌, get_or, eqb}
use Rattle.std.proofs.lemmas.Bool.Decides.{eqb_tells}
use Rattle.std.proofs.lemmas.List.{get_or-set_same}

same-or : (v w : ℕ) → (v ≡ w) ⊎ (v ≢ w)
same-or v w = ⊎_elim (λ (t : (eqb v w ≡ true) × (v ≡ w)). inl t.1) (λ (t : (eqb v w ≡ false) × (v ≢ w)). inr t.1) (eqb_tells v w)

pub at-put : {X : Type 0} (P : X → Type 0) (xs : List X) (i k : ℕ) (y d : X) → i < length xs → (k ≡ i → P y) → (k ≢ i → P (get_or xs k d)) → P (get_or (set xs i y) k d)
at-put P xs i k y d lt here there = ⊎_elim
    (λ (e : k ≡ i). subst P (sym (ap (λ j. get_or (set xs i y) j d) e ∙ get_or-set_same xs i y d lt)) (here e))
    (λ (n : k ≢ i). subst P (sym (get_or-set_other xs i k y d n)) (there n))
    (same-or k i)
