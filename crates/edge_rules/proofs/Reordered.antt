-- What holds of each two elements of a list in another order.
use Rattle.edge_rules.proofs.Words.{ℕ, List, nat_tests, length-swap, swap, swapped_from_swap, refl, arith, AllPairs, IsPermutation, IsPermutation-keeps}

-- a relation that holds both ways
pub pairs-permuted : {X : Type 0} (R : X → X → Type 0) → ((x y : X) → R x y → R y x) → (xs ys : List X) → IsPermutation xs ys → AllPairs R xs → AllPairs R ys
pairs-permuted R turn xs ys p h = IsPermutation-keeps xs (AllPairs R) h (λ l a b la lb k i j d less m.
    grind (arith, nat_tests, length-swap l a b, swapped_from_swap l (swap l a b) a b d la lb refl, turn, λ (s t : ℕ). k s t d)) ys p
