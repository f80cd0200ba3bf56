-- A part of a list, one element after another.
use Rattle.block_lists.proofs.Words.{◌≡◌, ℕ, suc, ◌+◌, ◌-◌, ◌<◌, ◌≤◌, List, ◌∷◌, length, take, drop, ◌∙◌, ap, arith, length-take}
use Rattle.std.proofs.lemmas.List.{drop_more}

-- what is left behind the first
pub range-step : {X : Type 0} (xs : List X) (from end : ℕ) (x : X) → end ≤ length xs → take (end - from) (drop from xs) ≡ x ∷ drop 1 (take (end - from) (drop from xs)) → take (end - from) (drop from xs) ≡ x ∷ take (end - (from + 1)) (drop (from + 1) xs)
range-step {X} xs from end x within first =
    let some : from < end = omega (arith, ap length first, length-take (end - from) (drop from xs)) in
    let n = end - from - 1 in
    let count : end - from ≡ suc n = omega (arith, some) in
    let rest : drop 1 (take (end - from) (drop from xs)) ≡ take (end - (from + 1)) (drop (from + 1) xs) = rw (count, drop_more xs from x (omega (arith, some, within))) (ap (λ m. take m (drop (from + 1) xs)) (omega arith)) in
    first ∙ ap (λ ys. x ∷ ys) rest
