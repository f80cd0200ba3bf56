-- Where the first LF of bytes stands.
use Rattle.std.proofs.Common.{◌≡◌, ◌<◌, ◌≤◌, ◌+◌, ◌++◌, ◌∷◌, ◌∙◌, ℕ, zero, suc, List, [], length, take, drop, arith, ap, sym, subst, refl}
use Rattle.std.proofs.lemmas.Bool.Decides.{nat_tests}
use Rattle.std.proofs.lemmas.List.{take-append-drop, take_all}
use Rattle.memchr.specs.Find.{Passes, is_byte}
use Rattle.mt_io.specs.Steps.{HasNoLf}
use Rattle.mt_io.proofs.LineFacts.{no_lf_cons}

-- where none of the first bytes is an LF
none-before : (xs : List ℕ) (n : ℕ) → n ≤ length xs → ((k : ℕ) → k < n → ¬ (Passes (is_byte 10) xs k)) → HasNoLf (take n xs)
none-before [] zero le none = refl
none-before [] (suc n) le none = refl
none-before (x ∷ xs) zero le none = refl
none-before (x ∷ xs) (suc n) le none =
    no_lf_cons x (take n xs) (λ is. none 0 (omega arith) (grind (arith, nat_tests))) (none-before xs n (omega arith) (λ k lt passes. none (suc k) (omega arith) passes))

-- a byte that is one
lf-at : (xs : List ℕ) (n : ℕ) → n < length xs → Passes (is_byte 10) xs n → drop n xs ≡ 10 ∷ drop (suc n) xs
lf-at [] n lt passes = absurd (omega arith)
lf-at (x ∷ xs) zero lt passes = grind (arith, nat_tests)
lf-at (x ∷ xs) (suc n) lt passes = lf-at xs n (omega arith) passes

pub found-none : (xs : List ℕ) → ((k : ℕ) → 0 ≤ k → k < length xs → ¬ (Passes (is_byte 10) xs k)) → HasNoLf xs
found-none xs none = subst HasNoLf (take_all (length xs) xs (omega arith)) (none-before xs (length xs) (omega arith) (λ k lt. none k (omega arith) lt))

pub found-lf : (xs : List ℕ) (i : ℕ) → i < length xs → ((k : ℕ) → 0 ≤ k → k < i → ¬ (Passes (is_byte 10) xs k)) → Passes (is_byte 10) xs i
    → HasNoLf (take i xs) × (xs ≡ take i xs ++ 10 ∷ drop (i + 1) xs)
found-lf xs i lt none passes =
    let next : suc i ≡ i + 1 = omega arith in (
      none-before xs i (omega arith) (λ k below. none k (omega arith) below),
      sym (take-append-drop i xs) ∙ ap (λ (l : List ℕ). take i xs ++ l) (lf-at xs i lt passes ∙ ap (λ (n : ℕ). 10 ∷ drop n xs) next),
    )
