-- The first LF, by the places before it.
use Rattle.std.proofs.Common.{◌≡◌, ◌<◌, ◌≤◌, ◌+◌, ◌++◌, ◌∷◌, ◌∙◌, ℕ, zero, suc, List, [], length, take, drop, arith, ap, sym, subst, refl}
use Rattle.std.proofs.lemmas.Bool.Decides.{nat_tests}
use Rattle.std.proofs.lemmas.List.{take-append-drop, drop-drop, take_all}
use Rattle.std.proofs.Math.Seq.{take-add}
use Rattle.memchr.specs.Find.{Passes, is_byte}
use Rattle.mt_io.specs.Steps.{HasNoLf}
use Rattle.mt_io.proofs.LineFacts.{no_lf_cons, no_lf_append}

-- where the byte at no place before n is an LF
before_none : (xs : List ℕ) (n : ℕ) → n ≤ length xs → ((k : ℕ) → k < n → ¬ (Passes (is_byte 10) xs k)) → HasNoLf (take n xs)
before_none [] zero le none = refl
before_none [] (suc n) le none = refl
before_none (x ∷ xs) zero le none = refl
before_none (x ∷ xs) (suc n) le none =
    no_lf_cons x (take n xs) (λ is. none 0 (omega arith) (grind (arith, nat_tests))) (before_none xs n (omega arith) (λ k lt passes. none (suc k) (omega arith) passes))

-- a byte that is an LF
at_lf_suc : (xs : List ℕ) (n : ℕ) → n < length xs → Passes (is_byte 10) xs n → drop n xs ≡ 10 ∷ drop (suc n) xs
at_lf_suc [] n lt passes = absurd (omega arith)
at_lf_suc (x ∷ xs) zero lt passes = grind (arith, nat_tests)
at_lf_suc (x ∷ xs) (suc n) lt passes = at_lf_suc xs n (omega arith) passes

at_lf : (xs : List ℕ) (n : ℕ) → n < length xs → Passes (is_byte 10) xs n → drop n xs ≡ 10 ∷ drop (n + 1) xs
at_lf xs n lt passes = at_lf_suc xs n lt passes ∙ (λ k. 10 ∷ drop (same k) xs)
  where
    same : suc n ≡ n + 1
    same = omega arith

pub searched_none : (xs : List ℕ) (from : ℕ) → HasNoLf (take from xs) → ((k : ℕ) → 0 ≤ k → k < length (drop from xs) → ¬ (Passes (is_byte 10) (drop from xs) k)) → HasNoLf xs
searched_none xs from none later =
    subst HasNoLf (take-append-drop from xs) (no_lf_append (take from xs) (drop from xs) none (subst HasNoLf all (before_none (drop from xs) (length (drop from xs)) (omega arith) (λ k lt. later k (omega arith) lt))))
  where
    all : take (length (drop from xs)) (drop from xs) ≡ drop from xs
    all = take_all (length (drop from xs)) (drop from xs) (omega arith)

pub searched_some : (xs : List ℕ) (from i : ℕ) → HasNoLf (take from xs) → i < length (drop from xs) → ((k : ℕ) → 0 ≤ k → k < i → ¬ (Passes (is_byte 10) (drop from xs) k)) → Passes (is_byte 10) (drop from xs) i
    → HasNoLf (take (from + i) xs) × (xs ≡ take (from + i) xs ++ 10 ∷ drop (from + i + 1) xs)
searched_some xs from i none lt later passes = (
  subst HasNoLf (sym (take-add from i xs)) (no_lf_append (take from xs) (take i (drop from xs)) none (before_none (drop from xs) i (omega arith) (λ k below. later k (omega arith) below))),
  sym (take-append-drop (from + i) xs) ∙ ap (λ (l : List ℕ). take (from + i) xs ++ l) (sym (drop-drop i from xs) ∙ at_lf (drop from xs) i lt passes ∙ ap (λ (l : List ℕ). 10 ∷ l) (drop-drop (i + 1) from xs ∙ (λ k. drop (same k) xs))),
)
  where
    same : from + (i + 1) ≡ from + i + 1
    same = omega arith
