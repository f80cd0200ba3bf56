-- The elements of a list whose flags are set.
use Rattle.station_index.proofs.Words.{◌≡◌, ◌≢◌, ℕ, zero, suc, ◌<◌, ◌≤◌, List, [], ◌∷◌, Bool, true, false, length, get_or, take, drop, refl, sym, ap, arith, All, set, filter, HoldsAt, All-cons, All-head, All-nil, All-tail, kept}
use Rattle.std.proofs.Common.{replicate}

module _ {X : Type 0} where
  pub kept-all : (xs : List X) (n : ℕ) → n ≡ length xs → kept xs (replicate n true) ≡ xs
  kept-all [] n h = refl
  kept-all (x ∷ xs) zero h = absurd (omega arith)
  kept-all (x ∷ xs) (suc n) h = ap (λ r. x ∷ r) (kept-all xs n (omega arith))

  -- flags at the front that are not set
  pub kept-dead : (n : ℕ) (xs : List X) (fs : List Bool) → n ≤ length fs → ((k : ℕ) → k < n → get_or fs k true ≡ false) → kept (drop n xs) (drop n fs) ≡ kept xs fs
  kept-dead zero xs fs l h = refl
  kept-dead (suc n) [] fs l h = refl
  kept-dead (suc n) (x ∷ xs) [] l h = absurd (omega arith)
  kept-dead (suc n) (x ∷ xs) (b ∷ fs) l h = rw (h 0 (omega arith)) (kept-dead n xs fs (omega arith) (λ k m. h (suc k) (omega (arith, m))))

  kept-nil : (xs : List X) → kept xs [] ≡ []
  kept-nil [] = refl
  kept-nil (x ∷ xs) = refl

  -- what holds of each element holds of each that is kept
  pub kept-holds : (P : X → Type 0) (xs : List X) (fs : List Bool) → All P xs → All P (kept xs fs)
  kept-holds P [] fs h = h
  kept-holds P (x ∷ xs) [] h = All-nil P
  kept-holds P (x ∷ xs) (true ∷ fs) h = All-cons P x (kept xs fs) (All-head P x xs h) (kept-holds P xs fs (All-tail P x xs h))
  kept-holds P (x ∷ xs) (false ∷ fs) h = kept-holds P xs fs (All-tail P x xs h)

  module _ (p : X → Bool) where
    -- all pass
    pub kept-pass : (xs : List X) (fs : List Bool) → All (λ x. p x ≡ true) xs → filter p (kept xs fs) ≡ kept xs fs
    kept-pass [] fs h = refl
    kept-pass (x ∷ xs) [] h = refl
    kept-pass (x ∷ xs) (true ∷ fs) h = rw (h 0 x (omega arith)) (ap (λ r. x ∷ r) (kept-pass xs fs (λ k d l. h (suc k) d (omega arith))))
    kept-pass (x ∷ xs) (false ∷ fs) h = kept-pass xs fs (λ k d l. h (suc k) d (omega arith))

    -- none passes
    pub kept-none : (xs : List X) (fs : List Bool) → All (λ x. p x ≡ false) xs → filter p (kept xs fs) ≡ []
    kept-none [] fs h = refl
    kept-none (x ∷ xs) [] h = refl
    kept-none (x ∷ xs) (true ∷ fs) h = rw (h 0 x (omega arith)) (kept-none xs fs (λ k d l. h (suc k) d (omega arith)))
    kept-none (x ∷ xs) (false ∷ fs) h = kept-none xs fs (λ k d l. h (suc k) d (omega arith))

    -- all pass but the one at a place
    pub kept-clear : (xs : List X) (fs : List Bool) (i : ℕ) → ((k : ℕ) (d : X) → k < length xs → k ≢ i → p (get_or xs k d) ≡ true) → HoldsAt (λ x. p x ≡ false) xs i → kept xs (set fs i false) ≡ filter p (kept xs fs)
    kept-clear [] fs i h n = refl
    kept-clear (x ∷ xs) [] i h n = refl
    kept-clear (x ∷ xs) (true ∷ fs) zero h n = rw (n x) (sym (kept-pass xs fs (λ k d m. h (suc k) d (omega arith) (λ e. absurd (omega arith)))))
    kept-clear (x ∷ xs) (false ∷ fs) zero h n = sym (kept-pass xs fs (λ k d m. h (suc k) d (omega arith) (λ e. absurd (omega arith))))
    kept-clear (x ∷ xs) (true ∷ fs) (suc i) h n =
        rw (h 0 x (omega arith) (λ e. absurd (omega arith))) (ap (λ r. x ∷ r) (kept-clear xs fs i (λ k d m o. h (suc k) d (omega arith) (λ e. o (omega arith))) (λ d. n d)))
    kept-clear (x ∷ xs) (false ∷ fs) (suc i) h n = kept-clear xs fs i (λ k d m o. h (suc k) d (omega arith) (λ e. o (omega arith))) (λ d. n d)

    -- none passes at the front
    pub kept-from : (n : ℕ) (xs : List X) (fs : List Bool) → ((k : ℕ) (d : X) → k < n → k < length xs → p (get_or xs k d) ≡ false) → filter p (kept (drop n xs) (drop n fs)) ≡ filter p (kept xs fs)
    kept-from zero xs fs h = refl
    kept-from (suc n) [] fs h = refl
    kept-from (suc n) (x ∷ xs) [] h = ap (filter p) (kept-nil (drop n xs))
    kept-from (suc n) (x ∷ xs) (true ∷ fs) h = rw (h 0 x (omega arith) (omega arith)) (kept-from n xs fs (λ k d l m. h (suc k) d (omega (arith, l)) (omega (arith, m))))
    kept-from (suc n) (x ∷ xs) (false ∷ fs) h = kept-from n xs fs (λ k d l m. h (suc k) d (omega (arith, l)) (omega (arith, m)))

    -- those at the front pass, and no other
    pub kept-up_to : (n : ℕ) (xs : List X) (fs : List Bool) → ((k : ℕ) (d : X) → k < n → k < length xs → p (get_or xs k d) ≡ true) → ((k : ℕ) (d : X) → n ≤ k → k < length xs → p (get_or xs k d) ≡ false) → kept (take n xs) (take n fs) ≡ filter p (kept xs fs)
    kept-up_to zero xs fs h k = sym (kept-none xs fs (λ i d l. k i d (omega arith) l))
    kept-up_to (suc n) [] fs h k = refl
    kept-up_to (suc n) (x ∷ xs) [] h k = refl
    kept-up_to (suc n) (x ∷ xs) (true ∷ fs) h k =
        rw (h 0 x (omega arith) (omega arith)) (ap (λ r. x ∷ r) (kept-up_to n xs fs (λ i d l m. h (suc i) d (omega (arith, l)) (omega (arith, m))) (λ i d l m. k (suc i) d (omega (arith, l)) (omega (arith, m)))))
    kept-up_to (suc n) (x ∷ xs) (false ∷ fs) h k =
        kept-up_to n xs fs (λ i d l m. h (suc i) d (omega (arith, l)) (omega (arith, m))) (λ i d l m. k (suc i) d (omega (arith, l)) (omega (arith, m)))
