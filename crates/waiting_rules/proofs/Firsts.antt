-- The place of the first element that passes a test.
use Rattle.waiting_rules.proofs.Words.{◌≡◌, ℕ, ◌+◌, ◌≤◌, min, Bool, true, false, cond, ◌||◌, nat_lt, List, [], ◌∷◌, ◌++◌, length, Option, Some, None, unwrap_or, inl, inr, refl, ◌∙◌, ap, arith, All, position, position_or_len, option_or, cases_Bool, cases_lt, lt-ltb, le-ltb}
use Rattle.std.proofs.Common.{not, eqb, length-append}
use Rattle.std.proofs.lemmas.Bool.{eq-eqb, ne_eqb}
use Rattle.std.proofs.lemmas.List.Folds.{position_or_len_push}
use Rattle.std.proofs.lemmas.List.Elements.{All-head, All-tail}

pub first-small : {X : Type 0} (p : X → Bool) (xs : List X) → position_or_len p xs ≤ length xs
first-small p [] = omega arith
first-small p (x ∷ xs) = elim (cases_Bool (p x)) [
  | inl here ↦ rw here (omega arith)
  | inr other ↦ rw other (omega (arith, first-small p xs))
]

-- a test that nothing passes
pub first-none : {X : Type 0} (xs : List X) → length xs ≡ position_or_len (λ (x : X). false) xs
first-none [] = refl
first-none (x ∷ xs) = omega (arith, first-none xs)

-- the first that passes one of two tests is the first by one of them
pub first-either : {X : Type 0} (p q : X → Bool) (xs : List X) → position_or_len (λ x. p x || q x) xs ≡ min (position_or_len p xs) (position_or_len q xs)
first-either p q [] = omega arith
first-either p q (x ∷ xs) = elim (cases_Bool (p x)) [
  | inl here ↦ rw here (omega arith)
  | inr other ↦ elim (cases_Bool (q x)) [
    | inl here ↦ rw (other, here) (omega arith)
    | inr neither ↦ rw (other, neither) (omega (arith, first-either p q xs))
  ]
]

-- two tests that agree at each element
pub first-agree : {X : Type 0} (p q : X → Bool) (xs : List X) → All (λ x. p x ≡ q x) xs → position_or_len p xs ≡ position_or_len q xs
first-agree p q [] h = refl
first-agree p q (x ∷ xs) h =
    ap (λ b. cond (not b) (1 + position_or_len p xs) 0) (All-head (λ x. p x ≡ q x) x xs h)
    ∙ ap (λ n. cond (not (q x)) (1 + n) 0) (first-agree p q xs (All-tail (λ x. p x ≡ q x) x xs h))

place : ℕ → ℕ → Option ℕ
place n l = cond (nat_lt n l) (Some n) None

place-more : (n l : ℕ) (b : Bool) → n ≤ l → place (cond (eqb n l) (l + cond b 0 1) n) (l + 1) ≡ option_or (place n l) (cond b (Some l) None)
unfolding place
place-more n l true h = elim (cases_lt n l) [
  | inl there ↦ rw (lt-ltb n l there, ne_eqb n l (λ e. omega arith), lt-ltb n (l + 1) (omega arith)) refl
  | inr none ↦ let e : n ≡ l = omega arith in rw (le-ltb n l none, eq-eqb n l e, lt-ltb (l + 0) (l + 1) (omega arith)) (ap (λ (k : ℕ). Some k) (omega arith))
]
place-more n l false h = elim (cases_lt n l) [
  | inl there ↦ rw (lt-ltb n l there, ne_eqb n l (λ e. omega arith), lt-ltb n (l + 1) (omega arith)) refl
  | inr none ↦ let e : n ≡ l = omega arith in rw (le-ltb n l none, eq-eqb n l e, le-ltb (l + 1) (l + 1) (omega arith)) refl
]

-- one more element at the end
pub position-end : {X : Type 0} (p : X → Bool) (xs : List X) (y : X) → position p (xs ++ y ∷ []) ≡ option_or (position p xs) (cond (p y) (Some (length xs)) None)
unfolding place
position-end p xs y =
    ap (λ n. place n (length (xs ++ y ∷ []))) (position_or_len_push p xs y)
    ∙ ap (place (cond (eqb (position_or_len p xs) (length xs)) (length xs + cond (p y) 0 1) (position_or_len p xs))) (length-append xs (y ∷ []))
    ∙ place-more (position_or_len p xs) (length xs) (p y) (first-small p xs)

-- an earlier place, or that of the first
pub min-position : {X : Type 0} (p : X → Bool) (xs : List X) (n : ℕ) → n ≤ length xs → min n (unwrap_or (position p xs) n) ≡ min n (position_or_len p xs)
min-position p xs n h = elim (cases_lt (position_or_len p xs) (length xs)) [
  | inl there ↦ rw (lt-ltb (position_or_len p xs) (length xs) there) refl
  | inr none ↦ rw (le-ltb (position_or_len p xs) (length xs) none) (omega arith)
]
