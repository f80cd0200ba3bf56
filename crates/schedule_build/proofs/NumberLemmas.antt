-- The number of the first for which a test holds.
use Rattle.schedule_build.proofs.Words.{◌≡◌, ◌+◌, ◌-◌, ◌<◌, ◌≤◌, ◌++◌, ◌∷◌, [], ℕ, suc, List, Option, Some, None, Bool, true, false, length, All, map, inl, inr, refl, arith, if◌then◌else◌}
use Rattle.schedule_build.proofs.Words.{slice_index_or, number_from}
use Rattle.std.proofs.lemmas.Bool.{cases_Bool}
use Rattle.std.specs.Option.{option_map}

-- the first number, or else another
abbrev pub first_of : Option ℕ → Option ℕ → Option ℕ
first_of None other = other
first_of (Some n) other = Some n

pub number_from-map : {X Y : Type 0} (f : X → Y) (test : Y → Bool) (at : ℕ) (xs : List X) → number_from at test (map f xs) ≡ number_from at (λ x. test (f x)) xs
number_from-map f test at [] = refl
number_from-map f test at (x ∷ xs) = rw (number_from-map f test (at + 1) xs) refl

-- one more at the end
pub number_from-end : {X : Type 0} (test : X → Bool) (at : ℕ) (xs : List X) (y : X) → number_from at test (xs ++ y ∷ []) ≡ first_of (number_from at test xs) (if test y then Some (at + length xs) else None)
number_from-end test at [] y = grind arith
number_from-end test at (x ∷ xs) y = grind (arith, number_from-end test (at + 1) xs y)

-- one list after another
number_from-on : {X : Type 0} (test : X → Bool) (at more : ℕ) (xs : List X) → number_from (more + at) test xs ≡ option_map (λ n. more + n) (number_from at test xs)
number_from-on test at more [] = refl
number_from-on test at more (x ∷ xs) = let next : more + at + 1 ≡ more + (at + 1) = omega arith in grind (arith, number_from-on test (at + 1) more xs)

pub numbers_after : {X : Type 0} (test : X → Bool) (xs ys : List X) → number_from 0 test (xs ++ ys) ≡ first_of (number_from 0 test xs) (option_map (λ n. length xs + n) (number_from 0 test ys))
numbers_after test xs ys = rw (from 0 xs, ← number_from-on test 0 (length xs) ys) refl
  where
    from : (at : ℕ) (zs : List _) → number_from at test (zs ++ ys) ≡ first_of (number_from at test zs) (number_from (length zs + at) test ys)
    from at [] = let e : 0 + at ≡ at = omega arith in rw e refl
    from at (z ∷ zs) = let e : suc (length zs) + at ≡ length zs + (at + 1) = omega arith in rw e (grind (arith, from (at + 1) zs))

-- a number that was found is one of the list's, and the test holds there
pub record IsFound {X : Type 0} (test : X → Bool) (at : ℕ) (xs : List X) (n : ℕ) : Type 0 where
  pub after : at ≤ n
  pub before : n < at + length xs
  pub holds : (d : X) → test (slice_index_or xs (n - at) d) ≡ true

pub is_found : {X : Type 0} (test : X → Bool) (at : ℕ) (xs : List X) (n : ℕ) → number_from at test xs ≡ Some n → IsFound test at xs n
is_found test at [] n h = absurd (cc)
is_found test at (x ∷ xs) n h = elim (cases_Bool (test x)) [
  | inl here ↦ grind arith
  | inr other ↦
      let rest = is_found test (at + 1) xs n (rw other at h) in
      let step : n - at ≡ suc (n - (at + 1)) = omega arith in
      record { after = omega arith; before = omega arith; holds = λ d. rw step (rest.holds d) }
]

-- two tests that agree wherever something holds that holds of all
pub number_from-agree : {X : Type 0} (P : X → Type 0) (test other : X → Bool) (at : ℕ) (xs : List X) → All P xs → ((x : X) → P x → test x ≡ other x) → number_from at test xs ≡ number_from at other xs
number_from-agree P test other at [] h same = refl
number_from-agree P test other at (x ∷ xs) h same = rw (same x (h 0 x (omega arith)), number_from-agree P test other (at + 1) xs (λ k d l. h (suc k) d (omega arith)) same) refl

-- a test that never holds
pub number_from-none : {X : Type 0} (at : ℕ) (xs : List X) → number_from at (λ (x : X). false) xs ≡ None
number_from-none at [] = refl
number_from-none at (x ∷ xs) = number_from-none (at + 1) xs
