-- What stands in a list, after another, with more behind it, and where one element is set.
use Rattle.event_numbers.proofs.Words.{◌-◌, ◌≡◌, ◌≢◌, ℕ, suc, ◌+◌, ◌<◌, List, [], ◌∷◌, ◌++◌, Some, length, ◌∙◌, arith, refl, slice_get, set, change_at, cond, nat_eq, nat_lt, option_map, nat_tests}
use Rattle.event_numbers.proofs.Words.{slice_get_within, slice_get_cases}

-- two lists in which the same stands at each place are one
pub same-gets : {X : Type 0} (xs ys : List X) → ((i : ℕ) → slice_get xs i ≡ slice_get ys i) → xs ≡ ys
same-gets [] [] h = refl
same-gets (x ∷ xs) (y ∷ ys) h = grind (arith, h 0, same-gets xs ys (λ i. h (suc i)))
same-gets xs ys h = grind (arith, h 0)

-- what stands in two lists one after the other
pub get-append : {X : Type 0} (xs ys : List X) (i : ℕ) → slice_get (xs ++ ys) i ≡ cond (nat_lt i (length xs)) (slice_get xs i) (slice_get ys (i - length xs))
get-append (x ∷ xs) ys (suc i) = grind (arith, nat_tests, get-append xs ys i)
get-append xs ys i = grind (arith, nat_tests)

pub get-old : {X : Type 0} (xs ys : List X) (i : ℕ) → i < length xs → slice_get (xs ++ ys) i ≡ slice_get xs i
get-old xs ys i l = grind (arith, nat_tests, get-append xs ys i)

pub get-past : {X : Type 0} (xs ys : List X) (i j : ℕ) → i ≡ length xs + j → slice_get (xs ++ ys) i ≡ slice_get ys j
get-past xs ys i j e = grind (arith, nat_tests, get-append xs ys i)

pub get-end : {X : Type 0} (xs ys : List X) (y : X) (i : ℕ) → i ≡ length xs → slice_get (xs ++ y ∷ ys) i ≡ Some y
get-end xs ys y i e = get-past xs (y ∷ ys) i 0 (omega arith)

-- what stands in a list stands there with more behind it
pub get-more : {X : Type 0} (xs ys : List X) (i : ℕ) (x : X) → slice_get xs i ≡ Some x → slice_get (xs ++ ys) i ≡ Some x
get-more xs ys i x h = get-old xs ys i (slice_get_within xs i x h) ∙ h

-- where one element is set
pub set-get : {X : Type 0} (xs : List X) (i : ℕ) (x : X) (j : ℕ) → slice_get (set xs i x) j ≡ cond (nat_eq i j) (option_map (λ _. x) (slice_get xs j)) (slice_get xs j)
set-get (y ∷ xs) (suc i) x (suc j) = grind (arith, nat_tests, set-get xs i x j)
set-get xs i x j = grind (arith, nat_tests)

pub slice_get-set_same : {X : Type 0} (xs : List X) (i : ℕ) (x : X) → i < length xs → slice_get (set xs i x) i ≡ Some x
slice_get-set_same xs i x l = grind (arith, nat_tests, set-get xs i x i, slice_get_cases xs i)

pub slice_get-set_other : {X : Type 0} (xs : List X) (i j : ℕ) (x : X) → j ≢ i → slice_get (set xs i x) j ≡ slice_get xs j
slice_get-set_other xs i j x n = grind (arith, nat_tests, set-get xs i x j)

-- where one element is changed
pub change-get : {X : Type 0} (xs : List X) (f : X → X) (t u : ℕ) → slice_get (change_at t f xs) u ≡ cond (nat_eq t u) (option_map f (slice_get xs u)) (slice_get xs u)
change-get (x ∷ xs) f (suc t) (suc u) = grind (arith, nat_tests, change-get xs f t u)
change-get xs f t u = grind (arith, nat_tests)
