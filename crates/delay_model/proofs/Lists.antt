-- Lists: counts by two tests, what a filter keeps, and what holds of each two elements.
use Rattle.std.proofs.Common.{◌≡◌, ℕ, zero, suc, ◌<◌, ◌≤◌, Bool, true, false, cond, List, [], ◌∷◌, ◌++◌, length, get_or, refl, sym, ◌∙◌, ap, arith, ◌⊎◌, inl, inr}
use Rattle.std.proofs.Math.Logic.{◌≢◌}
use Rattle.std.specs.List.{All, AllPairs, Contains, count_by, filter, flat_map}
use Rattle.std.proofs.lemmas.Bool.{cond_both, cond-true, cond-false}
use Rattle.std.proofs.lemmas.List.Sums.{sum_by-cons, sum_by-le-sum_by}
use Rattle.std.proofs.lemmas.List.Elements.{All-append, All-nil, All-tail, All-head, All-contains}

one-le : (b c : Bool) → (b ≡ true → c ≡ true) → cond b 1 0 ≤ cond c 1 0
one-le false c h = omega arith
one-le true c h = rw (h refl) (omega arith)

-- a test that passes all that another passes, and one element more, counts more
pub count_by-lt : {X : Type 0} (p q : X → Bool) (xs : List X) (x : X) → ((y : X) → p y ≡ true → q y ≡ true) → (k : ℕ) → k < length xs → get_or xs k x ≡ x → p x ≡ false → q x ≡ true → count_by p xs < count_by q xs
count_by-lt p q [] x h k l at fails passes = absurd (omega arith)
count_by-lt {X} p q (y ∷ ys) x h zero l at fails passes =
    let a = sum_by-cons (λ x. cond (p x) 1 0) y ys in
    let b = sum_by-cons (λ x. cond (q x) 1 0) y ys in
    let c : count_by p ys ≤ count_by q ys = sum_by-le-sum_by (λ x. cond (p x) 1 0) (λ x. cond (q x) 1 0) ys (λ x. one-le (p x) (q x) (h x)) in
    let none = cond-false {A = ℕ} (p y) 1 0 (ap p at ∙ fails) in
    let one = cond-true {A = ℕ} (q y) 1 0 (ap q at ∙ passes) in
    omega arith
count_by-lt p q (y ∷ ys) x h (suc k) l at fails passes =
    let a = sum_by-cons (λ x. cond (p x) 1 0) y ys in
    let b = sum_by-cons (λ x. cond (q x) 1 0) y ys in
    let c = count_by-lt p q ys x h k (omega arith) at fails passes in
    let d = one-le (p y) (q y) (h y) in
    omega arith

-- what holds in each part of a list holds in the list
pub All-flat_map : {X Y : Type 0} (P : Y → Type 0) (f : X → List Y) (xs : List X) → All (λ x. All P (f x)) xs → All P (flat_map f xs)
All-flat_map P f [] h = All-nil P
All-flat_map P f (x ∷ xs) h =
    All-append P (f x) (flat_map f xs) (All-head (λ y. All P (f y)) x xs h) (All-flat_map P f xs (All-tail (λ y. All P (f y)) x xs h))

contains_at : {X : Type 0} (x : X) (xs : List X) (y : X) (k : ℕ) → k < length (x ∷ xs) → get_or (x ∷ xs) k y ≡ y → (x ≡ y) ⊎ Contains xs y
contains_at x xs y zero l at = inl at
contains_at x xs y (suc k) l at = inr (k, omega arith, at)

-- what a list contains is its first element, or its tail contains it
pub Contains-cases : {X : Type 0} (x : X) (xs : List X) (y : X) → Contains (x ∷ xs) y → (x ≡ y) ⊎ Contains xs y
Contains-cases x xs y h = contains_at x xs y h.0 h.1 h.2

-- a list contains what its tail contains
pub Contains-there : {X : Type 0} (x : X) (xs : List X) (y : X) → Contains xs y → Contains (x ∷ xs) y
Contains-there x xs y h = (suc h.0, omega arith, h.2)

-- a filter keeps what passes its test
pub Contains-filter : {X : Type 0} (p : X → Bool) (xs : List X) (x : X) → Contains xs x → p x ≡ true → Contains (filter p xs) x
Contains-filter p [] x h passes = let l = h.1 in absurd (omega arith)
Contains-filter p (y ∷ ys) x h passes =
    let rest = filter p ys in
    elim (Contains-cases y ys x h) [
      | inl at ↦ cond_both (p y) (y ∷ rest) rest (λ zs. Contains zs x) (λ _. (0, omega arith, at)) (λ fails. let same : p y ≡ p x = ap p at in absurd (cc))
      | inr later ↦
          let there = Contains-filter p ys x later passes in
          cond_both (p y) (y ∷ rest) rest (λ zs. Contains zs x) (λ _. Contains-there y rest x there) (λ _. there)
    ]

-- no two elements of the empty list
pub AllPairs-nil : {X : Type 0} (R : X → X → Type 0) → AllPairs R []
AllPairs-nil R = λ i j d l m. absurd (omega arith)

pairs_at : {X : Type 0} (R : X → X → Type 0) (x : X) (xs : List X) → All (R x) xs → AllPairs R xs → (i j : ℕ) (d : X) → i < j → j < length (x ∷ xs) → R (get_or (x ∷ xs) i d) (get_or (x ∷ xs) j d)
pairs_at R x xs h k i zero d l m = absurd (omega arith)
pairs_at R x xs h k zero (suc j) d l m = h j d (omega arith)
pairs_at R x xs h k (suc i) (suc j) d l m = k i j d (omega arith) (omega arith)

-- an element that is related to each of a list, before that list
pub AllPairs-cons : {X : Type 0} (R : X → X → Type 0) (x : X) (xs : List X) → All (R x) xs → AllPairs R xs → AllPairs R (x ∷ xs)
AllPairs-cons R x xs h k = λ i j d l m. pairs_at R x xs h k i j d l m

-- what relates each two elements relates those of the tail
pub AllPairs-tail : {X : Type 0} (R : X → X → Type 0) (x : X) (xs : List X) → AllPairs R (x ∷ xs) → AllPairs R xs
AllPairs-tail R x xs h = λ i j d l m. h (suc i) (suc j) d (omega arith) (omega arith)

-- and an element to each after it
pub AllPairs-after : {X : Type 0} (R : X → X → Type 0) (xs : List X) (x : X) (ys : List X) → AllPairs R (xs ++ x ∷ ys) → All (R x) ys
AllPairs-after R [] x ys h = λ k d l. h 0 (suc k) d (omega arith) (omega arith)
AllPairs-after R (w ∷ xs) x ys h = AllPairs-after R xs x ys (AllPairs-tail R w (xs ++ x ∷ ys) h)

-- two lists of which each element of the first is related to each of the second
pub AllPairs-append : {X : Type 0} (R : X → X → Type 0) (xs ys : List X) → AllPairs R xs → AllPairs R ys → All (λ x. All (R x) ys) xs → AllPairs R (xs ++ ys)
AllPairs-append R [] ys h k c = k
AllPairs-append R (x ∷ xs) ys h k c =
    AllPairs-cons R x (xs ++ ys) (All-append (R x) xs ys (AllPairs-after R [] x xs h) (All-head (λ x. All (R x) ys) x xs c))
    (AllPairs-append R xs ys (AllPairs-tail R x xs h) k (All-tail (λ x. All (R x) ys) x xs c))

-- where no two elements have one value of f, an element is known by its value
pub Contains-unique : {X Y : Type 0} (f : X → Y) (xs : List X) → AllPairs (λ u v. f u ≢ f v) xs → (u v : X) → Contains xs u → Contains xs v → f u ≡ f v → u ≡ v
Contains-unique f [] h u v hu hv e = let lt = hu.1 in absurd (omega arith)
Contains-unique f (x ∷ xs) h u v hu hv e =
    let apart = AllPairs-after (λ u v. f u ≢ f v) [] x xs h in
    elim (Contains-cases x xs u hu) [
      | inl p ↦
          elim (Contains-cases x xs v hv) [
            | inl q ↦ sym p ∙ q
            | inr there ↦ absurd (All-contains (λ y. f x ≢ f y) xs v apart there (ap f p ∙ e))
          ]
      | inr here ↦
          elim (Contains-cases x xs v hv) [
            | inl q ↦ absurd (All-contains (λ y. f x ≢ f y) xs u apart here (ap f q ∙ sym e))
            | inr there ↦ Contains-unique f xs (AllPairs-tail (λ u v. f u ≢ f v) x xs h) u v here there e
          ]
    ]
