-- Lists in the order of a number of each element: what a stable sort by the number gives, and what the order keeps.
use Rattle.std.proofs.Common.{rules, ◌≡◌, ℕ, suc, ◌<◌, ◌≤◌, List, [], ◌∷◌, Bool, true, false, nat_eq, nat_le, cond, All, length, get_or, refl, sym, ◌∙◌, ap, arith, inl, inr}
use Rattle.std.proofs.lemmas.Bool.{cases_lt, cases_order, cond_both}
use Rattle.std.proofs.lemmas.List.Elements.{All-cons, All-head, All-tail, filter_agree}
use Rattle.std.specs.List.{filter}
use Rattle.std.specs.List.Sorted.{ties, IsNonDecreasingBy}
use Rattle.std.specs.Ordering.{nat_cmp, is_lt}
use Rattle.feed_tables.specs.Calls.{put, in_order, is_rising}

-- the numbers do not fall, nor are they below the first bound
abbrev pub Rises : {X : Type 0} → (X → ℕ) → ℕ → List X → Type 0
Rises key low [] = Unit {0}
Rises key low (x ∷ xs) = (low ≤ key x) × Rises key (key x) xs

-- both elements have one number
abbrev pub tie : {X : Type 0} → (X → ℕ) → X → X → Bool
tie key x y = ties (λ a b. is_lt (nat_cmp (key a) (key b))) x y

pub tie-same : {X : Type 0} (key : X → ℕ) (x y : X) → key x ≡ key y → tie key x y ≡ true
tie-same key x y e = search rules

pub tie-less : {X : Type 0} (key : X → ℕ) (x y : X) → key x < key y → tie key x y ≡ false
tie-less key x y l = search rules

pub tie-more : {X : Type 0} (key : X → ℕ) (x y : X) → key y < key x → tie key x y ≡ false
tie-more key x y l = search rules

pub eq-same : (a b : ℕ) → a ≡ b → nat_eq a b ≡ true
eq-same a b e = search rules

pub eq-less : (a b : ℕ) → a < b → nat_eq a b ≡ false
eq-less a b l = search rules

pub eq-more : (a b : ℕ) → b < a → nat_eq a b ≡ false
eq-more a b l = search rules

tie-is : {X : Type 0} (key : X → ℕ) (z x : X) → tie key z x ≡ nat_eq (key x) (key z)
tie-is key z x = grind arith

-- a stable sort leaves the elements of one number in their order
pub stays : {X : Type 0} (key : X → ℕ) (xs ys : List X) (z : X) → filter (tie key z) ys ≡ filter (tie key z) xs → filter (λ x. nat_eq (key x) (key z)) ys ≡ filter (λ x. nat_eq (key x) (key z)) xs
stays key xs ys z same =
    sym (filter_agree (tie key z) (λ x. nat_eq (key x) (key z)) (tie-is key z) ys) ∙ same ∙ filter_agree (tie key z) (λ x. nat_eq (key x) (key z)) (tie-is key z) xs

pub put-before : {X : Type 0} (key : X → ℕ) (x y : X) (ys : List X) → key x ≤ key y → put key x (y ∷ ys) ≡ x ∷ y ∷ ys
put-before key x y ys l = search rules

pub put-after : {X : Type 0} (key : X → ℕ) (x y : X) (ys : List X) → key y < key x → put key x (y ∷ ys) ≡ y ∷ put key x ys
put-after key x y ys l = search rules

put-rises : {X : Type 0} (key : X → ℕ) (low : ℕ) (x : X) (ys : List X) → low ≤ key x → Rises key low ys → Rises key low (put key x ys)
put-rises key low x [] l h = (l, tt)
put-rises key low x (y ∷ ys) l h = grind (arith, put-rises key (key y) x ys)

pub in_order-rises : {X : Type 0} (key : X → ℕ) (xs : List X) → Rises key 0 (in_order key xs)
in_order-rises key [] = tt
in_order-rises key (x ∷ xs) = put-rises key 0 x (in_order key xs) (omega arith) (in_order-rises key xs)

-- what holds of each element holds of each in their order
put-all : {X : Type 0} (P : X → Type 0) (key : X → ℕ) (x : X) (xs : List X) → P x → All P xs → All P (put key x xs)
put-all P key x [] p h = All-cons P x [] p h
put-all P key x (y ∷ ys) p h =
    cond_both (nat_le (key x) (key y)) (x ∷ y ∷ ys) (y ∷ put key x ys) (All P) (λ _. All-cons P x (y ∷ ys) p h) (λ _. All-cons P y (put key x ys) (All-head P y ys h) (put-all P key x ys p (All-tail P y ys h)))

pub in_order-all : {X : Type 0} (P : X → Type 0) (key : X → ℕ) (xs : List X) → All P xs → All P (in_order key xs)
in_order-all P key [] h = h
in_order-all P key (x ∷ xs) h =
    put-all P key x (in_order key xs) (All-head P x xs h) (in_order-all P key xs (All-tail P x xs h))

put-length : {X : Type 0} (key : X → ℕ) (x : X) (xs : List X) → length (put key x xs) ≡ suc (length xs)
put-length key x [] = refl
put-length key x (y ∷ ys) = grind (arith, put-length key x ys)

-- there are as many elements in their order
pub in_order-length : {X : Type 0} (key : X → ℕ) (xs : List X) → length (in_order key xs) ≡ length xs
in_order-length key [] = refl
in_order-length key (x ∷ xs) = put-length key x (in_order key xs) ∙ ap suc (in_order-length key xs)

filter-with : {X : Type 0} (p : X → Bool) (x : X) (xs : List X) → p x ≡ true → filter p (x ∷ xs) ≡ x ∷ filter p xs
filter-with p x xs e = ap (λ b. cond b (x ∷ filter p xs) (filter p xs)) e

filter-without : {X : Type 0} (p : X → Bool) (x : X) (xs : List X) → p x ≡ false → filter p (x ∷ xs) ≡ filter p xs
filter-without p x xs e = ap (λ b. cond b (x ∷ filter p xs) (filter p xs)) e

-- elements of other numbers change places
filter-swap : {X : Type 0} (key : X → ℕ) (z x y : X) (ys : List X) → key y < key x → filter (tie key z) (y ∷ x ∷ ys) ≡ filter (tie key z) (x ∷ y ∷ ys)
filter-swap key z x y ys l = grind (arith, tie-less key z x, tie-more key z y)

put-filter : {X : Type 0} (key : X → ℕ) (z x : X) (ys : List X) → filter (tie key z) (put key x ys) ≡ filter (tie key z) (x ∷ ys)
put-filter key z x [] = refl
put-filter key z x (y ∷ ys) =
    elim (cases_lt (key y) (key x)) [
      | inl k ↦ rw (put-after key x y ys k) (grind (arith, put-filter key z x ys, filter-swap key z x y ys k))
      | inr k ↦ ap (filter (tie key z)) (put-before key x y ys k)
    ]

pub in_order-filter : {X : Type 0} (key : X → ℕ) (z : X) (xs : List X) → filter (tie key z) (in_order key xs) ≡ filter (tie key z) xs
in_order-filter key z [] = refl
in_order-filter key z (x ∷ xs) = grind (arith, put-filter key z x (in_order key xs), in_order-filter key z xs)

-- no element has a number below the first
none-below : {X : Type 0} (key : X → ℕ) (z : X) (low : ℕ) (ys : List X) → key z < low → Rises key low ys → filter (tie key z) ys ≡ []
none-below key z low [] l h = refl
none-below key z low (y ∷ ys) l h = grind (arith, tie-less key z y, none-below key z (key y) ys)

tail-same : {X : Type 0} (key : X → ℕ) (z x y : X) (xs ys : List X) → x ≡ y → filter (tie key z) (x ∷ xs) ≡ filter (tie key z) (y ∷ ys) → filter (tie key z) xs ≡ filter (tie key z) ys
tail-same key z x y xs ys e same = grind arith

-- lists that rise, and that have the same elements of each number in the same order, are one list
pub one-list : {X : Type 0} (key : X → ℕ) (low low' : ℕ) (xs ys : List X) → Rises key low xs → Rises key low' ys → ((z : X) → filter (tie key z) xs ≡ filter (tie key z) ys) → xs ≡ ys
one-list key low low' [] [] h k same = refl
one-list key low low' [] (y ∷ ys) h k same = grind (arith, same y, tie-same key y y refl)
one-list key low low' (x ∷ xs) [] h k same = grind (arith, same x, tie-same key x x refl)
one-list key low low' (x ∷ xs) (y ∷ ys) h k same =
    elim (cases_order (key x) (key y)) [
      | inl e ↦
          let one : x ≡ y = grind (arith, same x, tie-same key x x refl, tie-same key x y e) in
          let tails : (z : _) → filter (tie key z) xs ≡ filter (tie key z) ys = λ z. tail-same key z x y xs ys one (same z) in
          ap (λ w. w ∷ xs) one ∙ ap (λ zs. y ∷ zs) (one-list key (key x) (key y) xs ys h.1 k.1 tails)
      | inr o ↦
          grind (arith, same x, same y, tie-same key x x refl, tie-same key y y refl, none-below key x (key y) (y ∷ ys), none-below key y (key x) (x ∷ xs))
    ]

rising-put : {X : Type 0} (key : X → ℕ) (x : X) (xs : List X) → Rises key (key x) xs → put key x xs ≡ x ∷ xs
rising-put key x [] h = refl
rising-put key x (y ∷ ys) h = put-before key x y ys h.0

rises-same : {X : Type 0} (key : X → ℕ) (low : ℕ) (xs : List X) → Rises key low xs → in_order key xs ≡ xs
rises-same key low [] h = refl
rises-same key low (x ∷ xs) h = ap (put key x) (rises-same key (key x) xs h.1) ∙ rising-put key x xs h.1

rises : {X : Type 0} (key : X → ℕ) (low : ℕ) (xs : List X) → is_rising key low xs ≡ true → Rises key low xs
rises key low [] h = tt
rises key low (x ∷ xs) h = (search rules, rises key (key x) xs (search rules))

-- a list whose numbers do not fall is in their order
pub rising-same : {X : Type 0} (key : X → ℕ) (low : ℕ) (xs : List X) → is_rising key low xs ≡ true → in_order key xs ≡ xs
rising-same key low xs h = rises-same key low xs (rises key low xs h)

from-index : {X : Type 0} (key : X → ℕ) (low : ℕ) (xs : List X) → IsNonDecreasingBy key xs → ((d : X) → 0 < length xs → low ≤ key (get_or xs 0 d)) → Rises key low xs
from-index key low [] h l = tt
from-index key low (x ∷ xs) h l =
    (l x (omega arith), from-index key (key x) xs (λ i j d a b. h (suc i) (suc j) d (omega (arith, a)) (omega (arith, b))) (λ d b. h 0 1 d (omega arith) (omega (arith, b))))

-- what a stable sort gives
pub sorted-is : {X : Type 0} (key : X → ℕ) (xs ys : List X) → IsNonDecreasingBy key ys → ((z : X) → filter (tie key z) ys ≡ filter (tie key z) xs) → ys ≡ in_order key xs
sorted-is key xs ys h same =
    one-list key 0 0 ys (in_order key xs) (from-index key 0 ys h (λ d b. omega arith)) (in_order-rises key xs) (λ z. same z ∙ sym (in_order-filter key z xs))
