-- Whether some element of a list passes a test.
use Rattle.waiting_rules.proofs.Words.{◌≡◌, Bool, true, false, ◌&&◌, ◌||◌, List, [], ◌∷◌, refl, sym, ◌∙◌, ap, inl, inr, list_any, cases_Bool}

pub none-false : {X : Type 0} (xs : List X) → list_any (λ (x : X). false) xs ≡ false
none-false [] = refl
none-false (x ∷ xs) = none-false xs

or-apart : (a b c d : Bool) → ((a || b) || (c || d)) ≡ ((a || c) || (b || d))
or-apart true b c d = refl
or-apart false true true d = refl
or-apart false true false d = refl
or-apart false false c d = refl

-- one of two tests
pub any-either : {X : Type 0} (p q : X → Bool) (xs : List X) → list_any (λ x. p x || q x) xs ≡ (list_any p xs || list_any q xs)
any-either p q [] = refl
any-either p q (x ∷ xs) = ap (λ b. (p x || q x) || b) (any-either p q xs) ∙ or-apart (p x) (q x) (list_any p xs) (list_any q xs)

and-or : (a b c : Bool) → (a && (b || c)) ≡ ((a && b) || (a && c))
and-or true b c = refl
and-or false b c = refl

and-false : (a : Bool) → (a && false) ≡ false
and-false true = refl
and-false false = refl

or-and : (a b c : Bool) → ((a || b) && c) ≡ ((a && c) || (b && c))
or-and true b true = refl
or-and true true false = refl
or-and true false false = refl
or-and false b c = refl

-- a test with a fact beside it
pub any-and : {X : Type 0} (p : X → Bool) (b : Bool) (xs : List X) → list_any (λ x. p x && b) xs ≡ (list_any p xs && b)
any-and p b [] = refl
any-and p b (x ∷ xs) = ap (λ c. (p x && b) || c) (any-and p b xs) ∙ sym (or-and (p x) (list_any p xs) b)

-- over two lists in either order
pub any-swapped : {X Y : Type 0} (q : Y → Bool) (p : X → Y → Bool) (xs : List X) (ys : List Y) → list_any (λ x. list_any (λ y. q y && p x y) ys) xs ≡ list_any (λ y. q y && list_any (λ x. p x y) xs) ys
any-swapped q p [] ys = sym (ap (λ t. list_any t ys) (λ i y. and-false (q y) i) ∙ none-false ys)
any-swapped q p (x ∷ xs) ys =
    ap (λ b. list_any (λ y. q y && p x y) ys || b) (any-swapped q p xs ys)
    ∙ sym (ap (λ t. list_any t ys) (λ i y. and-or (q y) (p x y) (list_any (λ z. p z y) xs) i) ∙ any-either (λ y. q y && p x y) (λ y. q y && list_any (λ z. p z y) xs) ys)

-- what passes a test passes another, which nothing passes
pub none-weaker : {X : Type 0} (p q : X → Bool) → ((x : X) → p x ≡ true → q x ≡ true) → (xs : List X) → list_any q xs ≡ false → list_any p xs ≡ false
none-weaker p q f [] h = refl
none-weaker p q f (x ∷ xs) h = elim (cases_Bool (q x)) [
  | inl here ↦ let none = rw here at h in absurd (cc)
  | inr neither ↦ elim (cases_Bool (p x)) [
    | inl passes ↦ let one = f x passes in absurd (cc)
    | inr other ↦ let rest = rw neither at h in rw other (none-weaker p q f xs rest)
  ]
]
