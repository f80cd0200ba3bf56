-- Some start lasts up to the noon exactly where the last change up to it is a start.
use Rattle.std.proofs.Common.{◌≡◌, ℕ, zero, suc, ◌<◌, Bool, true, false, not, ◌&&◌, ◌||◌, List, [], ◌∷◌, length, ℤ, ◌≤ℤ◌, ◌<ℤ◌, int_le, refl, sym, ◌∙◌, inl, inr, arith}
use Rattle.std.proofs.lemmas.Bool.{cases_Bool, and_parts}
use Rattle.std.proofs.lemmas.Int.{ints, by_lt_z}
use Rattle.std.proofs.lemmas.List.Folds.{Any-from_list_any, list_any-from_Any, list_any_none}
use Rattle.std.specs.List.{All, Contains, list_any}
use Rattle.service_zones.specs.Changes.{has_end, lasts, IsLastChange}

-- tests of numbers
le-test : (a b : ℤ) → a ≤ℤ b → int_le a b ≡ true
le-test a b h = elim (cases_Bool (int_le a b)) [ inl yes_it_is ↦ yes_it_is | inr no_it_is_not ↦ absurd (omega (arith, ints, h, no_it_is_not)) ]

all-more : {X : Type 0} (P : X → Type 0) (x : X) (xs : List X) → P x → All P xs → All P (x ∷ xs)
all-more P x xs here rest zero d within = here
all-more P x xs here rest (suc k) d within = rest k d (omega arith)

none-passes : {X : Type 0} (p : X → Bool) (xs : List X) → list_any p xs ≡ false → All (λ x. p x ≡ false) xs
none-passes p [] none k d within = absurd (omega arith)
none-passes p (x ∷ xs) none k d within = elim (cases_Bool (p x)) [
  | inl hit ↦ let wrong = rw hit at none in cc
  | inr miss ↦ all-more (λ x. p x ≡ false) x xs miss (none-passes p xs (rw miss at none)) k d within
]

-- the greatest of those that are not above a bound
abbrev IsNotAbove : ℤ → ℤ → ℤ → Type 0
IsNotAbove bound most x = x ≤ℤ bound → x ≤ℤ most

record IsGreatest (bound : ℤ) (xs : List ℤ) (most : ℤ) : Type 0 where
  among : Contains xs most
  below : most ≤ℤ bound
  top : All (IsNotAbove bound most) xs

greatest : (bound : ℤ) (xs : List ℤ) → list_any (λ x. int_le x bound) xs ≡ true → (most : ℤ) × IsGreatest bound xs most
greatest bound [] some = cc
greatest bound (x ∷ xs) some = elim (cases_Bool (list_any (λ x. int_le x bound) xs)) [
  | inl more ↦
      let rest = greatest bound xs more in
      let there = rest.1.among in
      let later : Contains (x ∷ xs) rest.0 = (suc there.0, omega arith, there.2) in
      by_lt_z bound x
      (λ above. (rest.0, record { among = later; below = rest.1.below; top = all-more (IsNotAbove bound rest.0) x xs (λ h. absurd (omega (arith, ints, above, h))) rest.1.top }))
      (λ inside. by_lt_z rest.0 x
      (λ over. (x, record { among = (zero, omega arith, refl); below = inside; top = all-more (IsNotAbove bound x) x xs (λ h. omega (arith, ints)) (λ k d within h. let r = rest.1.top k d within h in omega (arith, ints, r, over)) }))
      (λ under. (rest.0, record { among = later; below = rest.1.below; top = all-more (IsNotAbove bound rest.0) x xs (λ h. under) rest.1.top })))
  | inr none ↦
      let out = none-passes (λ x. int_le x bound) xs none in
      let hit : int_le x bound ≡ true = elim (cases_Bool (int_le x bound)) [ inl hit ↦ hit | inr miss ↦ let wrong = rw (miss, none) at some in cc ] in
      (x, record { among = (zero, omega arith, refl); below = omega (arith, ints, hit); top = all-more (IsNotAbove bound x) x xs (λ h. omega (arith, ints)) (λ k d within h. let o = out k d within in absurd (omega (arith, ints, o, h))) })
]

not-true : (b : Bool) → not b ≡ true → b ≡ false
not-true true h = cc
not-true false h = refl

-- an end up to the noon lies before the start exactly where it does not lie between
apart : (start end noon : ℤ) → (int_le start end && int_le end noon) ≡ false → end ≤ℤ noon → end <ℤ start
apart start end noon miss h = elim (cases_Bool (int_le start end)) [
  | inl on ↦ let wrong = rw (on, le-test end noon h) at miss in cc
  | inr off ↦ omega (arith, ints, off)
]

between-none : (start end noon : ℤ) → (end ≤ℤ noon → end <ℤ start) → (int_le start end && int_le end noon) ≡ false
between-none start end noon h = elim (cases_Bool (int_le start end)) [
  | inl on ↦ elim (cases_Bool (int_le end noon)) [
    | inl within ↦ absurd (omega (arith, ints, on, h (omega (arith, ints, within))))
    | inr past ↦ rw (on, past) refl
  ]
  | inr off ↦ rw off refl
]

module _ (starts ends : List ℤ) (noon : ℤ) where
  -- from a start that lasts to the last change
  pub last-start : list_any (lasts ends noon) starts ≡ true → (start : ℤ) × IsLastChange starts ends noon start
  unfolding lasts has_end
  last-start some =
      let found = Any-from_list_any (lasts ends noon) starts some in
      let start = found.1 in
      let parts = and_parts (int_le start noon) (not (list_any (λ end. int_le start end && int_le end noon) ends)) found.4 in
      let none = none-passes (λ end. int_le start end && int_le end noon) ends (not-true _ parts.1) in
      let last = greatest noon starts (list_any-from_Any (λ x. int_le x noon) starts (found.0, start, found.2, found.3, parts.0)) in
      let later = rw found.3 at (last.1.top found.0 start found.2) in (
        last.0,
        record {
          among = last.1.among;
          past = last.1.below;
          last = last.1.top;
          after_ends = λ k d within h. let before = apart start _ noon (none k d within) h in let first = later (omega (arith, ints, parts.0)) in omega (arith, ints, before, first);
        },
      )

  -- and back
  pub start-lasts : (start : ℤ) → IsLastChange starts ends noon start → list_any (lasts ends noon) starts ≡ true
  unfolding lasts has_end
  start-lasts start h =
      let none = list_any_none (λ end. int_le start end && int_le end noon) ends (λ k d within. between-none start _ noon (h.after_ends k d within)) in
      list_any-from_Any (lasts ends noon) starts (h.among.0, start, h.among.1, h.among.2, rw (le-test start noon h.past, none) refl)
