-- Departures in order, and those from one on.
use Rattle.dep_order.proofs.Words.{◌≡◌, ◌≢◌, ℕ, zero, suc, ◌⊎◌, inl, inr, List, [], ◌∷◌, Option, None, Some, Bool, true, false, not, refl, sym, ◌∙◌, ap, arith, cases_Bool, option_map_or, Departure, HaveDistinctKeys, IsFirst, held, leaves_before, departures_of, departures_in_order, departures_from, placed, in_order}
use Rattle.std.proofs.Common.{filter}
use Rattle.dep_order.proofs.OrderLemmas.{before-strict}

-- it is among these
abbrev pub IsIn : Departure → List Departure → Type 0
IsIn d [] = ⊥
IsIn d (x ∷ xs) = (x ≡ d) ⊎ IsIn d xs

-- each leaves before those after it
abbrev pub Ascends : List Departure → Type 0
Ascends [] = Unit {0}
Ascends (x ∷ xs) = ((d : Departure) → IsIn d xs → leaves_before x d ≡ true) × Ascends xs

-- their keys differ
abbrev pub HaveKeys : List Departure → Type 0
HaveKeys [] = Unit {0}
HaveKeys (x ∷ xs) = ((d : Departure) → IsIn d xs → d.key ≢ x.key) × HaveKeys xs

pub placed-in : (d x : Departure) (xs : List Departure) → IsIn d (placed leaves_before x xs) → (x ≡ d) ⊎ IsIn d xs
placed-in d x [] h = h
placed-in d x (y ∷ ys) h =
    elim (cases_Bool (leaves_before x y)) [
      | inl t ↦ rw t at h
      | inr f ↦ (let k = rw f at h in elim k [
        | inl own ↦ inr (inl own)
        | inr rest ↦ elim (placed-in d x ys rest) [ inl own ↦ inl own | inr in_ys ↦ inr (inr in_ys) ]
      ])
    ]

pub in-placed : (d x : Departure) (xs : List Departure) → (x ≡ d) ⊎ IsIn d xs → IsIn d (placed leaves_before x xs)
in-placed d x [] h = h
in-placed d x (y ∷ ys) h =
    elim (cases_Bool (leaves_before x y)) [
      | inl t ↦ rw t h
      | inr f ↦ rw f (elim h [
        | inl own ↦ inr (in-placed d x ys (inl own))
        | inr (inl own) ↦ inl own
        | inr (inr in_ys) ↦ inr (in-placed d x ys (inr in_ys))
      ])
    ]

pub placed-ascends : (x : Departure) (xs : List Departure) → ((d : Departure) → IsIn d xs → d.key ≢ x.key) → Ascends xs → Ascends (placed leaves_before x xs)
placed-ascends x [] n h = ((λ d k. absurd k), tt)
placed-ascends x (y ∷ ys) n h =
    let s = before-strict in
    elim (cases_Bool (leaves_before x y)) [
      | inl t ↦ rw t ((λ d k. elim k [ inl own ↦ rw (← own) t | inr rest ↦ s.trans x y d t (h.0 d rest) ]), h)
      | inr f ↦ (
          let later = s.either x y (λ e. n y (inl refl) (sym e)) f in
          rw f (
            (λ d k. elim (placed-in d x ys k) [ inl own ↦ rw (← own) later | inr rest ↦ h.0 d rest ]),
            placed-ascends x ys (λ d k. n d (inr k)) h.1,
          ))
    ]

pub ordered-in : (d : Departure) (xs : List Departure) → IsIn d (in_order leaves_before xs) → IsIn d xs
ordered-in d [] h = h
ordered-in d (x ∷ xs) h = elim (placed-in d x (in_order leaves_before xs) h) [ inl own ↦ inl own | inr rest ↦ inr (ordered-in d xs rest) ]

pub in-ordered : (d : Departure) (xs : List Departure) → IsIn d xs → IsIn d (in_order leaves_before xs)
in-ordered d [] h = h
in-ordered d (x ∷ xs) (inl own) = in-placed d x (in_order leaves_before xs) (inl own)
in-ordered d (x ∷ xs) (inr rest) = in-placed d x (in_order leaves_before xs) (inr (in-ordered d xs rest))

pub ordered-ascends : (xs : List Departure) → HaveKeys xs → Ascends (in_order leaves_before xs)
ordered-ascends [] h = tt
ordered-ascends (x ∷ xs) h = placed-ascends x (in_order leaves_before xs) (λ d k. h.0 d (ordered-in d xs k)) (ordered-ascends xs h.1)

pub there-in : (es : List (Option Departure)) (i : ℕ) (d : Departure) → held es i ≡ Some d → IsIn d (departures_of es)
there-in [] i d h = absurd (cc)
there-in (None ∷ es) zero d h = absurd (cc)
there-in (Some e ∷ es) zero d h = let own : e ≡ d = cc in inl own
there-in (None ∷ es) (suc i) d h = there-in es i d h
there-in (Some e ∷ es) (suc i) d h = inr (there-in es i d h)

pub in-there : (es : List (Option Departure)) (d : Departure) → IsIn d (departures_of es) → (i : ℕ) × (held es i ≡ Some d)
in-there [] d h = absurd h
in-there (None ∷ es) d h = let r = in-there es d h in (suc r.0, r.1)
in-there (Some e ∷ es) d (inl own) = (0, ap Some own)
in-there (Some e ∷ es) d (inr rest) = let r = in-there es d rest in (suc r.0, r.1)

pub have-keys : (es : List (Option Departure)) → HaveDistinctKeys es → HaveKeys (departures_of es)
have-keys [] h = tt
have-keys (None ∷ es) h = have-keys es (λ i j d e a b k. let r = h (suc i) (suc j) d e a b k in omega arith)
have-keys (Some x ∷ es) h = (
  (λ d k same. let r = in-there es d k in let e = h (suc r.0) 0 d x r.1 refl same in absurd (omega arith)),
  have-keys es (λ i j d e a b k. let r = h (suc i) (suc j) d e a b k in omega arith),
)

filter-same : (p q : Departure → Bool) (xs : List Departure) → ((d : Departure) → IsIn d xs → p d ≡ q d) → filter p xs ≡ filter q xs
filter-same p q [] h = refl
filter-same p q (x ∷ xs) h =
    let rest = filter-same p q xs (λ d k. h d (inr k)) in
    let same = h x (inl refl) in
    elim (cases_Bool (q x)) [ inl t ↦ rw (same, t, rest) refl | inr f ↦ rw (same, f, rest) refl ]

filter-none : (p : Departure → Bool) (xs : List Departure) → ((d : Departure) → IsIn d xs → p d ≡ false) → filter p xs ≡ []
filter-none p [] h = refl
filter-none p (x ∷ xs) h = rw (h x (inl refl)) (filter-none p xs (λ d k. h d (inr k)))

not-before : (d e : Departure) → leaves_before d e ≡ true → leaves_before e d ≡ false
not-before d e h = elim (cases_Bool (leaves_before e d)) [ inl t ↦ absurd (before-strict.itself d (before-strict.trans d e d h t)) | inr f ↦ f ]

not-itself : (d : Departure) → leaves_before d d ≡ false
not-itself d = elim (cases_Bool (leaves_before d d)) [ inl t ↦ absurd (before-strict.itself d t) | inr f ↦ f ]

-- of those from one on it is the first, and the others come after it
from-split : (d : Departure) (xs : List Departure) → Ascends xs → IsIn d xs → filter (λ e. not (leaves_before e d)) xs ≡ d ∷ filter (leaves_before d) xs
from-split d [] h k = absurd k
from-split d (x ∷ xs) h (inl own) =
    let first : (e : Departure) → IsIn e xs → leaves_before d e ≡ true = λ e k. rw (← own) (h.0 e k) in
    let none = not-itself d in
    let rest = filter-same (λ e. not (leaves_before e d)) (leaves_before d) xs (λ e k. rw (first e k, not-before d e (first e k)) refl) in
    rw (own, none, rest) refl
from-split d (x ∷ xs) h (inr k) =
    let sooner = h.0 d k in
    rw (sooner, not-before x d sooner) (from-split d xs h.1 k)

module _ (es : List (Option Departure)) (distinct : HaveDistinctKeys es) where
  pub ascends : Ascends (departures_in_order es)
  ascends = ordered-ascends (departures_of es) (have-keys es distinct)

  -- the departures from a number on are that of the number, and those after it
  pub scan-step : (n : ℕ) (d : Departure) → held es n ≡ Some d → departures_from es n ≡ d ∷ filter (leaves_before d) (departures_in_order es)
  scan-step n d is = rw is (from-split d (departures_in_order es) ascends (in-ordered d (departures_of es) (there-in es n d is)))

  -- those that pass a test, which all after one that does pass too, are those from the first on
  pub scan-first : (p : Departure → Bool) (o : Option ℕ) → ((d e : Departure) → p d ≡ true → leaves_before d e ≡ true → p e ≡ true) → IsFirst es p o → option_map_or (departures_from es) o [] ≡ filter p (departures_in_order es)
  scan-first p None up x = sym (filter-none p (departures_in_order es) (λ d k. let r = in-there es d (ordered-in d (departures_of es) k) in x r.0 d r.1))
  scan-first p (Some n) up x =
      let d = x.departure in
      rw x.there (filter-same (λ e. not (leaves_before e d)) p (departures_in_order es) (λ e k.
      let r = in-there es e (ordered-in e (departures_of es) k) in
      elim (cases_Bool (p e)) [
        | inl t ↦ elim (x.others r.0 e r.1 t) [
          | inl own ↦ (let at = rw own at r.1 in let there = x.there in let same : e ≡ d = cc in rw (same, not-itself d, x.passes_is) refl)
          | inr later ↦ rw (not-before d e later, t) refl
        ]
        | inr f ↦ (
            let far : e.key ≢ d.key = λ same. let at = rw (distinct r.0 n e d r.1 x.there same) at r.1 in let there = x.there in let own : e ≡ d = cc in let passes = x.passes_is in let k = ap p own in cc in
            elim (cases_Bool (leaves_before e d)) [
              | inl sooner ↦ rw (sooner, f) refl
              | inr late ↦ (let k = up d e x.passes_is (before-strict.either e d far late) in absurd (cc))
            ])
      ]))

  -- one further
  pub scan-next : (n : ℕ) (d : Departure) (o : Option ℕ) → held es n ≡ Some d → IsFirst es (leaves_before d) o → departures_from es n ≡ d ∷ option_map_or (departures_from es) o []
  scan-next n d o is x =
      scan-step n d is ∙ ap (λ ds. d ∷ ds) (sym (scan-first (leaves_before d) o (λ e f h k. before-strict.trans d e f h k) x))
