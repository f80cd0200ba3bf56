-- A walk over chosen numbers finds what a walk over all numbers finds.
use Rattle.change_times.proofs.Words.{◌≡◌, ℕ, zero, suc, ◌+◌, ◌<◌, ◌≤◌, List, [], ◌∷◌, Option, None, Some, length, get_or, refl, sym, ◌∙◌, ap, arith, inl, inr, ◌⊎◌, cases_order, Contains, filter_map, range_with_len, IsStrictlyIncreasing, Contains-cases}
use native.Mathlib.Numerals.{unary_clauses}
use Rattle.std.specs.List.{cons_option}

-- the numbers rise, and none is below the bound
abbrev Ascends : ℕ → List ℕ → Type 0
Ascends low [] = Unit {0}
Ascends low (x ∷ xs) = (low ≤ x) × Ascends (suc x) xs

ascends : (low : ℕ) (xs : List ℕ) → IsStrictlyIncreasing xs → (0 < length xs → low ≤ get_or xs 0 0) → Ascends low xs
ascends low [] h l = tt
ascends low (x ∷ xs) h l =
    (l (omega arith), ascends (suc x) xs (λ k m. let f = h (suc k) (omega (arith, m)) in simp unary_clauses (simp unary_clauses at f)) (λ m. h 0 (omega (arith, m))))

ascends-weaker : (low high : ℕ) (xs : List ℕ) → low ≤ high → Ascends high xs → Ascends low xs
ascends-weaker low high [] l h = tt
ascends-weaker low high (x ∷ xs) l h = (omega (arith, l, h.0), h.1)

none-below : (low : ℕ) (xs : List ℕ) (b : ℕ) → Ascends low xs → Contains xs b → low ≤ b
none-below low [] b h c = absurd (omega (arith, c.1))
none-below low (x ∷ xs) b h c =
    elim (Contains-cases x xs b c) [
      | inl e ↦ omega (arith, e, h.0)
      | inr d ↦ let l = none-below (suc x) xs b h.1 d in omega (arith, l, h.0)
    ]

pub cases-option : {X : Type 0} (o : Option X) → (o ≡ None) ⊎ ((x : X) × (o ≡ Some x))
cases-option None = inl refl
cases-option (Some x) = inr (x, refl)

none-found : {Y : Type 0} (f : ℕ → Option Y) (low : ℕ) (xs : List ℕ) → Ascends low xs → ((b : ℕ) → low ≤ b → f b ≡ None) → filter_map f xs ≡ []
none-found f low [] h none = refl
none-found f low (x ∷ xs) h none =
    ap (λ o. cons_option o (filter_map f xs)) (none x h.0) ∙ none-found f (suc x) xs h.1 (λ b l. none b (omega (arith, l, h.0)))

same-from : {Y : Type 0} (f : ℕ → Option Y) (low n : ℕ) (xs : List ℕ) → Ascends low xs → ((b : ℕ) (y : Y) → low ≤ b → f b ≡ Some y → Contains xs b) → ((b : ℕ) → low + n ≤ b → f b ≡ None) → filter_map f xs ≡ filter_map f (range_with_len low n)
same-from f low zero xs h found past = none-found f low xs h (λ b l. past b (omega (arith, l)))
same-from f low (suc n) [] h found past =
    elim (cases-option (f low)) [
      | inl e ↦
          same-from f (low + 1) n [] tt (λ b y l. found b y (omega (arith, l))) (λ b l. past b (omega (arith, l)))
          ∙ ap (λ o. cons_option o (filter_map f (range_with_len (low + 1) n))) (sym e)
      | inr p ↦ let c = found low p.0 (omega arith) p.1 in absurd (omega (arith, c.1))
    ]
same-from f low (suc n) (x ∷ xs) h found past =
    elim (cases_order low x) [
      | inl e ↦
          let later : (b : ℕ) (y : _) → low + 1 ≤ b → f b ≡ Some y → Contains xs b = λ b y l s. elim (Contains-cases x xs b (found b y (omega (arith, l)) s)) [ inl a ↦ absurd (omega (arith, a, l, e)) | inr c ↦ c ] in
          ap (cons_option (f x)) (same-from f (low + 1) n xs (ascends-weaker (low + 1) (suc x) xs (omega (arith, e)) h.1) later (λ b l. past b (omega (arith, l))))
          ∙ ap (λ b. cons_option (f b) (filter_map f (range_with_len (low + 1) n))) (sym e)
      | inr o ↦
          elim o [
            | inl l ↦
                elim (cases-option (f low)) [
                  | inl e ↦
                      same-from f (low + 1) n (x ∷ xs) (omega (arith, l), h.1) (λ b y m. found b y (omega (arith, m))) (λ b m. past b (omega (arith, m)))
                      ∙ ap (λ r. cons_option r (filter_map f (range_with_len (low + 1) n))) (sym e)
                  | inr p ↦
                      let m = none-below x (x ∷ xs) low (omega arith, h.1) (found low p.0 (omega arith) p.1) in
                      absurd (omega (arith, m, l))
                ]
            | inr l ↦ absurd (omega (arith, l, h.0))
          ]
    ]

-- what a test finds among numbers that rise, it finds among all numbers, if it finds nothing elsewhere
pub walk-same : {Y : Type 0} (f : ℕ → Option Y) (n : ℕ) (xs : List ℕ) → IsStrictlyIncreasing xs → ((b : ℕ) (y : Y) → f b ≡ Some y → Contains xs b) → ((b : ℕ) → n ≤ b → f b ≡ None) → filter_map f xs ≡ filter_map f (range_with_len 0 n)
walk-same f n xs h found past =
    same-from f 0 n xs (ascends 0 xs h (λ l. omega arith)) (λ b y l. found b y) (λ b l. past b (omega (arith, l)))

pub nothing : {Y : Type 0} (f : ℕ → Option Y) (xs : List ℕ) → ((b : ℕ) → f b ≡ None) → filter_map f xs ≡ []
nothing f [] none = refl
nothing f (x ∷ xs) none = ap (λ o. cons_option o (filter_map f xs)) (none x) ∙ nothing f xs none
