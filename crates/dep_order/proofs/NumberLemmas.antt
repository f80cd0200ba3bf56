-- The number of the departure of a call.
use Rattle.dep_order.proofs.Words.{◌≡◌, ◌<◌, ℕ, zero, suc, inl, inr, List, [], ◌∷◌, Option, None, Some, true, false, refl, sym, ◌∙◌, arith, nat_tests, cases_Bool, get_or, length, Departure, Onward, held, HaveDistinctCalls, blank_onward, is_of_call, leaving, leaving_among, number_of, option_map}

pub call-is : (t l : ℕ) (d : Departure) → is_of_call t l d ≡ true → (d.key.train ≡ t) × (d.key.label ≡ l)
call-is t l d h = grind (arith, nat_tests)

pub own-call : (d : Departure) → is_of_call d.key.train d.key.label d ≡ true
own-call d = grind (arith, nat_tests)

pub of-call : (t l : ℕ) (d : Departure) → d.key.train ≡ t → d.key.label ≡ l → is_of_call t l d ≡ true
of-call t l d e f = grind (arith, nat_tests)

-- where no departure is of a call, it has no number
pub none-number : (es : List (Option Departure)) (t l : ℕ) → ((i : ℕ) (d : Departure) → held es i ≡ Some d → is_of_call t l d ≡ false) → number_of es t l ≡ None
none-number [] t l h = refl
none-number (None ∷ es) t l h = rw (none-number es t l (λ i d at. h (suc i) d at)) refl
none-number (Some e ∷ es) t l h = rw (h 0 e refl, none-number es t l (λ i d at. h (suc i) d at)) refl

-- the one departure of a call has its number
pub one-number : (es : List (Option Departure)) (t l i : ℕ) (d : Departure) → HaveDistinctCalls es → held es i ≡ Some d → is_of_call t l d ≡ true → number_of es t l ≡ Some i
one-number [] t l i d h at own = absurd (cc)
one-number (None ∷ es) t l zero d h at own = absurd (cc)
one-number (Some e ∷ es) t l zero d h at own = let is : e ≡ d = cc in rw (is, own) refl
one-number (None ∷ es) t l (suc i) d h at own =
    rw (one-number es t l i d (λ i j d e a b k m. let r = h (suc i) (suc j) d e a b k m in omega arith) at own) refl
one-number (Some e ∷ es) t l (suc i) d h at own =
    let rest = one-number es t l i d (λ i j d e a b k m. let r = h (suc i) (suc j) d e a b k m in omega arith) at own in
    elim (cases_Bool (is_of_call t l e)) [
      | inl t ↦ (
          let mine = call-is _ _ e t in
          let its = call-is _ _ d own in
          let same = h 0 (suc i) e d refl at (mine.0 ∙ sym its.0) (mine.1 ∙ sym its.1) in
          absurd (omega arith))
      | inr f ↦ rw (f, rest) refl
    ]

some-suc : (o : Option ℕ) (n : ℕ) → option_map (λ m. suc m) o ≡ Some n → (m : ℕ) × (o ≡ Some m) × (n ≡ suc m)
some-suc None n h = absurd (cc)
some-suc (Some m) n h = let e : suc m ≡ n = cc in (m, refl, sym e)

pub number-within : (es : List (Option Departure)) (t l n : ℕ) → number_of es t l ≡ Some n → n < length es
number-within [] t l n h = absurd (cc)
number-within (None ∷ es) t l n h = let r = some-suc (number_of es t l) n h in let low = number-within es t l r.0 r.1 in omega (arith, r.2)
number-within (Some e ∷ es) t l n h =
    elim (cases_Bool (is_of_call t l e)) [
      | inl t ↦ (let k = rw t at h in let first : 0 ≡ n = cc in omega arith)
      | inr f ↦ (let r = some-suc (number_of es t l) n (rw f at h) in let low = number-within es t l r.0 r.1 in omega (arith, r.2))
    ]

-- a departure as a scan comes to it
pub leaving-is : (es : List (Option Departure)) (os : List Onward) (i : ℕ) (d : Departure) → HaveDistinctCalls es → held es i ≡ Some d → leaving_among es os d ≡ leaving i d (get_or os i blank_onward)
leaving-is es os i d h at = rw (one-number es d.key.train d.key.label i d h at (own-call d)) refl

-- a number that a call has is that of its departure
pub number-held : (es : List (Option Departure)) (t l n : ℕ) → number_of es t l ≡ Some n → (d : Departure) × (held es n ≡ Some d) × (is_of_call t l d ≡ true)
number-held [] t l n h = absurd (cc)
number-held (None ∷ es) t l n h =
    let r = some-suc (number_of es t l) n h in
    let f = number-held es t l r.0 r.1 in
    rw r.2 f
number-held (Some e ∷ es) t l n h =
    elim (cases_Bool (is_of_call t l e)) [
      | inl own ↦ (let k = rw own at h in let first : 0 ≡ n = cc in rw (← first) (e, refl, own))
      | inr other ↦ (
          let r = some-suc (number_of es t l) n (rw other at h) in
          let f = number-held es t l r.0 r.1 in
          rw r.2 f)
    ]
