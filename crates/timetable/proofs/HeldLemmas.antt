-- Departures by number: which have one, and the number of the departure of a call.
use Rattle.state_laws.proofs.Words.{◌≡◌, ℕ, zero, suc, ◌<◌, true, false, List, [], ◌∷◌, Option, Some, None, length, refl, ap, arith, elements, inl, inr, cases_Bool, Contains, and_from, and_parts, eqb-true, eq-eqb, option_map, option_map_or, nat_eq}
use Rattle.std.proofs.lemmas.List.Sorted.{Contains-permutation, IsPermutation-sym}
use Rattle.propagate.proofs.Sorted.{in_order-moves}
use Rattle.dep_order.specs.declared.departure.Departure.{Departure}
use Rattle.dep_order.specs.Departing.{departures_in_order, departures_of, held, leaves_before}
use Rattle.dep_order.specs.Ordered.{is_of_call, number_of}

held-of : (es : List (Option Departure)) (n : ℕ) (d : Departure) → held es n ≡ Some d → Contains (departures_of es) d
held-of [] n d h = absurd (cc)
held-of (None ∷ es) zero d h = absurd (cc)
held-of (None ∷ es) (suc n) d h = held-of es n d h
held-of (Some e ∷ es) zero d h = (0, omega arith, cc)
held-of (Some e ∷ es) (suc n) d h = let w = held-of es n d h in (suc w.0, omega arith, w.2)

of-held : (es : List (Option Departure)) (d : Departure) → Contains (departures_of es) d → (n : ℕ) × (held es n ≡ Some d)
of-held [] d h = absurd (grind (arith, elements))
of-held (None ∷ es) d h = let w = of-held es d h in (suc w.0, w.1)
of-held (Some e ∷ es) d (zero, l, same) = (0, ap Some same)
of-held (Some e ∷ es) d (suc i, l, same) = let w = of-held es d (i, omega arith, same) in (suc w.0, w.1)

-- a departure that has a number is listed, and one that is listed has a number
pub held-listed : (es : List (Option Departure)) (n : ℕ) (d : Departure) → held es n ≡ Some d → Contains (departures_in_order es) d
held-listed es n d h = Contains-permutation (departures_of es) (departures_in_order es) d (in_order-moves leaves_before (departures_of es)) (held-of es n d h)

pub listed-held : (es : List (Option Departure)) (d : Departure) → Contains (departures_in_order es) d → (n : ℕ) × (held es n ≡ Some d)
listed-held es d h = of-held es d (Contains-permutation (departures_in_order es) (departures_of es) d (IsPermutation-sym (departures_of es) (departures_in_order es) (in_order-moves leaves_before (departures_of es))) h)

-- the past of all has no departure
pub held-past : (es : List (Option Departure)) (n : ℕ) → n ≡ length es → held es n ≡ None
held-past [] n h = refl
held-past (e ∷ es) (suc n) h = held-past es n (omega arith)
held-past (e ∷ es) zero h = absurd (omega arith)

pub held-within : (es : List (Option Departure)) (n : ℕ) (d : Departure) → held es n ≡ Some d → n < length es
held-within [] n d h = absurd (cc)
held-within (e ∷ es) zero d h = omega arith
held-within (e ∷ es) (suc n) d h = let l = held-within es n d h in omega arith

-- the departure of a call
pub of-call : (t m : ℕ) (d : Departure) → is_of_call t m d ≡ true → (d.key.train ≡ t) × (d.key.label ≡ m)
of-call t m d h =
    let p = and_parts (nat_eq d.key.train t) (nat_eq d.key.label m) h in
    (eqb-true d.key.train t p.0, eqb-true d.key.label m p.1)

pub is-of-call : (t m : ℕ) (d : Departure) → d.key.train ≡ t → d.key.label ≡ m → is_of_call t m d ≡ true
is-of-call t m d train label = and_from (nat_eq d.key.train t) (nat_eq d.key.label m) (eq-eqb d.key.train t train) (eq-eqb d.key.label m label)

-- what is known of the number of a call's departure
abbrev pub IsNumberOf : List (Option Departure) → ℕ → ℕ → Option ℕ → Type 0
IsNumberOf es t m (Some n) = (d : Departure) × (held es n ≡ Some d) × (is_of_call t m d ≡ true)
IsNumberOf es t m None = (n : ℕ) (d : Departure) → held es n ≡ Some d → is_of_call t m d ≡ false

none-more : (es : List (Option Departure)) (e : Option Departure) (t m : ℕ) → option_map_or (is_of_call t m) e false ≡ false → IsNumberOf es t m None → (n : ℕ) (d : Departure) → held (e ∷ es) n ≡ Some d → is_of_call t m d ≡ false
none-more es (Some e) t m other is zero d h = cc
none-more es None t m other is zero d h = absurd (cc)
none-more es e t m other is (suc n) d h = is n d h

first-of : (es : List (Option Departure)) (e : Option Departure) (t m : ℕ) → option_map_or (is_of_call t m) e false ≡ true → IsNumberOf (e ∷ es) t m (Some 0)
first-of es None t m h = absurd (cc)
first-of es (Some e) t m h = (e, refl, h)

number-more : (es : List (Option Departure)) (e : Option Departure) (t m : ℕ) (o : Option ℕ) → option_map_or (is_of_call t m) e false ≡ false → IsNumberOf es t m o → IsNumberOf (e ∷ es) t m (option_map (λ n. suc n) o)
number-more es e t m None other is = λ n d h. none-more es e t m other is n d h
number-more es e t m (Some n) other is = is

pub number-is : (es : List (Option Departure)) (t m : ℕ) → IsNumberOf es t m (number_of es t m)
number-is [] t m = λ n d h. absurd (cc)
number-is (e ∷ es) t m =
    elim (cases_Bool (option_map_or (is_of_call t m) e false)) [
      | inl hit ↦ rw hit (first-of es e t m hit)
      | inr miss ↦ rw miss (number-more es e t m (number_of es t m) miss (number-is es t m))
    ]
