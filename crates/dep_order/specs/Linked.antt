-- Departures in their buckets, each linked with those beside it, in either direction: for the
-- links backwards read each word for the order turned round.
use Rattle.std.specs.Prelude.{◌≡◌, ℕ, ◌⊎◌, ◌<◌, ◌≤◌, List, Bool, true, false, Option, None}
use Rattle.std.specs.Prelude.{Some, suc}
use Rattle.std.specs.List.{count_by}
use Rattle.std.specs.Option.{option_map_or}
use Rattle.dep_order.specs.declared.departure.Departure.{Departure}
use Rattle.dep_order.specs.Departing.{held, leaves_before}
use Rattle.dep_order.specs.Slots.{nobody}

abbrev pub leaves_after : Departure → Departure → Bool
leaves_after a b = leaves_before b a

-- a departure comes after a bound, as every one does where there is no bound
abbrev pub is_above : (Departure → Departure → Bool) → Option Departure → Departure → Bool
is_above lt bound d = option_map_or (λ b. lt b d) bound true

-- a departure comes after another, as none does where there is no other
abbrev pub is_past : (Departure → Departure → Bool) → Option Departure → Departure → Bool
is_past lt other d = option_map_or (λ b. lt b d) other false

-- of the departures of a bucket that come after a bound, the first has this number
pub record IsNext (lt : Departure → Departure → Bool) (bucket : Departure → ℕ)
    (es : List (Option Departure)) (b : ℕ) (bound : Option Departure) (number : ℕ) : Type 0 where
  pub ends : held es number ≡ None → number ≡ nobody
  pub there : (d : Departure) → held es number ≡ Some d
      → (bucket d ≡ b) × (is_above lt bound d ≡ true)
  pub rest : (i : ℕ) (d : Departure) → held es i ≡ Some d → bucket d ≡ b
      → is_above lt bound d ≡ true → (i ≡ number) ⊎ (is_past lt (held es number) d ≡ true)

-- nobody, or a departure of a bucket
abbrev pub IsOf : (Departure → ℕ) → List (Option Departure) → ℕ → ℕ → Type 0
IsOf bucket es b i =
    (i ≡ nobody) ⊎ ((d : Departure) × (held es i ≡ Some d) × (bucket d ≡ b))

-- each departure leads to the next of its bucket, and nobody to the first
abbrev pub AreLinked : (Departure → Departure → Bool) → (Departure → ℕ) → ℕ
    → List (Option Departure) → (ℕ → ℕ → ℕ) → Type 0
AreLinked lt bucket count es next =
    (b i : ℕ) → b < count → IsOf bucket es b i → IsNext lt bucket es b (held es i) (next b i)

-- a walk along a bucket has come to a number: those that pass a test stand there or come after it
pub record IsReached (lt : Departure → Departure → Bool) (bucket : Departure → ℕ)
    (es : List (Option Departure)) (b : ℕ) (passes : Departure → Bool) (number : ℕ) : Type 0 where
  pub ends : held es number ≡ None → number ≡ nobody
  pub mine : (d : Departure) → held es number ≡ Some d → bucket d ≡ b
  pub rest : (i : ℕ) (d : Departure) → held es i ≡ Some d → bucket d ≡ b → passes d ≡ true
      → (i ≡ number) ⊎ (is_past lt (held es number) d ≡ true)

-- a walk has come to the first that passes a test, or to the end of its bucket; none that passes is
-- in an earlier bucket, and all of later buckets pass
pub record IsAhead (bucket : Departure → ℕ) (es : List (Option Departure)) (b : ℕ)
    (passes : Departure → Bool) (number : ℕ) : Type 0 where
  pub reached : IsReached leaves_before bucket es b passes number
  pub passes_is : (d : Departure) → held es number ≡ Some d → passes d ≡ true
  pub low : (i : ℕ) (d : Departure) → held es i ≡ Some d → passes d ≡ true → b ≤ bucket d
  pub high : (i : ℕ) (d : Departure) → held es i ≡ Some d → b < bucket d → passes d ≡ true

-- how many departures pass a test
abbrev pub count_of : (Departure → Bool) → List (Option Departure) → ℕ
count_of passes es = count_by (λ (o : Option Departure). option_map_or passes o false) es

-- the departure of a number and those that come after it
abbrev pub left : (Departure → Departure → Bool) → List (Option Departure) → ℕ → ℕ
left lt es number = option_map_or (λ a. suc (count_of (lt a) es)) (held es number) 0
