-- Departures by number, with what stands beside them: which is the first, and which are alike.
use Rattle.std.specs.Prelude.{◌≡◌, ◌≢◌, ℕ, ◌⊎◌, List, Bool, true, false, Option, None, Some}
use Rattle.std.specs.Prelude.{get_or, slice_set, refl}
use Rattle.std.specs.Coded.{Coded, code_by, coded×, coded_list, coded_option}
use Rattle.std.specs.Option.{option_map}
use Rattle.mt_base.specs.declared.keys.Key.{Key}
use Rattle.dep_order.specs.declared.departure.Departure.{Departure}
use Rattle.dep_order.specs.declared.departure.Leaving.{Leaving}
use Rattle.dep_order.specs.declared.departure.Onward.{Onward}
use Rattle.dep_order.specs.Departing.{coded_departure, held, leaves_before}
use Rattle.dep_order.specs.Ordered.{blank_onward, coded_onward, number_or_past}

-- departures by number, none where no departure has the number, and what stands beside each
pub record Numbered : Type 0 where
  pub entries : List (Option Departure)
  pub onwards : List Onward

abbrev pub coded_numbered : Coded Numbered
coded_numbered =
    code_by (List (Option Departure) × List Onward)
    (coded× (coded_list (coded_option coded_departure)) (coded_list coded_onward))
    (λ n. (n.entries, n.onwards)) (λ p. record { entries = p.0; onwards = p.1 }) (λ _. refl)

-- a departure with its number, and what stands beside it
abbrev pub leaving : ℕ → Departure → Onward → Leaving
leaving number d onward = record {
  number = number;
  time = d.time;
  stop = d.stop;
  arrival = onward.arrival;
  to = onward.to;
  next = onward.next;
}

-- a departure as a scan of these comes to it
abbrev pub leaving_among : List (Option Departure) → List Onward → Departure → Leaving
leaving_among es os d =
    let number = number_or_past es d.key.train d.key.label in
    leaving number d (get_or os number blank_onward)

-- the same departures, of which that of a number takes place at another time
abbrev pub with_time : ℕ → ℕ → List (Option Departure) → List (Option Departure)
with_time number time es =
    slice_set es number (option_map (λ (d : Departure). record d { time = time }) (held es number))

-- no two of these departures are of the same call
abbrev pub HaveDistinctCalls : List (Option Departure) → Type 0
HaveDistinctCalls es = (i j : ℕ) (d e : Departure) → held es i ≡ Some d → held es j ≡ Some e
    → d.key.train ≡ e.key.train → d.key.label ≡ e.key.label → i ≡ j

-- no two of these departures have the same key
abbrev pub HaveDistinctKeys : List (Option Departure) → Type 0
HaveDistinctKeys es = (i j : ℕ) (d e : Departure) → held es i ≡ Some d → held es j ≡ Some e
    → d.key ≡ e.key → i ≡ j

-- no departure is of the call of this key
abbrev pub IsNewCall : List (Option Departure) → Key → Type 0
IsNewCall es k = (i : ℕ) (d : Departure) → held es i ≡ Some d → d.key.train ≡ k.train
    → d.key.label ≢ k.label

-- no departure has this key
abbrev pub IsNewKey : List (Option Departure) → Key → Type 0
IsNewKey es k = (i : ℕ) (d : Departure) → held es i ≡ Some d → d.key ≢ k

-- a departure passes a test, and every other that does leaves after it
pub record IsFirstAt (es : List (Option Departure)) (passes : Departure → Bool) (number : ℕ) :
    Type 0 where
  pub departure : Departure
  pub there : held es number ≡ Some departure
  pub passes_is : passes departure ≡ true
  pub others : (i : ℕ) (d : Departure) → held es i ≡ Some d → passes d ≡ true
      → (i ≡ number) ⊎ (leaves_before departure d ≡ true)

-- the number of the first departure that passes a test, or none where no departure passes it
abbrev pub IsFirst : List (Option Departure) → (Departure → Bool) → Option ℕ → Type 0
IsFirst es passes None = (i : ℕ) (d : Departure) → held es i ≡ Some d → passes d ≡ false
IsFirst es passes (Some number) = IsFirstAt es passes number
