-- The departures in their order and by number, what stands beside them, and what changes make of
-- them.
use Rattle.std.specs.Prelude.{◌≡◌, ℕ, suc, ◌-◌, ◌<◌, List, [], ◌∷◌, Bool, false, if◌then◌else◌}
use Rattle.std.specs.Prelude.{Option, None, Some, get_or, length, map, nat_eq, ◌&&◌, refl}
use Rattle.std.specs.Coded.{Coded, code_by, coded×, coded_list, coded_option, coded_ℕ}
use Rattle.std.specs.Option.{option_map, option_map_or}
use Rattle.mt_base.specs.declared.keys.Key.{Key}
use Rattle.mt_base.specs.Order.{is_same}
use Rattle.mt_base.specs.Sorted.{in_order}
use Rattle.dep_order.specs.declared.departure.Departure.{Departure}
use Rattle.dep_order.specs.declared.departure.Leaving.{Leaving}
use Rattle.dep_order.specs.declared.departure.Onward.{Onward}
use Rattle.dep_order.specs.Departing.{coded_departure, leaves_before}

-- the departures, and what is kept with them
pub record Ordered : Type 0 where
  -- in the order in which they take place
  pub departures : List Departure
  -- by number: none where no departure has the number now
  pub entries : List (Option Departure)
  -- what the train of each does next, by number
  pub onwards : List Onward
  -- so many numbers were given, those below; a number is never given twice
  pub used : ℕ
  -- of each train, for how many labels a number can be noted
  pub labels : List ℕ
  -- for how many more trains and labels there is room
  pub spare_trains : ℕ
  pub spare_calls : ℕ

-- how many more numbers can be given
abbrev pub spare : Ordered → ℕ
spare o = length o.entries - o.used

-- what a train does next, as its fields
abbrev pub coded_onward : Coded Onward
coded_onward =
    code_by (ℕ × (ℕ × ℕ)) (coded× coded_ℕ (coded× coded_ℕ coded_ℕ))
    (λ o. (o.arrival, (o.to, o.next)))
    (λ p. record { arrival = p.0; to = p.1.0; next = p.1.1 }) (λ _. refl)

abbrev pub coded_ordered : Coded Ordered
coded_ordered =
    code_by
    (List Departure × (List (Option Departure) × (List Onward × (ℕ × (List ℕ × (ℕ × ℕ))))))
    (coded× (coded_list coded_departure) (coded× (coded_list (coded_option coded_departure))
    (coded× (coded_list coded_onward) (coded× coded_ℕ (coded× (coded_list coded_ℕ)
    (coded× coded_ℕ coded_ℕ))))))
    (λ o. (
      o.departures,
      (
        o.entries,
        (
          o.onwards,
          (
            o.used,
            (
              o.labels,
              (o.spare_trains, o.spare_calls),
            ),
          ),
        ),
      ),
    ))
    (λ p. record {
      departures = p.0;
      entries = p.1.0;
      onwards = p.1.1.0;
      used = p.1.1.1.0;
      labels = p.1.1.1.1.0;
      spare_trains = p.1.1.1.1.1.0;
      spare_calls = p.1.1.1.1.1.1;
    }) (λ _. refl)

-- what stands beside a number whose departure's train was never told of
abbrev pub blank_onward : Onward
blank_onward = record { arrival = 0; to = 0; next = 0 }

-- what the train of the departure of a number does next
abbrev pub onward_at : Ordered → ℕ → Onward
onward_at o number = get_or o.onwards number blank_onward

-- it is the departure of the call of a train with this label
abbrev pub is_of_call : ℕ → ℕ → Departure → Bool
is_of_call train label d = nat_eq d.key.train train && nat_eq d.key.label label

-- the first number whose departure is that of a call
abbrev pub number_of : List (Option Departure) → ℕ → ℕ → Option ℕ
number_of [] train label = None
number_of (e ∷ es) train label =
    if option_map_or (is_of_call train label) e false then Some 0
    else option_map (λ n. suc n) (number_of es train label)

-- this number, or that past all where no departure is of the call
abbrev pub number_or_past : List (Option Departure) → ℕ → ℕ → ℕ
number_or_past es train label = option_map_or (λ n. n) (number_of es train label) (length es)

-- a departure as a scan comes to it
abbrev pub leaving_of : Ordered → Departure → Leaving
leaving_of o d =
    let number = number_or_past o.entries d.key.train d.key.label in
    let onward = onward_at o number in record {
      number = number;
      time = d.time;
      stop = d.stop;
      arrival = onward.arrival;
      to = onward.to;
      next = onward.next;
    }

-- there is a place for the number of the departure of this key
abbrev pub HasPlace : List ℕ → Key → Type 0
HasPlace labels k = k.label < get_or labels k.train 0

-- the departure, which takes place at a time if it has a key
abbrev pub at_time : Key → ℕ → Departure → Departure
at_time k time d = if is_same d.key k then record d { time = time } else d

-- the departures in their order, once that of a key takes place at another time
abbrev pub moved : Key → ℕ → List Departure → List Departure
moved k time ds = in_order leaves_before (map (at_time k time) ds)

-- what has a number, once the departure of a key was taken out
abbrev pub without : Key → Option Departure → Option Departure
without k None = None
without k (Some d) = if is_same d.key k then None else Some d

-- no number, and nothing beside it, changed
pub record KeepsDepartures (old new : Ordered) : Type 0 where
  pub departures : new.departures ≡ old.departures
  pub entries : new.entries ≡ old.entries
  pub onwards : new.onwards ≡ old.onwards
  pub used : new.used ≡ old.used

-- numbers can be noted for the same labels, with the same room for more
pub record KeepsRoom (old new : Ordered) : Type 0 where
  pub labels : new.labels ≡ old.labels
  pub spare_trains : new.spare_trains ≡ old.spare_trains
  pub spare_calls : new.spare_calls ≡ old.spare_calls
