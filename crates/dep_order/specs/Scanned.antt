-- Departures one after another, in the order in which they take place.
use Rattle.std.specs.Prelude.{◌≡◌, ◌≢◌, ℕ, List, [], Bool, not, filter, map, Option, None, Some}
use Rattle.std.specs.Prelude.{if◌then◌else◌, nat_eq}
use Rattle.std.specs.Option.{option_map_or}
use Rattle.dep_order.specs.declared.departure.Departure.{Departure}
use Rattle.dep_order.specs.declared.departure.Leaving.{Leaving}
use Rattle.dep_order.specs.declared.lists.Lists.{Lists}
use Rattle.dep_order.specs.declared.scan.Departures.TheInside.{Inside}
use Rattle.dep_order.specs.Departing.{departures_in_order, held, leaves_before}
use Rattle.dep_order.specs.Held.{IsFirst, leaving_among}
use Rattle.dep_order.specs.Slots.{nobody}
use Rattle.dep_order.specs.Stored.{AreKept, bucket_count, bucket_of, entries_of, onwards_of}

-- a link as a number, if there is one
abbrev pub number_in : ℕ → Option ℕ
number_in number = if nat_eq number nobody then None else Some number

-- nobody, or the number of a departure of a bucket
abbrev pub IsPlace : Lists → ℕ → ℕ → Type 0
IsPlace l b number = number ≢ nobody → (d : Departure) × (held (entries_of l) number ≡ Some d)
    × (bucket_of (bucket_count l) d ≡ b)

-- the bucket and number of the first departure that passes a test, or nobody where none passes it
pub record IsFirstPlace (l : Lists) (passes : Departure → Bool) (b number : ℕ) : Type 0 where
  pub first : IsFirst (entries_of l) passes (number_in number)
  pub place : IsPlace l b number

-- the departure of a number as a scan comes to it, and the bucket and number of the one after it
pub record IsStep (l : Lists) (number : ℕ) (leaving : Leaving) (b next : ℕ) : Type 0 where
  pub departure : Departure
  pub there : held (entries_of l) number ≡ Some departure
  pub leaving_is : leaving ≡ leaving_among (entries_of l) (onwards_of l) departure
  pub ahead : IsFirstPlace l (leaves_before departure) b next

-- the departures in order from that of a number on
abbrev pub departures_from : List (Option Departure) → ℕ → List Departure
departures_from es number =
    let from = λ (d : Departure). filter (λ e. not (leaves_before e d)) (departures_in_order es) in
    option_map_or from (held es number) []

abbrev pub departures_left : Inside → List Leaving
departures_left s =
    map (leaving_among (entries_of s.lists.now) (onwards_of s.lists.now))
    (option_map_or (departures_from (entries_of s.lists.now)) (number_in s.number) [])

-- departures that are kept, and a place among them
pub record IsScan (s : Inside) : Type 0 where
  pub kept : AreKept s.lists.now
  pub place : IsPlace s.lists.now s.bucket s.number
