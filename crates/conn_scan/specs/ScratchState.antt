-- What a scratch shows, and what an answer says.
use Rattle.std.specs.Prelude.{◌≡◌, ℕ, suc, ◌+◌, ◌≤◌, List, [], ◌∷◌, ◌++◌, min, nat_lt, true, if◌then◌else◌, Option, None, Some, length, map, vec_capacity, All}
use Rattle.std.specs.Option.{option_map_or}
use Rattle.mt_base.specs.declared.certificates.Reach.{Reach}
use Rattle.mt_base.specs.declared.journeys.PlanRide.{PlanRide}
use Rattle.mt_base.specs.declared.journeys.Query.{Query}
use Rattle.delay_model.specs.declared.network.Network.{Network}
use Rattle.delay_model.specs.declared.state.State.{State}
use Rattle.delay_model.specs.Journeys.{IsEarliest, HasNoJourney}
pub use Rattle.journey_laws.specs.Certificates.{IsGoodCertificate, name_of}
use Rattle.conn_scan.specs.declared.earliest_arrival.Found.{Found}
use Rattle.conn_scan.specs.declared.earliest_arrival.Found.TheVariants.{Arrives, NoWay}
use Rattle.conn_scan.specs.declared.earliest_arrival.Scratch.TheInside.{Inside}

-- for how many stops, and for how many numbers of departures, there is room
pub record ScratchRoom : Type 0 where
  pub stops : ℕ
  pub numbers : ℕ

-- the room, the rides of the journey that was found last, and by stop the time that stands for an
-- arrival there
pub record ScratchState : Type 0 where
  pub room : ScratchRoom
  pub rides : List PlanRide
  pub held : List (Option ℕ)

abbrev pub seen : Inside → ScratchState
seen s =
    record {
      room = record { stops = length s.known.held; numbers = s.numbers };
      rides = s.rides.items;
      held = s.known.held;
    }

-- so many numbers a timetable has at most: 2^22
abbrev pub most_numbers : ℕ
most_numbers = 4194304

-- there are rows for the stops and the number past all of them, and for the numbers of departures
-- and the one past all of them; and room for as many rides as there are stops
pub record HasRoom (s : Inside) : Type 0 where
  pub times : length s.known.openings.times ≡ length s.known.held + 1
  pub behind : length s.known.openings.rides ≡ length s.known.held + 1
  pub aboard : length s.known.aboard ≡ min s.numbers most_numbers + 1
  pub rides : length s.known.held ≤ vec_capacity s.rides

-- the earliest arrival with the rides of a journey that arrives then, or no ride, where there is no
-- journey
abbrev pub IsAnswer : Network → State → Query → List PlanRide → Found → Type 0
IsAnswer nw st q rides (Arrives at) = IsEarliest nw st q rides at
IsAnswer nw st q rides NoWay = (rides ≡ []) × HasNoJourney nw st q

-- the arrival of an answer
abbrev pub best_of_found : Found → Option ℕ
best_of_found (Arrives at) = Some at
best_of_found NoWay = None

-- a time is before the best arrival, as every one is where there is none
abbrev pub early_stop : Option ℕ → ℕ → Option ℕ → List Reach
early_stop best b None = []
early_stop best b (Some t) =
    if option_map_or (λ at. nat_lt t at) best true then record { stop = b; time = t } ∷ [] else []

-- those of these stops, which have the numbers from b on, that have a time before the best arrival
abbrev pub early_from : Option ℕ → ℕ → List (Option ℕ) → List Reach
early_from best b [] = []
early_from best b (t ∷ ts) = early_stop best b t ++ early_from best (suc b) ts

-- the stops that have a time before the best arrival, by rising number
abbrev pub early_stops : Option ℕ → List (Option ℕ) → List Reach
early_stops best held = early_from best 0 held

-- what a scratch shows after an answer shows that it is right: the rides, and the times by stop
-- that are before its arrival, make a good certificate, in which nothing is before the query's time
pub record IsSettled (nw : Network) (st : State) (q : Query) (found : Found) (s : ScratchState)
    : Type 0 where
  pub certificate : IsGoodCertificate nw st q (record {
    arrives = best_of_found found;
    rides = map name_of s.rides;
    reached = early_stops (best_of_found found) s.held;
  })
  pub since : All (λ (x : Reach). q.time ≤ x.time) (early_stops (best_of_found found) s.held)
