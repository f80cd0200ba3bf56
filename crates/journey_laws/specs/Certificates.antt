-- When a certificate is good: it shows that no journey arrives earlier than it says.
use Rattle.std.specs.Prelude.{◌≡◌, ◌↔◌, ℕ, ◌<◌, List, [], ◌∷◌, true, false, nat_eq, if◌then◌else◌, Option, Some, None, MatchOption, map, All, AllPairs}
use Rattle.mt_base.specs.declared.journeys.PlanRide.{PlanRide}
use Rattle.mt_base.specs.declared.journeys.Query.{Query}
use Rattle.delay_model.specs.declared.network.Network.{Network}
use Rattle.delay_model.specs.declared.state.State.{State}
use Rattle.delay_model.specs.Changes.{is_stop}
use Rattle.delay_model.specs.Journeys.{IsJourney, is_one_station}
use Rattle.journey_laws.specs.Reached.{HasArrivals, IsAtOnce, IsEarly}
use Rattle.mt_base.specs.declared.certificates.CertRide.{CertRide}
use Rattle.mt_base.specs.declared.certificates.Cert.{Cert}
use Rattle.mt_base.specs.declared.certificates.Reach.{Reach}

-- a ride as a certificate names it
abbrev pub name_of : PlanRide → CertRide
name_of r = record { train = r.train; board = r.board; alight = r.alight }

-- the rides of these names are a journey of the query, which arrives at this time
abbrev pub AreJourney : Network → State → Query → List CertRide → ℕ → Type 0
AreJourney nw st q names arrives = (rides : List PlanRide) × (map name_of rides ≡ names)
    × IsJourney nw st q rides arrives

-- the rides of these names are a journey that arrives then; without an arrival there is no ride
abbrev pub AreRidesUntil : Network → State → Query → Option ℕ → List CertRide → Type 0
AreRidesUntil nw st q arrives names = MatchOption arrives (names ≡ []) (AreJourney nw st q names)

-- the time that stands beside stop b in a list of stops
abbrev pub time_in : List Reach → ℕ → Option ℕ
time_in [] b = None
time_in (x ∷ xs) b = if nat_eq x.stop b then Some x.time else time_in xs b

-- a stop or platform, with a time before the best arrival
abbrev pub IsEarlyStop : Network → Option ℕ → Reach → Type 0
IsEarlyStop nw best x = (is_stop nw.stops x.stop ≡ true) × IsEarly best x.time

-- such stops, by rising number
abbrev pub AreEarlyStops : Network → Option ℕ → List Reach → Type 0
AreEarlyStops nw best list = AllPairs (λ x y. x.stop < y.stop) list × All (IsEarlyStop nw best) list

-- a good certificate of a query
pub record IsGoodCertificate (nw : Network) (st : State) (q : Query) (c : Cert)
    : Type 0 where
  -- the stops reached rise by number, and each has a time before the arrival
  pub early : AreEarlyStops nw c.arrives c.reached
  -- the rides are a journey that arrives then. Where origin and destination are of one station, the
  -- arrival is the query's time
  pub journey : AreRidesUntil nw st q c.arrives c.rides × IsAtOnce nw q c.arrives
  -- among the stops reached no arrival by one ride more is missing
  pub arrivals : HasArrivals nw st q c.arrives (time_in c.reached) (time_in c.reached)
  -- none of them is in the destination's station
  pub elsewhere : All (λ x. is_one_station nw x.stop q.to_stop ≡ false) c.reached

-- the list has each time before the best arrival by which a stop is reached, and no other
abbrev pub IsEarlyPart : Option ℕ → (ℕ → Option ℕ) → List Reach → Type 0
IsEarlyPart best reached list =
    (b t : ℕ) → (time_in list b ≡ Some t) ↔ ((reached b ≡ Some t) × IsEarly best t)
