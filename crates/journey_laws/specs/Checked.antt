-- Whether a certificate is good, as tests over plain lists. `rides` are all rides of the state.
use Rattle.std.specs.Prelude.{ℕ, ◌+◌, List, [], ◌∷◌, Bool, true, false, ◌&&◌, ◌||◌, not, nat_eq, nat_lt, nat_le, cond, Option, find}
use Rattle.std.specs.List.{list_all, list_any}
use Rattle.std.specs.Option.{option_map_or}
use Rattle.mt_base.specs.declared.journeys.PlanRide.{PlanRide}
use Rattle.mt_base.specs.declared.journeys.Query.{Query}
use Rattle.delay_model.specs.declared.network.Network.{Network}
use Rattle.delay_model.specs.Changes.{change, is_stop}
use Rattle.delay_model.specs.Journeys.{is_one_station}
use Rattle.journey_laws.specs.Certificates.{time_in}
use Rattle.mt_base.specs.declared.certificates.CertRide.{CertRide}
use Rattle.mt_base.specs.declared.certificates.Cert.{Cert}
use Rattle.mt_base.specs.declared.certificates.Reach.{Reach}

-- whether a time is before the best arrival
abbrev pub is_early : Option ℕ → ℕ → Bool
is_early best t = option_map_or (λ at. nat_lt t at) best true

-- whether a change from place a, at time s, reaches place b by the time t
abbrev pub is_in_time : Network → ℕ → ℕ → ℕ → ℕ → Bool
is_in_time nw a s b t =
    option_map_or (λ w. nat_le (s + w) t) (change nw.stops nw.transfers nw.opts.change a b) false

-- whether one can board straight from the origin
abbrev pub is_from_origin : Network → Query → ℕ → ℕ → Bool
is_from_origin nw q b t =
    cond (is_one_station nw q.from_stop b) (nat_le q.time t)
    (is_in_time nw q.from_stop q.time b t)

-- whether one can board at stop b at time t, by what these stops say
abbrev pub may_board : Network → Query → List Reach → ℕ → ℕ → Bool
may_board nw q list b t = is_from_origin nw q b t
    || list_any (λ (x : Reach). is_in_time nw x.stop x.time b t) list

-- whether stop b is among them with a time not after t
abbrev pub has_arrived : List Reach → ℕ → ℕ → Bool
has_arrived list b t = option_map_or (λ s. nat_le s t) (time_in list b) false

-- whether the arrival of a ride that can be boarded by what `before` says is missing in `after`
abbrev pub is_missing : Network → Query → Option ℕ → List Reach → List Reach → PlanRide → Bool
is_missing nw q best before after r =
    may_board nw q before r.board_stop r.board_time
    && (is_early best r.board_time && (is_early best r.alight_time
    && not (has_arrived after r.alight_stop r.alight_time)))

-- whether the arrival of no ride is
abbrev pub has_arrivals : Network → List PlanRide → Query → Option ℕ → List Reach → List Reach
    → Bool
has_arrivals nw rides q best before after = list_all
    (λ r. not (is_missing nw q best before after r)) rides

-- whether the ride has this name
abbrev pub is_named : CertRide → PlanRide → Bool
is_named c r = nat_eq r.train c.train && (nat_eq r.board c.board && nat_eq r.alight c.alight)

-- the one of these rides that has this name
abbrev pub ride_named : List PlanRide → CertRide → Option PlanRide
ride_named rides c = find (is_named c) rides

-- whether those of these names go on from place a at time t and end in the station of `to` at
-- time `arrives`
abbrev pub goes_on : Network → List PlanRide → ℕ → ℕ → List CertRide → ℕ → ℕ → Bool
goes_on nw rides a t [] to arrives = is_one_station nw a to && nat_eq t arrives
goes_on nw rides a t (c ∷ cs) to arrives =
    option_map_or (λ (r : PlanRide). is_in_time nw a t r.board_stop r.board_time
    && goes_on nw rides r.alight_stop r.alight_time cs to arrives) (ride_named rides c) false

-- whether they are a journey of the query, which arrives at this time
abbrev pub are_journey : Network → List PlanRide → Query → List CertRide → ℕ → Bool
are_journey nw rides q [] arrives = is_one_station nw q.from_stop q.to_stop && nat_eq q.time arrives
are_journey nw rides q (c ∷ cs) arrives =
    option_map_or (λ (r : PlanRide). is_from_origin nw q r.board_stop r.board_time
    && goes_on nw rides r.alight_stop r.alight_time cs q.to_stop arrives) (ride_named rides c) false

-- whether there is none
abbrev pub is_empty : List CertRide → Bool
is_empty [] = true
is_empty (c ∷ cs) = false

-- whether the stops rise by number
abbrev pub are_rising : List Reach → Bool
are_rising [] = true
are_rising (x ∷ xs) = list_all (λ (y : Reach). nat_lt x.stop y.stop) xs && are_rising xs

-- whether it is a stop or platform, with a time before the best arrival
abbrev pub is_early_stop : Network → Option ℕ → Reach → Bool
is_early_stop nw best x = is_stop nw.stops x.stop && is_early best x.time

-- whether the best arrival is the query's time, where origin and destination are of one station
abbrev pub is_at_once : Network → Query → Option ℕ → Bool
is_at_once nw q best =
    cond (is_one_station nw q.from_stop q.to_stop)
    (option_map_or (λ at. nat_eq at q.time) best false) true

-- whether a certificate is good, where these are all rides
abbrev pub is_good : Network → List PlanRide → Query → Cert → Bool
is_good nw rides q c =
    (are_rising c.reached && list_all (is_early_stop nw c.arrives) c.reached)
    && ((option_map_or (are_journey nw rides q c.rides) c.arrives (is_empty c.rides)
    && is_at_once nw q c.arrives)
    && (has_arrivals nw rides q c.arrives c.reached c.reached
    && list_all (λ (x : Reach). not (is_one_station nw x.stop q.to_stop)) c.reached))
