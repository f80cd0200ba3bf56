-- What a passenger can do at the event times, and the earliest of it.
use Rattle.std.specs.Prelude.{◌≡◌, ℕ, ◌+◌, ◌≤◌, List, [], ◌∷◌, ◌++◌, Bool, true, Some, slice_get, All, nat_eq, MatchBool}
use Rattle.mt_base.specs.declared.journeys.Query.{Query}
use Rattle.mt_base.specs.declared.journeys.PlanRide.{PlanRide}
use Rattle.delay_model.specs.declared.network.Network.{Network}
use Rattle.delay_model.specs.declared.state.Call.{Call}
use Rattle.delay_model.specs.declared.state.Train.{Train}
use Rattle.delay_model.specs.declared.state.State.{State}
use Rattle.delay_model.specs.Changes.{station, change}
use Rattle.delay_model.specs.Events.{arrival_of, departure_of}
use Rattle.delay_model.specs.Timing.{event_time}

-- the train stops at this call and goes on from it
abbrev pub StopsAndGoesOn : Call → Type 0
StopsAndGoesOn c = (c.arrival.live ≡ true) × (c.departure.live ≡ true)

-- a ride: one train from a boardable departure to a later alightable arrival, and every event from
-- the one to the other is live. It shows the stops of its two calls, and the times of its departure
-- and its arrival
pub record IsRide (nw : Network) (st : State) (r : PlanRide) : Type 0 where
  pub by_train : Train
  pub calls_before : List Call
  pub boarded : Call
  pub calls_between : List Call
  pub alighted : Call
  pub calls_after : List Call
  pub is_train : slice_get st.trains r.train ≡ Some by_train
  pub are_calls : by_train.calls ≡ calls_before ++ boarded
      ∷ (calls_between ++ alighted ∷ calls_after)
  pub board_label : r.board ≡ boarded.label
  pub board_stop : r.board_stop ≡ boarded.stop
  pub board_time : r.board_time ≡ event_time nw st (departure_of r.train by_train.route boarded).key
  pub alight_label : r.alight ≡ alighted.label
  pub alight_stop : r.alight_stop ≡ alighted.stop
  pub alight_time : r.alight_time ≡ event_time nw st
      (arrival_of r.train by_train.route alighted).key
  pub departs : boarded.departure.live ≡ true
  pub passes : All StopsAndGoesOn calls_between
  pub arrives : alighted.arrival.live ≡ true
  pub may_board : boarded.board ≡ true
  pub may_alight : alighted.alight ≡ true

-- a change from place a, at time t, reaches place b by the time s
abbrev pub IsInTime : Network → ℕ → ℕ → ℕ → ℕ → Type 0
IsInTime nw a t b s = (w : ℕ) × (change nw.stops nw.transfers nw.opts.change a b ≡ Some w)
    × (t + w ≤ s)

-- both places are of one station
abbrev pub is_one_station : Network → ℕ → ℕ → Bool
is_one_station nw a b = nat_eq (station nw.stops a) (station nw.stops b)

-- the first departure: within the origin's station not before the query's time, at a stop of
-- another station only after a change
abbrev pub MayBegin : Network → Query → PlanRide → Type 0
MayBegin nw q r =
    MatchBool (is_one_station nw q.from_stop r.board_stop) (q.time ≤ r.board_time)
    (IsInTime nw q.from_stop q.time r.board_stop r.board_time)

-- these rides go on from place a at time t, with a change before each, and end in the station of
-- `to` at time `arrives`
abbrev pub GoesOn : Network → State → ℕ → ℕ → List PlanRide → ℕ → ℕ → Type 0
GoesOn nw st a t [] to arrives = (is_one_station nw a to ≡ true) × (t ≡ arrives)
GoesOn nw st a t (r ∷ rs) to arrives =
    IsRide nw st r × IsInTime nw a t r.board_stop r.board_time
    × GoesOn nw st r.alight_stop r.alight_time rs to arrives

-- these rides are a journey of the query, which arrives at this time. No ride at all is one where
-- origin and destination have one station, and arrives at the query's time
abbrev pub IsJourney : Network → State → Query → List PlanRide → ℕ → Type 0
IsJourney nw st q [] arrives = (is_one_station nw q.from_stop q.to_stop ≡ true) × (q.time ≡ arrives)
IsJourney nw st q (r ∷ rs) arrives =
    IsRide nw st r × MayBegin nw q r × GoesOn nw st r.alight_stop r.alight_time rs q.to_stop arrives

-- a journey of the query, and none arrives earlier
pub record IsEarliest (nw : Network) (st : State) (q : Query) (rides : List PlanRide)
    (arrives : ℕ) : Type 0 where
  pub journey : IsJourney nw st q rides arrives
  pub least : (others : List PlanRide) (at : ℕ) → IsJourney nw st q others at → arrives ≤ at

-- the query has no journey
abbrev pub HasNoJourney : Network → State → Query → Type 0
HasNoJourney nw st q = (rides : List PlanRide) (at : ℕ) → IsJourney nw st q rides at → ⊥
