-- What becomes of a journey: which of its rides can still be taken, and when it arrives.
use Rattle.std.specs.Prelude.{ℕ, ◌+◌, List, [], ◌∷◌, Bool, nat_eq, if◌then◌else◌, Option, Some, None, find}
use Rattle.std.specs.List.{list_any}
use Rattle.std.specs.Option.{option_and_then, option_map, option_map_or}
use Rattle.mt_base.specs.declared.certificates.CertRide.{CertRide}
use Rattle.mt_base.specs.declared.journeys.PlanRide.{PlanRide}
use Rattle.mt_base.specs.declared.journeys.Query.{Query}
use Rattle.mt_base.specs.declared.keys.Node.{Node}
use Rattle.standing_laws.specs.declared.standings.Standing.{Standing}
use Rattle.standing_laws.specs.declared.standings.Standing.TheVariants.{Good, Broken}
use Rattle.delay_model.specs.declared.network.Network.{Network}
use Rattle.delay_model.specs.declared.state.Call.{Call}
use Rattle.delay_model.specs.declared.state.State.{State}
use Rattle.delay_model.specs.Cuts.{after}
use Rattle.delay_model.specs.Effect.{is_call}
use Rattle.delay_model.specs.Events.{calls_of}
use Rattle.journey_laws.specs.Checked.{is_from_origin, is_in_time}
use Rattle.journey_laws.specs.Rides.{ride_between}

-- the call with a label among these, which a train makes one after the other, if it arrives there
-- and at each call before, and departs from each call before
abbrev pub reached_call : ℕ → List Call → Option Call
reached_call label [] = None
reached_call label (c ∷ cs) =
    if c.arrival.live then
    (if nat_eq c.label label then Some c
    else if c.departure.live then reached_call label cs else None)
    else None

-- the ride from call c of a train to the one with a label among those after it, if the train
-- departs from c and runs that far
abbrev pub ride_from : Network → State → ℕ → ℕ → Call → List Call → Option PlanRide
ride_from nw st train alight c cs =
    if c.departure.live then option_map (ride_between nw st train 0 c) (reached_call alight cs)
    else None

-- the ride of this name, as it is now, if the train still makes both calls and runs from the one to
-- the other
abbrev pub ride_now : Network → State → CertRide → Option PlanRide
ride_now nw st name =
    let calls = calls_of st name.train in
    option_and_then (λ (c : Call). ride_from nw st name.train name.alight c
    (after (is_call name.board) calls)) (find (is_call name.board) calls)

-- the standing of rides that begin at place a at time t, where n rides were taken before: each needs
-- a change that is done when its train departs
abbrev pub standing_after : Network → State → ℕ → ℕ → ℕ → List CertRide → Standing
standing_after nw st a t n [] = Good t
standing_after nw st a t n (c ∷ cs) =
    option_map_or (λ (r : PlanRide). if is_in_time nw a t r.board_stop r.board_time
    then standing_after nw st r.alight_stop r.alight_time (n + 1) cs else Broken n)
    (ride_now nw st c) (Broken n)

-- the standing of a query's journey of these rides: good, with its arrival, or broken, with the
-- first ride that can no longer be taken, from 0
abbrev pub standing : Network → State → Query → List CertRide → Standing
standing nw st q [] = Good q.time
standing nw st q (c ∷ cs) =
    option_map_or (λ (r : PlanRide). if is_from_origin nw q r.board_stop r.board_time
    then standing_after nw st r.alight_stop r.alight_time 1 cs else Broken 0)
    (ride_now nw st c) (Broken 0)

-- when a journey of these rides arrives, as they say. Without a ride it is time t
abbrev pub first_arrival : ℕ → List PlanRide → ℕ
first_arrival t [] = t
first_arrival t (r ∷ rs) = first_arrival r.alight_time rs

-- one of the rides is on the train of one of these events
abbrev pub is_on_one : List Node → List CertRide → Bool
is_on_one nodes rides =
    list_any (λ (c : CertRide). list_any (λ (n : Node). nat_eq n.train c.train) nodes) rides
