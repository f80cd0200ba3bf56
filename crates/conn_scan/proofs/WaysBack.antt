-- The way back from a ride, as the beginning of a journey.
use Rattle.conn_scan.proofs.Words.{◌≡◌, ℕ, ◌+◌, ◌≤◌, ◌<◌, Bool, true, false, List, [], ◌∷◌, ◌++◌, reverse, Option, Some, None, MatchBool, refl, sym, ap, subst, arith, MatchOption, option_and_then, append_assoc, PlanRide, Query, Network, State, is_one_station, IsInTime, IsRide, IsJourney, IsValid, IsFromOrigin, Access, CanBoard, IsBehind, IsPossible, AreExplained, ride_before, IsWayBack}
use Rattle.std.proofs.lemmas.Grind.{reverse_onto}
use Rattle.std.proofs.lemmas.Option.{MatchOption-at_none, MatchOption-at_some}
use Rattle.delay_model.specs.Journeys.{MayBegin, GoesOn}
use Rattle.journey_laws.proofs.Forward.{in_time-later, ride-forward}
use Rattle.conn_scan.specs.Ways.{LeadsBackwards}

module _ (nw : Network) (st : State) (q : Query) where
  -- what is reached in one of these ways at a time, is reached at each later one
  pub by_match : (o : Option PlanRide) (b s t : ℕ) → s ≤ t → ((h : IsFromOrigin nw q b s) → IsFromOrigin nw q b t) → (access : ℕ → Option Access) → MatchOption o (IsFromOrigin nw q b s) (λ r. IsPossible nw st access r × IsBehind nw r b s) → MatchOption o (IsFromOrigin nw q b t) (λ r. IsPossible nw st access r × IsBehind nw r b t)
  by_match None b s t le later access h = later h
  by_match (Some r) b s t le later access h = let by = h.1.2 in (h.0, (h.1.0, h.1.1, omega arith))

  pub origin-later : (x : Bool) (b s t : ℕ) → s ≤ t → MatchBool x (q.time ≤ s) (IsInTime nw q.from_stop q.time b s) → MatchBool x (q.time ≤ t) (IsInTime nw q.from_stop q.time b t)
  origin-later true b s t le h = omega arith
  origin-later false b s t le h = let by = h.2 in (h.0, h.1, omega arith)

  module _ (access : ℕ → Option Access) (explained : AreExplained nw st q access) where
    -- how the passenger comes to a ride that he can board
    boards : (r : PlanRide) → CanBoard access r → MatchOption (ride_before access r) (MayBegin nw q r) (λ a. IsPossible nw st access a × IsBehind nw a r.board_stop r.board_time)
    boards r h =
        let a = h.0 in
        let there : a.ride ≡ ride_before access r = ap (option_and_then (λ (a : Access). a.ride)) (sym h.1) in
        subst (λ o. MatchOption o (MayBegin nw q r) (λ a. IsPossible nw st access a × IsBehind nw a r.board_stop r.board_time)) there
        (by_match a.ride r.board_stop a.time r.board_time h.2 (origin-later (is_one_station nw q.from_stop r.board_stop) r.board_stop a.time r.board_time h.2) access (explained r.board_stop a h.1))

    -- the ride before one that can be boarded
    boards-after : (r before : PlanRide) → CanBoard access r → ride_before access r ≡ Some before → IsPossible nw st access before × IsBehind nw before r.board_stop r.board_time
    boards-after r before h at =
        MatchOption-at_some (MayBegin nw q r) (λ a. IsPossible nw st access a × IsBehind nw a r.board_stop r.board_time) before at (boards r h)

    way-journey : (rides : List PlanRide) (r : PlanRide) (rest : List PlanRide) (arrives : ℕ) → IsPossible nw st access r → IsWayBack access r rides → GoesOn nw st r.alight_stop r.alight_time rest q.to_stop arrives → IsJourney nw st q (reverse rides ++ r ∷ rest) arrives
    way-journey [] r rest arrives possible way goes =
        (possible.0, MatchOption-at_none (MayBegin nw q r) (λ a. IsPossible nw st access a × IsBehind nw a r.board_stop r.board_time) way (boards r possible.1), goes)
    way-journey (before ∷ rides) r rest arrives possible way goes =
        let last = boards-after r before possible.1 way.0 in
        rw (reverse_onto rides before [], append_assoc (reverse rides) (before ∷ []) (r ∷ rest)) (way-journey rides before (r ∷ rest) arrives last.0 way.1 (possible.0, last.1, goes))

    -- the rides on the way back from one that ends in the destination's station are a journey
    pub way-arrives : (rides : List PlanRide) (r : PlanRide) → IsPossible nw st access r → IsWayBack access r rides → is_one_station nw r.alight_stop q.to_stop ≡ true → IsJourney nw st q (reverse (r ∷ rides)) r.alight_time
    way-arrives rides r possible way there = rw (reverse_onto rides r []) (way-journey rides r [] r.alight_time possible way (there, refl))

    -- the ride before one that can be boarded can be taken, and departs earlier
    pub leads-backwards : IsValid nw st → LeadsBackwards nw st access
    leads-backwards valid r before can at =
        let last = boards-after r before can at in
        let ride = ride-forward nw st valid before last.0.0 in
        let later = in_time-later nw valid.options before.alight_stop before.alight_time r.board_stop r.board_time last.1 in
        (last.0.0, last.0.1, omega arith)
