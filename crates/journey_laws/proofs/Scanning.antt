-- What a scan of the departures in the order of their times keeps, ride by ride, and what it is at its end.
use Rattle.std.proofs.Common.{◌≡◌, ◌⊎◌, inl, inr, ℕ, ◌≤◌, Bool, true, false, Option, Some, None, MatchBool, refl, sym, subst, arith}
use Rattle.std.proofs.lemmas.Bool.{both_ways, cases_Bool}
use Rattle.std.proofs.lemmas.Option.{none-some}
use Rattle.mt_base.specs.declared.journeys.PlanRide.{PlanRide}
use Rattle.mt_base.specs.declared.journeys.Query.{Query}
use Rattle.delay_model.specs.declared.network.Network.{Network}
use Rattle.delay_model.specs.declared.state.State.{State}
use Rattle.delay_model.specs.Journeys.{IsInTime, IsRide, is_one_station}
use Rattle.delay_model.specs.Valid.{IsValid}
use Rattle.journey_laws.specs.Reached.{HasArrived, IsEarly, IsFinished, IsOpen, MayBoard}
use Rattle.journey_laws.specs.Scans.{IsArrivalTaken, IsBestBy, IsBestTaken, IsRideTaken, IsScanOf}
use Rattle.journey_laws.proofs.BestArrivals.{best-not_early}
use Rattle.journey_laws.proofs.Beginnings.{early-before}
use Rattle.journey_laws.proofs.Forward.{in_time-later, ride-forward}

origin-from : (nw : Network) (q : Query) (x : Bool) (b t : ℕ) → MatchBool x (q.time ≤ t) (IsInTime nw q.from_stop q.time b t) → q.time ≤ t
origin-from nw q true b t h = h
origin-from nw q false b t h = let by = h.2 in omega arith

-- the best arrival being no later than a time, that time is not early
best-by-late : (best : Option ℕ) (t : ℕ) → IsBestBy best t → IsEarly best t → ⊥
best-by-late best t by early = best-not_early best by.0 by.1 (early-before best by.0 t by.2 early)

module _ (nw : Network) (st : State) (q : Query) where
  -- who can board, does so not before the query's time
  pub boards-since : (reached : ℕ → Option ℕ) (b t : ℕ) → ((a s : ℕ) → reached a ≡ Some s → q.time ≤ s) → MayBoard nw q reached b t → q.time ≤ t
  boards-since reached b t since (inl first) = origin-from nw q (is_one_station nw q.from_stop b) b t first
  boards-since reached b t since (inr (a, s, at, change)) = let from = since a s at in let by = change.2 in omega arith

  -- at first nothing is reached, and no ride was looked at
  pub scan-starts : IsScanOf nw st q None (λ b. None) (λ r. ⊥)
  scan-starts = record {
    arrivals = λ r ride seen. absurd seen;
    there = λ b t at. absurd (none-some t at);
    since = λ b t at. absurd (none-some t at);
  }

  -- rides that cannot be boarded are passed over
  pub scan-passes : (best : Option ℕ) (reached : ℕ → Option ℕ) (Seen Now : PlanRide → Type 0) → ((r : PlanRide) → IsRide nw st r → Now r → IsOpen nw q reached r → Seen r) → IsScanOf nw st q best reached Seen → IsScanOf nw st q best reached Now
  scan-passes best reached Seen Now rest scan = record {
    arrivals = λ r ride now open_to. scan.arrivals r ride (rest r ride now open_to) open_to;
    there = scan.there;
    since = scan.since;
  }

  module _ (valid : IsValid nw st) where
    -- an arrival at stop b at time t is taken, by whatever rides end there then: those that were looked at depart by then, and so before any change from there is done
    pub scan-takes-at : (best new_best : Option ℕ) (old new : ℕ → Option ℕ) (Seen Now : PlanRide → Type 0) (b t : ℕ) → q.time ≤ t → IsArrivalTaken b t old new → IsBestTaken nw q b t best new_best → ((s : PlanRide) → IsRide nw st s → Now s → (Seen s ⊎ ((s.alight_stop ≡ b) × (s.alight_time ≡ t))) × (s.board_time ≤ t)) → IsScanOf nw st q best old Seen → IsScanOf nw st q new_best new Now
    scan-takes-at best new_best old new Seen Now b t begun taken best_taken now scan = record {
      arrivals = arrivals;
      there = there;
      since = since;
    }
      where
        -- what can be boarded now, and departs no later, could be boarded before
        was-open : (s : PlanRide) → s.board_time ≤ t → IsOpen nw q new s → IsOpen nw q old s
        was-open s le (inl first) = inl first
        was-open s le (inr (a, u, at, change)) = elim (taken.others a u at) [
          | inl before ↦ inr (a, u, before, change)
          | inr here ↦
              let later = in_time-later nw valid.options a u s.board_stop s.board_time change in
              let time = here.1 in
              absurd (omega arith)
        ]

        arrivals : (s : PlanRide) → IsRide nw st s → Now s → IsOpen nw q new s → HasArrived new s.alight_stop s.alight_time
        arrivals s is_ride at can =
            let by = now s is_ride at in
            elim by.0 [
              | inl seen ↦ taken.no_later s.alight_stop s.alight_time (scan.arrivals s is_ride seen (was-open s by.1 can))
              | inr here ↦ subst (λ c. HasArrived new c s.alight_time) (sym here.0) (subst (HasArrived new b) (sym here.1) taken.there)
            ]

        there : (c s : ℕ) → new c ≡ Some s → is_one_station nw c q.to_stop ≡ true → IsBestBy new_best s
        there c s at one = elim (taken.others c s at) [
          | inl before ↦ best_taken.no_later s (scan.there c s before one)
          | inr here ↦ subst (IsBestBy new_best) (sym here.1) (best_taken.there (subst (λ c. is_one_station nw c q.to_stop ≡ true) here.0 one))
        ]

        since : (c s : ℕ) → new c ≡ Some s → q.time ≤ s
        since c s at = elim (taken.others c s at) [
          | inl before ↦ scan.since c s before
          | inr here ↦ let time = here.1 in omega arith
        ]

    -- a ride that can be boarded is taken, at the latest when those that depart by its arrival were looked at
    pub scan-takes : (best new_best : Option ℕ) (old new : ℕ → Option ℕ) (Seen Now : PlanRide → Type 0) (r : PlanRide) → IsRide nw st r → IsOpen nw q old r → IsRideTaken r old new → IsBestTaken nw q r.alight_stop r.alight_time best new_best → ((s : PlanRide) → IsRide nw st s → Now s → (Seen s ⊎ (s ≡ r)) × (s.board_time ≤ r.alight_time)) → IsScanOf nw st q best old Seen → IsScanOf nw st q new_best new Now
    scan-takes best new_best old new Seen Now r ride open_to taken best_taken now scan =
        let from = boards-since old r.board_stop r.board_time scan.since open_to in
        let on = ride-forward nw st valid r ride in
        scan-takes-at best new_best old new Seen Now r.alight_stop r.alight_time (omega arith) taken best_taken (λ s is_ride at.
        let by = now s is_ride at in
        (elim by.0 [ inl seen ↦ inl seen | inr same ↦ inr ((λ i. (same i).alight_stop), (λ i. (same i).alight_time)) ], by.1)) scan

  -- where origin and destination are of different stations, a scan is finished once it has looked at all rides that depart from the query's time on and before the best arrival
  pub scan-ends : (best : Option ℕ) (reached : ℕ → Option ℕ) (Seen : PlanRide → Type 0) → is_one_station nw q.from_stop q.to_stop ≡ false → ((r : PlanRide) → IsRide nw st r → q.time ≤ r.board_time → IsEarly best r.board_time → Seen r) → IsScanOf nw st q best reached Seen → IsFinished nw st q best reached
  scan-ends best reached Seen apart all scan = record {
    at_once = λ one. absurd (both_ways _ apart one);
    arrivals = λ r ride open_to leaves early. scan.arrivals r ride (all r ride (boards-since reached r.board_stop r.board_time scan.since open_to) leaves) open_to;
    elsewhere = elsewhere;
  }
    where
      elsewhere : (b t : ℕ) → reached b ≡ Some t → IsEarly best t → is_one_station nw b q.to_stop ≡ false
      elsewhere b t at early = elim (cases_Bool (is_one_station nw b q.to_stop)) [
        | inl one ↦ absurd (best-by-late best t (scan.there b t at one) early)
        | inr not ↦ not
      ]

  -- where origin and destination are of one station nothing has to be looked at
  pub at_once-ends : (valid : IsValid nw st) → is_one_station nw q.from_stop q.to_stop ≡ true → IsFinished nw st q (Some q.time) (λ b. None)
  at_once-ends valid one = record {
    at_once = λ _. refl;
    arrivals = λ r ride open_to leaves early. let from = boards-since (λ b. None) r.board_stop r.board_time (λ a s at. absurd (none-some s at)) open_to in absurd (omega arith);
    elsewhere = λ b t at. absurd (none-some t at);
  }

-- an arrival no earlier than what is reached changes nothing
pub taken-already-at : (b t : ℕ) (reached : ℕ → Option ℕ) → HasArrived reached b t → IsArrivalTaken b t reached reached
taken-already-at b t reached by = record { no_later = λ c s h. h; there = by; others = λ c s at. inl at }

-- nor does a ride with such an arrival
pub taken-already : (r : PlanRide) (reached : ℕ → Option ℕ) → HasArrived reached r.alight_stop r.alight_time → IsRideTaken r reached reached
taken-already r reached by = taken-already-at r.alight_stop r.alight_time reached by
