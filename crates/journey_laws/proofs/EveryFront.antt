-- Every query has rounds: what one more round finds, ride by ride, in any order.
use Rattle.std.proofs.Common.{◌≡◌, ◌⊎◌, inl, inr, ℕ, zero, suc, ◌≤◌, ◌<◌, true, List, [], ◌∷◌, ◌++◌, length, Option, Some, None, refl, sym, ◌∙◌, subst, arith}
use Rattle.std.specs.List.{All, Contains}
use Rattle.std.proofs.lemmas.Bool.{cases_Bool}
use Rattle.std.proofs.lemmas.List.Elements.{All-head, All-tail}
use Rattle.std.proofs.lemmas.Option.{none-some}
use Rattle.mt_base.specs.declared.journeys.PlanRide.{PlanRide}
use Rattle.mt_base.specs.declared.journeys.Query.{Query}
use Rattle.delay_model.specs.declared.network.Network.{Network}
use Rattle.delay_model.specs.declared.state.State.{State}
use Rattle.delay_model.specs.Journeys.{IsInTime, IsJourney, IsRide, is_one_station}
use Rattle.delay_model.specs.Valid.{IsValid}
use Rattle.delay_model.proofs.Lists.{Contains-cases}
use Rattle.delay_model.specs.AtStops.{AreAtStops}
use Rattle.journey_laws.specs.Fronts.{IsAfterRounds, Round, best_of, plans_at_once}
use Rattle.journey_laws.specs.Reached.{HasArrived, IsEarly, IsOpen}
use Rattle.journey_laws.specs.Scans.{IsBestBy}
use Rattle.mt_base.specs.declared.journeys.Plan.{Plan}
use Rattle.journey_laws.proofs.Beginnings.{IsAfter, after-journey, early-before}
use Rattle.journey_laws.proofs.BestArrivals.{best-not_early, cases-early}
use Rattle.journey_laws.proofs.Decided.{arrived-cases, board-cases, cases-option, lowered, ride-taken}
use Rattle.journey_laws.proofs.Forward.{alights-at_stop}
use Rattle.journey_laws.proofs.EveryQuery.{early-lt, stop-within}
use Rattle.journey_laws.proofs.RideLemmas.{ride-there, trains-rides}
use Rattle.journey_laws.specs.Rides.{rides_of_trains}
use Rattle.journey_laws.proofs.Rounds.{best-pushed}

-- each time at a stop is found by the beginning of a journey with less than k rides before its last
abbrev AreFound : Network → State → Query → ℕ → (ℕ → Option ℕ) → Type 0
AreFound nw st q k reached = (b t : ℕ) → reached b ≡ Some t → (j : ℕ) × (r : PlanRide) × IsAfter nw st q j r × (j < k) × (r.alight_stop ≡ b) × (r.alight_time ≡ t)

-- a new best arrival, found by a beginning of a journey with at most k rides before its last
abbrev IsBetter : Network → State → Query → ℕ → Option ℕ → Option ℕ → Type 0
IsBetter nw st q k old new = (at : ℕ) × (new ≡ Some at) × IsEarly old at × ((j : ℕ) × (r : PlanRide) × IsAfter nw st q j r × (j ≤ k) × (is_one_station nw r.alight_stop q.to_stop ≡ true) × (r.alight_time ≡ at))

-- a round after `before`, which is known after k rounds, that has looked at the rides of a list
record IsRoundOf (nw : Network) (st : State) (q : Query) (n k : ℕ) (before : Round) (best : Option ℕ) (reached : ℕ → Option ℕ) (rides : List PlanRide) : Type 0 where
  pub arrivals : (r : PlanRide) → Contains rides r → IsOpen nw q before.reached r → HasArrived reached r.alight_stop r.alight_time
  pub there : (b t : ℕ) → reached b ≡ Some t → is_one_station nw b q.to_stop ≡ true → IsBestBy best t
  pub within : (b : ℕ) → n ≤ b → reached b ≡ None
  pub found : AreFound nw st q (suc k) reached
  pub best_found : (best ≡ best_of before.plans) ⊎ IsBetter nw st q k (best_of before.plans) best

abbrev Searched : Network → State → Query → ℕ → ℕ → Round → List PlanRide → Type 0
Searched nw st q n k before rides = (best : Option ℕ) × (reached : ℕ → Option ℕ) × IsRoundOf nw st q n k before best reached rides

-- what is known after k rounds, at stops below n
record IsKnown (nw : Network) (st : State) (q : Query) (n k : ℕ) (r : Round) : Type 0 where
  pub rounds : IsAfterRounds nw st q k r
  pub within : (b : ℕ) → n ≤ b → r.reached b ≡ None
  pub found : AreFound nw st q k r.reached

module _ (nw : Network) (st : State) (q : Query) where
  open-found : (k : ℕ) (reached : ℕ → Option ℕ) → AreFound nw st q k reached → (r : PlanRide) → IsRide nw st r → IsOpen nw q reached r → (j : ℕ) × IsAfter nw st q j r × (j ≤ k)
  open-found k reached found r ride (inl first) = (0, (ride, first), omega arith)
  open-found k reached found r ride (inr (a, s, at, change)) =
      let end = found a s at in
      let p = end.1 in
      let few = end.3 in
      (suc end.0, (ride, (p, end.2, subst (λ a. IsInTime nw a p.alight_time r.board_stop r.board_time) (sym end.4) (subst (λ s. IsInTime nw a s r.board_stop r.board_time) (sym end.5) change))), omega arith)

  still-early : (k : ℕ) (old best : Option ℕ) → (best ≡ old) ⊎ IsBetter nw st q k old best → (t : ℕ) → IsEarly best t → IsEarly old t
  still-early k old best (inl same) t early = subst (λ o. IsEarly o t) same early
  still-early k old best (inr (at, is, better, end)) t early = let lt = early-lt best t at early is in early-before old t at (omega arith) better

  -- what a ride makes of the best arrival
  best-round : (k : ℕ) (old best : Option ℕ) → (best ≡ old) ⊎ IsBetter nw st q k old best → (j : ℕ) (r : PlanRide) → IsAfter nw st q j r → j ≤ k → (new : Option ℕ) × ((t : ℕ) → IsBestBy best t → IsBestBy new t) × (is_one_station nw r.alight_stop q.to_stop ≡ true → IsBestBy new r.alight_time) × ((new ≡ old) ⊎ IsBetter nw st q k old new)
  best-round k old best found j r after few = elim (cases_Bool (is_one_station nw r.alight_stop q.to_stop)) [
    | inr apart ↦ (best, (λ t h. h), (λ one. let none = sym apart ∙ one in absurd (cc)), found)
    | inl one ↦ elim (cases-early best r.alight_time) [
      | inr by ↦ (best, (λ t h. h), (λ _. by), found)
      | inl early ↦ (
        Some r.alight_time,
        (λ t h. let lt = early-lt best r.alight_time h.0 early h.1 in let le = h.2 in (r.alight_time, refl, omega arith)),
        (λ _. (r.alight_time, refl, omega arith)),
        inr (r.alight_time, refl, still-early k old best found r.alight_time early, (j, r, after, few, one, refl)),
      )
    ]
  ]

  module _ (n : ℕ) (fits : (r : PlanRide) → IsRide nw st r → r.alight_stop < n) (k : ℕ) (before : Round) (known : IsKnown nw st q n k before) where
    -- one ride more
    round-takes : (rs : List PlanRide) (r : PlanRide) → IsRide nw st r → Searched nw st q n k before rs → Searched nw st q n k before (r ∷ rs)
    round-takes rs r ride (best, reached, h) =
        elim (board-cases nw q before.reached r.board_stop r.board_time n known.within) [
          | inr shut ↦ (
            best,
            reached,
            record {
              arrivals = λ s there can. elim (Contains-cases r rs s there) [ inl here ↦ absurd (shut (subst (IsOpen nw q before.reached) (sym here) can)) | inr later ↦ h.arrivals s later can ];
              there = h.there;
              within = h.within;
              found = h.found;
              best_found = h.best_found;
            },
          )
          | inl can ↦ elim (arrived-cases reached r.alight_stop r.alight_time) [
            | inl by ↦ (
              best,
              reached,
              record {
                arrivals = λ s there can. elim (Contains-cases r rs s there) [ inl here ↦ subst (λ (s : PlanRide). HasArrived reached s.alight_stop s.alight_time) here by | inr later ↦ h.arrivals s later can ];
                there = h.there;
                within = h.within;
                found = h.found;
                best_found = h.best_found;
              },
            )
            | inr new ↦
                let after = open-found k before.reached known.found r ride can in
                let better = best-round k (best_of before.plans) best h.best_found after.0 r after.1 after.2 in
                let few = after.2 in
                let taken = ride-taken r reached new in (
                  better.0,
                  lowered reached r.alight_stop r.alight_time,
                  record {
                    arrivals = λ s there can. elim (Contains-cases r rs s there) [
                      | inl here ↦ subst (λ (s : PlanRide). HasArrived (lowered reached r.alight_stop r.alight_time) s.alight_stop s.alight_time) here taken.there
                      | inr later ↦ taken.no_later s.alight_stop s.alight_time (h.arrivals s later can)
                    ];
                    there = λ b t at one. elim (taken.others b t at) [
                      | inl old ↦ better.1 t (h.there b t old one)
                      | inr here ↦ subst (IsBestBy better.0) (sym here.1) (better.2 (subst (λ b. is_one_station nw b q.to_stop ≡ true) here.0 one))
                    ];
                    within = λ b past. elim (cases-option (lowered reached r.alight_stop r.alight_time b)) [
                      | inl none ↦ none
                      | inr some ↦ elim (taken.others b some.0 some.1) [
                        | inl old ↦ absurd (none-some some.0 (sym (h.within b past) ∙ old))
                        | inr here ↦ let within = fits r ride in let at = here.0 in absurd (omega arith)
                      ]
                    ];
                    found = λ b t at. elim (taken.others b t at) [
                      | inl old ↦ h.found b t old
                      | inr here ↦ (after.0, r, after.1, omega arith, sym here.0, sym here.1)
                    ];
                    best_found = better.3;
                  },
                )
          ]
        ]

    round-all : (rs : List PlanRide) → All (IsRide nw st) rs → Searched nw st q n k before rs
    round-all [] all = (
      best_of before.plans,
      (λ b. None),
      record {
        arrivals = λ r there. let l = there.1 in absurd (omega arith);
        there = λ b t at. absurd (none-some t at);
        within = λ b past. refl;
        found = λ b t at. absurd (none-some t at);
        best_found = inl refl;
      },
    )
    round-all (r ∷ rs) all = round-takes rs r (All-head (IsRide nw st) r rs all) (round-all rs (All-tail (IsRide nw st) r rs all))

    -- once all rides are looked at, these plans are those of the next round
    round-ends : (rs : List PlanRide) → ((r : PlanRide) → IsRide nw st r → Contains rs r) → (best : Option ℕ) (reached : ℕ → Option ℕ) → IsRoundOf nw st q n k before best reached rs → (plans : List Plan) → best_of plans ≡ best → ((plans ≡ before.plans) ⊎ ((p : Plan) × (plans ≡ before.plans ++ p ∷ []) × (IsJourney nw st q p.rides p.arrives × (length p.rides ≤ suc k)) × IsEarly (best_of before.plans) p.arrives)) → (r : Round) × IsKnown nw st q n (suc k) r
    round-ends rs there best reached h plans is kept =
        let now : Round = record { plans = plans; reached = reached } in (
          now,
          record {
            rounds = (
              before,
              known.rounds,
              record {
                plans = kept;
                arrivals = λ r ride can leaves early. h.arrivals r (there r ride) can;
                elsewhere = λ b t at early. elim (cases_Bool (is_one_station nw b q.to_stop)) [
                  | inl one ↦
                      let by = h.there b t at one in
                      absurd (best-not_early (best_of plans) by.0 (is ∙ by.1) (early-before (best_of plans) by.0 t by.2 early))
                  | inr apart ↦ apart
                ];
              },
            );
            within = h.within;
            found = h.found;
          },
        )

    next-round : (rs : List PlanRide) → All (IsRide nw st) rs → ((r : PlanRide) → IsRide nw st r → Contains rs r) → (r : Round) × IsKnown nw st q n (suc k) r
    next-round rs all there =
        let (best, reached, h) = round-all rs all in
        elim h.best_found [
          | inl same ↦ round-ends rs there best reached h before.plans (sym same) (inl refl)
          | inr better ↦
              let end = better.3 in
              let journey = after-journey nw st q better.0 end.0 end.1 [] end.2 (end.4, end.5) in
              let p : Plan = record { arrives = better.0; rides = journey.0 } in
              let count = journey.2 in
              let few = end.3 in
              round-ends rs there best reached h (before.plans ++ p ∷ []) (best-pushed before.plans p ∙ sym better.1) (inr (p, refl, (journey.1, omega arith), better.2))
        ]

  module _ (valid : IsValid nw st) (at_stops : AreAtStops nw.stops st) where
    rounds-go : (k : ℕ) → (r : Round) × IsKnown nw st q (length nw.stops) k r
    rounds-go zero =
        let begin : Round = record { plans = plans_at_once nw q; reached = λ b. None } in
        (begin, record { rounds = record { plans = refl; reached = λ b. refl }; within = λ b past. refl; found = λ b t at. absurd (none-some t at) })
    rounds-go (suc k) =
        let before = rounds-go k in
        next-round (length nw.stops) (λ r ride. stop-within nw.stops r.alight_stop (alights-at_stop nw st at_stops r ride)) k before.0 before.1 (rides_of_trains nw st (length st.trains)) (trains-rides nw st (length st.trains)) (ride-there nw st valid)

    pub every-rounds : (k : ℕ) → (r : Round) × IsAfterRounds nw st q k r
    every-rounds k = let h = rounds-go k in (h.0, h.1.rounds)
