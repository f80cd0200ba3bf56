-- The plans of a search in rounds are the front.
use Rattle.std.proofs.Common.{◌≡◌, inl, inr, ℕ, zero, suc, ◌+◌, ◌-◌, ◌≤◌, ◌<◌, true, List, [], ◌∷◌, ◌++◌, length, get_or, Some, refl, sym, ◌∙◌, ap, subst, arith}
use Rattle.std.specs.List.{All, AllPairs, Contains}
use Rattle.std.proofs.lemmas.Bool.{cases_lt, cond_both}
use Rattle.std.proofs.lemmas.List.Elements.{All-contains, All-get_or, All-nil, All-cons, All-push, All-weaker, Contains-append_left, Contains-append_right}
use Rattle.std.proofs.lemmas.List.Kept.{AllPairs-cons}
use Rattle.std.proofs.lemmas.List.Quantifiers.{all_pairs_push}
use Rattle.std.proofs.lemmas.Option.{none-some, same_Some}
use Rattle.delay_model.proofs.Lists.{AllPairs-nil}
use Rattle.mt_base.specs.declared.journeys.PlanRide.{PlanRide}
use Rattle.mt_base.specs.declared.journeys.Query.{Query}
use Rattle.delay_model.specs.declared.network.Network.{Network}
use Rattle.delay_model.specs.declared.state.State.{State}
use Rattle.delay_model.specs.Journeys.{HasNoJourney, IsEarliest, IsJourney, is_one_station}
use Rattle.delay_model.specs.Valid.{IsValid}
use Rattle.journey_laws.specs.Fronts.{HasPlanWithin, IsAfterRounds, IsBegin, IsEarlierByMore, IsFront, IsNextRound, IsPlan, Round, best_of}
use Rattle.journey_laws.specs.Reached.{HasArrivals, HasArrived, IsAtOnce, IsEarly, IsElsewhere}
use Rattle.mt_base.specs.declared.journeys.Plan.{Plan}
use Rattle.journey_laws.proofs.Beginnings.{IsAfter, early-before, first-arrives, journey-ends, next-arrives}
use Rattle.journey_laws.proofs.BestArrivals.{cases-early, end-late, none-late}

-- the best arrival is that of the plan appended last
pub best-pushed : (ps : List Plan) (p : Plan) → best_of (ps ++ p ∷ []) ≡ Some p.arrives
best-pushed [] p = refl
best-pushed (x ∷ []) p = refl
best-pushed (x ∷ y ∷ ys) p = best-pushed (y ∷ ys) p

-- one of the plans has it
best-there : (ps : List Plan) (t : ℕ) → best_of ps ≡ Some t → (p : Plan) × Contains ps p × (p.arrives ≡ t)
best-there [] t h = absurd (none-some t h)
best-there (p ∷ []) t h = (p, (0, omega arith, refl), same_Some p.arrives t h)
best-there (p ∷ s ∷ ps) t h =
    let by = best-there (s ∷ ps) t h in
    (by.0, Contains-append_right (p ∷ []) (s ∷ ps) by.0 by.1, by.2)

module _ (nw : Network) (st : State) (q : Query) where
  -- what holds of the plan without a ride, and of no plan, holds of those before the first round
  begin-plans : (P : List Plan → Type 0) (r : Round) → IsBegin nw q r → ((is_one_station nw q.from_stop q.to_stop ≡ true) → P (record { arrives = q.time; rides = [] } ∷ [])) → P [] → P r.plans
  begin-plans P r begin one none =
      subst P (sym begin.plans) (cond_both (is_one_station nw q.from_stop q.to_stop) (record { arrives = q.time; rides = [] } ∷ []) [] P one (λ _. none))

  begin-at_once : (r : Round) → IsBegin nw q r → IsAtOnce nw q (best_of r.plans)
  begin-at_once r begin one = ap best_of begin.plans ∙ rw one refl

  -- what is early after a round was early before it
  was-early : (k : ℕ) (old new : Round) → IsNextRound nw st q k old new → (t : ℕ) → IsEarly (best_of new.plans) t → IsEarly (best_of old.plans) t
  was-early k old new next t early = elim next.plans [
    | inl same ↦ subst (λ ps. IsEarly (best_of ps) t) same early
    | inr more ↦
        let p = more.0 in
        let lt : t < p.arrives = subst (λ best. IsEarly best t) (ap best_of more.1 ∙ best-pushed old.plans p) early in
        early-before (best_of old.plans) t p.arrives (omega arith) more.3
  ]

  -- each plan is a journey with at most so many rides
  plans-journeys : (k : ℕ) (r : Round) → IsAfterRounds nw st q k r → All (IsPlan nw st q k) r.plans
  plans-journeys zero r begin =
      begin-plans (All (IsPlan nw st q zero)) r begin (λ one. All-cons (IsPlan nw st q zero) _ [] ((one, refl), omega arith) (All-nil (IsPlan nw st q zero))) (All-nil (IsPlan nw st q zero))
  plans-journeys (suc k) r (before, rounds, next) =
      let old = All-weaker (IsPlan nw st q k) (IsPlan nw st q (suc k)) (λ p h. let few = h.1 in (h.0, omega arith)) before.plans (plans-journeys k before rounds) in
      elim next.plans [
        | inl same ↦ subst (All (IsPlan nw st q (suc k))) (sym same) old
        | inr more ↦ subst (All (IsPlan nw st q (suc k))) (sym more.1) (All-push (IsPlan nw st q (suc k)) before.plans more.0 old more.2)
      ]

  module _ (valid : IsValid nw st) where
    -- after k + 1 rounds no early arrival with k rides before it is missing
    rounds-arrive : (k : ℕ) (r : Round) → IsAfterRounds nw st q (suc k) r → (p : PlanRide) → IsAfter nw st q k p → IsEarly (best_of r.plans) p.alight_time → HasArrived r.reached p.alight_stop p.alight_time
    rounds-arrive zero r (before, begin, next) p h early = first-arrives nw st q valid (best_of r.plans) before.reached r.reached next.arrivals p h early
    rounds-arrive (suc k) r (before, rounds, next) p h early =
        next-arrives nw st q valid (best_of r.plans) before.reached r.reached next.arrivals k p h (λ s after soon.
        rounds-arrive k before rounds s after (was-early (suc (suc k)) before r next s.alight_time soon)) early

    -- no journey with at most so many rides arrives before the best plan
    rounds-late : (k : ℕ) (r : Round) → IsAfterRounds nw st q k r → (rides : List PlanRide) (at : ℕ) → IsJourney nw st q rides at → length rides ≤ k → IsEarly (best_of r.plans) at → ⊥
    rounds-late zero r begin [] at h few early = none-late nw st q (best_of r.plans) at (begin-at_once r begin) h early
    rounds-late zero r begin (s ∷ rs) at h few early = absurd (omega arith)
    rounds-late (suc k) r (before, rounds, next) rides at h few early = elim (cases_lt k (length rides)) [
      | inl all ↦ as-many rides h (omega arith)
      | inr fewer ↦ rounds-late k before rounds rides at h fewer (was-early (suc k) before r next at early)
    ]
      where
        as-many : (rides : List PlanRide) → IsJourney nw st q rides at → length rides ≡ suc k → ⊥
        as-many [] h many = absurd (omega arith)
        as-many (s ∷ rs) h many =
            let end = journey-ends nw st q s rs at h in
            let p = end.0 in
            let count : length rs ≡ k = omega arith in
            let soon = subst (IsEarly (best_of r.plans)) (sym end.3) early in
            let after = subst (λ n. IsAfter nw st q n p) count end.1 in
            end-late nw st q (best_of r.plans) r.reached next.elsewhere p end.2 (rounds-arrive k r (before, rounds, next) p after soon) soon

    -- a journey with as many rides as there were rounds is no better than the best plan
    best-within : (k : ℕ) (r : Round) → IsAfterRounds nw st q k r → (rides : List PlanRide) (at : ℕ) → IsJourney nw st q rides at → length rides ≡ k → HasPlanWithin r.plans (length rides) at
    best-within k r rounds rides at h many = elim (cases-early (best_of r.plans) at) [
      | inl early ↦ absurd (rounds-late k r rounds rides at h (omega arith) early)
      | inr by ↦
          let best = best-there r.plans by.0 by.1 in
          let plan = All-contains (IsPlan nw st q k) r.plans best.0 (plans-journeys k r rounds) best.1 in
          let few = plan.1 in
          let arrives = best.2 in
          let le = by.2 in
          (best.0, best.1, omega arith, omega arith)
    ]

    plans-complete : (k : ℕ) (r : Round) → IsAfterRounds nw st q k r → (rides : List PlanRide) (at : ℕ) → IsJourney nw st q rides at → length rides ≤ k → HasPlanWithin r.plans (length rides) at
    plans-complete zero r begin rides at h few = best-within zero r begin rides at h (omega arith)
    plans-complete (suc k) r (before, rounds, next) rides at h few = elim (cases_lt k (length rides)) [
      | inl all ↦ best-within (suc k) r (before, rounds, next) rides at h (omega arith)
      | inr fewer ↦
          let by = plans-complete k before rounds rides at h fewer in
          let there : Contains r.plans by.0 = elim next.plans [
            | inl same ↦ subst (λ ps. Contains ps by.0) (sym same) by.1
            | inr more ↦ subst (λ ps. Contains ps by.0) (sym more.1) (Contains-append_left before.plans (more.0 ∷ []) by.0 by.1)
          ] in
          (by.0, there, by.2, by.3)
    ]

    -- a plan that arrives before the best one has more rides than each, and arrives earlier
    plan-better : (k : ℕ) (r : Round) → IsAfterRounds nw st q k r → (s : Plan) → IsJourney nw st q s.rides s.arrives → IsEarly (best_of r.plans) s.arrives → (p : Plan) → IsPlan nw st q k p → IsEarlierByMore p s
    plan-better k r rounds s journey early p plan = elim (cases_lt k (length s.rides)) [
      | inr few ↦ absurd (rounds-late k r rounds s.rides s.arrives journey few early)
      | inl more ↦ elim (cases_lt s.arrives p.arrives) [
        | inl lt ↦ let few = plan.1 in (omega arith, lt)
        | inr le ↦ absurd (rounds-late k r rounds p.rides p.arrives plan.0 plan.1 (early-before (best_of r.plans) p.arrives s.arrives le early))
      ]
    ]

    plans-order : (k : ℕ) (r : Round) → IsAfterRounds nw st q k r → AllPairs IsEarlierByMore r.plans
    plans-order zero r begin =
        begin-plans (AllPairs IsEarlierByMore) r begin (λ one. let stay : Plan = record { arrives = q.time; rides = [] } in AllPairs-cons IsEarlierByMore stay [] (All-nil (IsEarlierByMore stay)) (AllPairs-nil IsEarlierByMore)) (AllPairs-nil IsEarlierByMore)
    plans-order (suc k) r (before, rounds, next) =
        let old = plans-order k before rounds in
        elim next.plans [
          | inl same ↦ subst (AllPairs IsEarlierByMore) (sym same) old
          | inr more ↦ subst (AllPairs IsEarlierByMore) (sym more.1) (all_pairs_push IsEarlierByMore before.plans more.0 old (λ i d within.
              plan-better k before rounds more.0 more.2.0 more.3 (get_or before.plans i d) (All-get_or (IsPlan nw st q k) before.plans i d within (plans-journeys k before rounds))))
        ]

    pub rounds-front : (k : ℕ) (r : Round) → IsAfterRounds nw st q k r → IsFront nw st q k r.plans
    rounds-front k r rounds = record {
      journeys = plans-journeys k r rounds;
      order = plans-order k r rounds;
      complete = plans-complete k r rounds;
    }

    -- what is reached after some rounds is not in the destination's station
    rounds-elsewhere : (k : ℕ) (r : Round) → IsAfterRounds nw st q k r → IsElsewhere nw q (best_of r.plans) r.reached
    rounds-elsewhere zero r begin = λ b t at early. absurd (none-some t (sym (begin.reached b) ∙ at))
    rounds-elsewhere (suc k) r (before, rounds, next) = next.elsewhere

    -- where one ride more leads nowhere earlier, more rounds change nothing
    rounds-stay : (k : ℕ) (r : Round) → IsAfterRounds nw st q k r → HasArrivals nw st q (best_of r.plans) r.reached r.reached → (more m : ℕ) → m ≡ k + more → IsAfterRounds nw st q m r
    rounds-stay k r rounds arrivals zero m count =
        let same : k ≡ m = omega arith in subst (λ n. IsAfterRounds nw st q n r) same rounds
    rounds-stay k r rounds arrivals (suc more) m count =
        let before = rounds-stay k r rounds arrivals more (k + more) refl in
        let same : suc (k + more) ≡ m = omega arith in
        subst (λ n. IsAfterRounds nw st q n r) same
        (r, before, record { plans = inl refl; arrivals = arrivals; elsewhere = rounds-elsewhere k r rounds })

    module _ (k : ℕ) (r : Round) (rounds : IsAfterRounds nw st q k r) (arrivals : HasArrivals nw st q (best_of r.plans) r.reached r.reached) where
      pub stays-front : (m : ℕ) → k ≤ m → IsFront nw st q m r.plans
      stays-front m le = rounds-front m r (rounds-stay k r rounds arrivals (m - k) m (omega arith))

      -- no journey at all arrives before the best plan
      stays-late : (rides : List PlanRide) (at : ℕ) → IsJourney nw st q rides at → IsEarly (best_of r.plans) at → ⊥
      stays-late rides at h early =
          let n = length rides in
          rounds-late (k + n) r (rounds-stay k r rounds arrivals n (k + n) refl) rides at h (omega arith) early

      pub stays-earliest : (p : Plan) → Contains r.plans p → best_of r.plans ≡ Some p.arrives → IsEarliest nw st q p.rides p.arrives
      stays-earliest p there best =
          record { journey = (All-contains (IsPlan nw st q k) r.plans p (plans-journeys k r rounds) there).0; least = least }
        where
          least : (others : List PlanRide) (by : ℕ) → IsJourney nw st q others by → p.arrives ≤ by
          least others by h = elim (cases_lt by p.arrives) [
            | inl lt ↦ absurd (stays-late others by h (subst (λ best. IsEarly best by) (sym best) lt))
            | inr le ↦ le
          ]

      pub stays-none : r.plans ≡ [] → HasNoJourney nw st q
      stays-none none rides at h = stays-late rides at h (subst (λ ps. IsEarly (best_of ps) at) (sym none) tt)

-- a front is empty exactly where there is no journey with at most so many rides
pub front-empty : (nw : Network) (st : State) (q : Query) (m : ℕ) (plans : List Plan) → IsFront nw st q m plans → plans ≡ [] → (rides : List PlanRide) (at : ℕ) → IsJourney nw st q rides at → length rides ≤ m → ⊥
front-empty nw st q m plans front none rides at h few =
    let by = front.complete rides at h few in
    let there = subst (λ ps. Contains ps by.0) none by.1 in
    let within = there.1 in
    absurd (omega arith)
