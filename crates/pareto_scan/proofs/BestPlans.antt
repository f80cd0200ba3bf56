-- What a scan has found are the best plans.
use Rattle.conn_scan.proofs.Words.{◌≡◌, ◌⊎◌, inl, inr, ℕ, zero, suc, ◌+◌, ◌≤◌, ◌<◌, nat_lt, Bool, true, false, List, [], ◌∷◌, ◌++◌, length, Option, Some, None, IfSome, is_some, refl, sym, ◌∙◌, ap, subst, arith, All, Contains, append-nil, both_ways, cond, cases_Bool, option_and_then, ltb-true, ltb-false, none-some, same_Some, PlanRide, replicate, Query, ChangeTables, Network, State, is_one_station, IsJourney, IsRide, IsValid, AreAtStops, held, Ordered, onward_at, Departure, leaving_from, HasArrived, HasArrivals, IsEarly, IsOpen, IsBestBy, is_before, never, time_at, IsHeld, IsStretch, departure_at, ride_at, IsTakeable}
use Rattle.conn_scan.specs.declared.known.Ending.{Ending}
use Rattle.conn_scan.specs.declared.stop_rides.Stretch.{Stretch}
use Rattle.std.specs.Prelude.{option_to_list}
use Rattle.mt_base.specs.declared.journeys.Plan.{Plan}
use Rattle.train_nodes.specs.Calls.{has_call}
use Rattle.journey_laws.specs.Fronts.{IsAfterRounds, IsEarlierByMore, IsFront, IsPlan, Round, best_of}
use Rattle.journey_laws.specs.Reached.{IsElsewhere}
use Rattle.journey_laws.proofs.Beginnings.{early-before}
use Rattle.journey_laws.proofs.BestArrivals.{best-not_early}
use Rattle.journey_laws.proofs.Rounds.{best-pushed, rounds-front}
use Rattle.journey_laws.proofs.Scanning.{boards-since}
use Rattle.conn_scan.specs.Ways.{AreReadable, IsReadable}
use Rattle.conn_scan.proofs.Kept.{IsEnding, best_time}
use Rattle.conn_scan.proofs.NextDeparture.{AreNumbered}
use Rattle.conn_scan.proofs.ChangeLemmas.{changes_of}
use Rattle.conn_scan.proofs.SearchEnds.{are, departures-within, found-at_once, times-fit}
use Rattle.conn_scan.proofs.Stretches.{after-first, after-last, departure-is, ride-stretch, stretch-times}
use Rattle.timetable.specs.Onward.{IsDepartureOrder}
use Rattle.pareto_scan.specs.Levels.{begun_levels, level_at, HasLevelRoom}
use Rattle.pareto_scan.specs.Ridden.{Ridden, known, scanned}
use Rattle.pareto_scan.specs.declared.riders.Rider.{Rider}
use Rattle.pareto_scan.specs.Traced.{AreEndsReadable, plan_to, plan_with, plans_within, traced}
use Rattle.pareto_scan.specs.declared.level.Level.{Level}
use Rattle.pareto_scan.proofs.Kept.{IsExplained, best_at, openings_at, reached_at}
use Rattle.pareto_scan.proofs.KeptEnds.{IsOver, search-over}
use Rattle.pareto_scan.proofs.WayHome.{traced-arrives, traced-few}

-- an arrival that is not earlier than the best one with fewer rides is that one
same-best : (old new : Option Ending) → ((t : ℕ) → IsBestBy (best_time old) t → IsBestBy (best_time new) t)
    → ((e : Ending) → new ≡ Some e → is_before e.time old ≡ false) → best_time new ≡ best_time old
same-best None None no_worse late = refl
same-best None (Some e) no_worse late = absurd (both_ways true (late e refl) refl)
same-best (Some f) None no_worse late = let h = no_worse f.time (f.time, refl, omega arith) in absurd (none-some h.0 h.1)
same-best (Some f) (Some e) no_worse late =
    let h = no_worse f.time (f.time, refl, omega arith) in
    let same : e.time ≡ h.0 = same_Some e.time h.0 h.1 in
    let le = h.2 in
    let not = ltb-false e.time f.time (late e refl) in
    let times : e.time ≡ f.time = omega arith in
    ap Some times

before-early : (t : ℕ) (best : Option Ending) → is_before t best ≡ true → IsEarly (best_time best) t
before-early t None before = tt
before-early t (Some e) before = ltb-true t e.time before

module _ (nw : Network) (st : State) (o : Ordered) (are : AreNumbered nw st o) (q : Query) (at_stops : AreAtStops nw.stops st) (small : (n : ℕ) (d : Departure)
    → held o.entries n ≡ Some d → d.time < never) (most : ℕ) (s : Ridden) (over : IsOver nw st o are q at_stops small most s) where
  stretch-readable : (b e : ℕ) → IsStretch o b e → IsReadable st o (record { first = b; last = e })
  stretch-readable b e h =
      let last = after-last o h.0 b e h.1 in
      let at = are.each e last.0 last.1 in
      record {
        first = after-first o h.0 b e h.1;
        last = last;
        call = subst (λ (d : Departure). has_call st d.key.train d.key.label ≡ true) (sym (departure-is o e last.0 last.1)) (ap is_some at.found);
      }

  -- rides that are noted can be looked up
  pub rides-readable : (k : ℕ) → AreReadable st o (openings_at s.levels k)
  rides-readable k b t r at behind = by (ride_at (openings_at s.levels k) b) behind (over.kept.explained k b t at)
    where
      by : (x : Option Stretch) → x ≡ Some r → IsExplained nw q o s.levels k b t x → IsReadable st o r
      by None is h = absurd (none-some r is)
      by (Some p) is h = subst (IsReadable st o) (same_Some p r is) (stretch-readable p.first p.last h.2.ridden.stretch)

  pub ends-readable : AreEndsReadable st o s.levels
  ends-readable k e is = let ended = over.kept.best k e is in stretch-readable e.ride.first e.ride.last ended.2.takeable.ridden.stretch

  module _ (apart : is_one_station nw q.from_stop q.to_stop ≡ false) where
    abbrev round : ℕ → Round
    round k = record { plans = plans_within st o s.levels k; reached = reached_at s.levels k }

    no-first : best_at s.levels 0 ≡ None
    no-first = by (level_at s.levels 0).best refl
      where
        by : (x : Option Ending) → (level_at s.levels 0).best ≡ x → best_time x ≡ None
        by None is = refl
        by (Some e) is = let ended = over.kept.best 0 e is in let none = ended.1 in absurd (omega arith)

    no-worse : (k : ℕ) → k < most → (t : ℕ) → IsBestBy (best_at s.levels k) t → IsBestBy (best_at s.levels (suc k)) t
    no-worse k less t h = let some = over.kept.some in over.kept.no_worse k t (omega arith) h

    -- the best of the plans is the best arrival, and a new one is a plan
    record IsRound (k : ℕ) : Type 0 where
      pub best : best_of (plans_within st o s.levels (suc k)) ≡ best_at s.levels (suc k)
      pub plans : (plans_within st o s.levels (suc k) ≡ plans_within st o s.levels k)
          ⊎ ((p : Plan) × (plans_within st o s.levels (suc k) ≡ plans_within st o s.levels k ++ p ∷ [])
          × IsPlan nw st q (suc k) p × IsEarly (best_of (plans_within st o s.levels k)) p.arrives)

    plan-is : (k : ℕ) (e : Ending) → (level_at s.levels (suc k)).best ≡ Some e → IsPlan nw st q (suc k) (plan_to st o s.levels k e)
    plan-is k e is =
        let ended = over.kept.best (suc k) e is in
        let same : ended.0 ≡ k = (let own = ended.1 in omega arith) in
        let ending = subst (λ j. IsEnding nw q o (openings_at s.levels j) e) same ended.2 in
        let journey = traced-arrives nw st o are q s.levels over.kept.explained k e.ride ending.takeable ending.there in
        (subst (IsJourney nw st q (traced st o s.levels k e.ride)) ending.time journey, traced-few nw st o are q s.levels over.kept.explained k e.ride)

    round-by : (k : ℕ) → k < most → best_of (plans_within st o s.levels k) ≡ best_at s.levels k → (p : Option Plan) → plan_with st o s.levels k ≡ p → IsRound k
    round-by k less best None is = record {
      best = ap (λ p. best_of (plans_within st o s.levels k ++ option_to_list p)) is ∙ ap best_of (append-nil (plans_within st o s.levels k))
          ∙ best ∙ sym (same-best (level_at s.levels k).best (level_at s.levels (suc k)).best (no-worse k less) no-sooner);
      plans = inl (ap (λ p. plans_within st o s.levels k ++ option_to_list p) is ∙ append-nil (plans_within st o s.levels k));
    }
      where
        no-sooner : (e : Ending) → (level_at s.levels (suc k)).best ≡ Some e → is_before e.time (level_at s.levels k).best ≡ false
        no-sooner e at = elim (cases_Bool (is_before e.time (level_at s.levels k).best)) [
          | inr late ↦ late
          | inl before ↦ absurd (none-some (plan_to st o s.levels k e) (sym (sym (ap (option_and_then
              (λ (e : Ending). cond (is_before e.time (level_at s.levels k).best) (Some (plan_to st o s.levels k e)) None)) at ∙ rw before refl) ∙ is)))
        ]
    round-by k less best (Some p) is = by (level_at s.levels (suc k)).best refl is
      where
        by : (x : Option Ending) → (level_at s.levels (suc k)).best ≡ x → option_and_then (λ (e : Ending).
            cond (is_before e.time (level_at s.levels k).best) (Some (plan_to st o s.levels k e)) None) x ≡ Some p → IsRound k
        by None at none = absurd (none-some p none)
        by (Some e) at some = elim (cases_Bool (is_before e.time (level_at s.levels k).best)) [
          | inr late ↦ absurd (none-some p (rw late at some))
          | inl before ↦
              let same : plan_to st o s.levels k e ≡ p = same_Some (plan_to st o s.levels k e) p (rw before at some) in
              let arrives : e.time ≡ p.arrives = ap (λ (p : Plan). p.arrives) same in
              record {
                best = ap (λ p. best_of (plans_within st o s.levels k ++ option_to_list p)) is ∙ best-pushed (plans_within st o s.levels k) p ∙ ap Some (sym arrives) ∙ sym (ap best_time at);
                plans = inr (
                  p,
                  ap (λ p. plans_within st o s.levels k ++ option_to_list p) is,
                  subst (IsPlan nw st q (suc k)) same (plan-is k e at),
                  subst (λ best. IsEarly best p.arrives) (sym best) (subst (IsEarly (best_at s.levels k)) arrives (before-early e.time (level_at s.levels k).best before)),
                );
              }
        ]

    arrivals-at : (k : ℕ) → k < most → HasArrivals nw st q (best_at s.levels (suc k)) (reached_at s.levels k) (reached_at s.levels (suc k))
    arrivals-at k less r ride can leaves early =
        let along = ride-stretch nw st o are at_stops r ride in
        let b = along.board in
        let e = along.last in
        let first = after-first o along.stretch.0 b e along.stretch.1 in
        let last = after-last o along.stretch.0 b e along.stretch.1 in
        let times = stretch-times nw st o are b e first.0 last.0 along.stretch first.1 last.1 in
        let rises = times.0 in
        let until = times.1 in
        let begins = ap (λ (d : Departure). d.time) (departure-is o b first.0 first.1) in
        let own = ap (λ (d : Departure). d.time) (departure-is o e last.0 last.1) in
        let boards = ap (λ (r : PlanRide). r.board_time) along.is in
        let alights = ap (λ (r : PlanRide). r.alight_time) along.is in
        let since = boards-since nw st q (reached_at s.levels k) r.board_stop r.board_time (over.kept.since k) can in
        let active = early-before (best_at s.levels (suc k)) last.0.time r.alight_time (omega arith) early in
        let done = over.all k less e last.0 last.1 (omega arith) active in
        over.kept.arrivals k less r ride (record { along = along; seen = done }) (subst (IsEarly (best_at s.levels (suc k))) (sym own) active) can

    elsewhere-at : (k : ℕ) → IsElsewhere nw q (best_at s.levels k) (reached_at s.levels k)
    elsewhere-at k b t at early = elim (cases_Bool (is_one_station nw b q.to_stop)) [
      | inl one ↦ let by = over.kept.there k b t at one in absurd (best-not_early (best_at s.levels k) by.0 by.1 (early-before (best_at s.levels k) by.0 t by.2 early))
      | inr not ↦ not
    ]

    -- what is known after each number of rides is what rounds know
    pub rounds : (k : ℕ) → k ≤ most → IsAfterRounds nw st q k (round k) × (best_of (plans_within st o s.levels k) ≡ best_at s.levels k)
    rounds zero le = (record { plans = rw apart refl; reached = over.kept.none }, sym no-first)
    rounds (suc k) le =
        let before = rounds k (omega arith) in
        let one = round-by k (omega arith) before.1 (plan_with st o s.levels k) refl in (
          (
            round k,
            before.0,
            record {
              plans = one.plans;
              arrivals = subst (λ best. HasArrivals nw st q best (reached_at s.levels k) (reached_at s.levels (suc k))) (sym one.best) (arrivals-at k (omega arith));
              elsewhere = subst (λ best. IsElsewhere nw q best (reached_at s.levels (suc k))) (sym one.best) (elsewhere-at (suc k));
            },
          ),
          one.best,
        )

    pub plans-are : IsAfterRounds nw st q most (round most)
    plans-are = (rounds most (omega arith)).0

-- what a scan has found can be looked up, and its plans are the best
pub record IsSearched (nw : Network) (st : State) (q : Query) (o : Ordered) (most : ℕ) (levels : List Level) : Type 0 where
  pub readable : (k : ℕ) → AreReadable st o (level_at levels k).openings
  pub ends : AreEndsReadable st o levels
  pub front : is_one_station nw q.from_stop q.to_stop ≡ false → IsFront nw st q most (plans_within st o levels most)

module _ (nw : Network) (st : State) (o : Ordered) (valid : IsValid nw st) (at_stops : AreAtStops nw.stops st) (order : IsDepartureOrder nw st o) (q : Query) (most : ℕ) where
  searched : (s : Ridden) → IsOver nw st o (are nw st o valid at_stops order) q at_stops (times-fit nw st o valid at_stops order) most s → IsSearched nw st q o most s.levels
  searched s over = record {
    readable = rides-readable nw st o (are nw st o valid at_stops order) q at_stops (times-fit nw st o valid at_stops order) most s over;
    ends = ends-readable nw st o (are nw st o valid at_stops order) q at_stops (times-fit nw st o valid at_stops order) most s over;
    front = λ apart. rounds-front nw st q valid most (record { plans = plans_within st o s.levels most; reached = reached_at s.levels most })
        (plans-are nw st o (are nw st o valid at_stops order) q at_stops (times-fit nw st o valid at_stops order) most s over apart);
  }

  -- a scan of tables that were begun
  pub search-is : (t : ChangeTables) (asked : Query) (vs begun_vs new : List Level) (riders : ℕ) (begun_riders : List (Option Rider))
      → ((n : ℕ) → n < length o.entries → (onward_at o n).next ≤ length o.entries)
      → t ≡ changes_of nw → asked ≡ q → most < length vs → All (HasLevelRoom (length nw.stops)) vs → length o.entries < riders
      → begun_vs ≡ begun_levels t asked vs → begun_riders ≡ replicate riders None
      → new ≡ (scanned t asked most (leaving_from o asked.time) (known begun_vs begun_riders)).levels → IsSearched nw st q o most new
  search-is t asked vs begun_vs new riders begun_riders past tables own some room fits begins empty is =
      let s = scanned (changes_of nw) q most (leaving_from o q.time) (known (begun_levels (changes_of nw) q vs) (replicate riders None)) in
      let first : begun_vs ≡ begun_levels (changes_of nw) q vs = begins ∙ (λ i. begun_levels (tables i) (own i) vs) in
      let all : new ≡ s.levels = is ∙ (λ i. (scanned (tables i) (own i) most (leaving_from o (own i).time) (known (first i) (empty i))).levels) in
      subst (IsSearched nw st q o most) (sym all)
      (searched s (search-over nw st o (are nw st o valid at_stops order) q at_stops (times-fit nw st o valid at_stops order) most
      (length o.entries) vs riders some room fits (departures-within nw st o valid at_stops order past q.time)))

-- where origin and destination are of one station, the plan without a ride is the only one
pub front-at_once : (nw : Network) (st : State) (q : Query) (m : ℕ) → IsValid nw st → is_one_station nw q.from_stop q.to_stop ≡ true → IsFront nw st q m (record { arrives = q.time; rides = [] } ∷ [])
front-at_once nw st q m valid one =
    let earliest = (found-at_once nw st q 0 valid one).answer in
    record {
      journeys = λ i d l. grind (arith, earliest.journey);
      order = Rattle.std.proofs.lemmas.List.Kept.AllPairs-cons IsEarlierByMore
          (record { arrives = q.time; rides = [] }) [] (Rattle.conn_scan.proofs.Words.All-nil _) (Rattle.delay_model.proofs.Lists.AllPairs-nil IsEarlierByMore);
      complete = λ rides at journey few. (record { arrives = q.time; rides = [] }, (0, omega arith, refl), omega arith, earliest.least rides at journey);
    }
