-- What a scan keeps when it comes to one more departure.
use Rattle.conn_scan.proofs.Words.{◌≡◌, ◌⊎◌, inl, inr, ℕ, zero, suc, ◌+◌, ◌-◌, ◌≤◌, ◌<◌, nat_lt, true, List, [], ◌∷◌, ◌++◌, Option, Some, None, length, map, set, refl, sym, ◌∙◌, ap, subst, arith, All, Contains, option_map_or, both_ways, cond-false, cond-true, cases_Bool, cases_eq, All-contains, All-get_or, Contains-append_left, get_or-set_other, get_or-set_same, none-some, same_Some, ltb-true, PlanRide, Query, Network, State, is_stop, is_one_station, IsInTime, IsRide, AreAtStops, held, Ordered, onward_at, Departure, Leaving, HasArrived, IsOpen, MayBoard, IsBestBy, is_by, never, time_at, ride_by, IsHeld, IsRideOf, IsStretch, departure_at, leaving_from, may_alight, may_board, IsRidden, IsTakeable, ride_at}
use Rattle.conn_scan.specs.declared.known.Ending.{Ending}
use Rattle.conn_scan.specs.declared.stop_rides.Stretch.{Stretch}
use Rattle.std.proofs.lemmas.List.{map-append}
use Rattle.journey_laws.proofs.Forward.{in_time-later}
use Rattle.conn_scan.proofs.ChangeLemmas.{changes_of}
use Rattle.conn_scan.proofs.Kept.{IsSeen, best_time, by-has, ending-still, number, ridden-still, takeable-still}
use Rattle.conn_scan.proofs.KeptSteps.{now-cases, unmapped}
use Rattle.conn_scan.proofs.LeavingFrom.{IsLeaving, IsLeavingAt, leaving-at, leaving-each}
use Rattle.conn_scan.proofs.NextDeparture.{AreNumbered, next-one}
use Rattle.conn_scan.proofs.Stretches.{after-first, alights-at_stop, departure-is, stretch-more, stretch-times}
use Rattle.pareto_scan.specs.Levels.{arrived_from, has_more, level_at, HasLevelRoom}
use Rattle.pareto_scan.specs.Riders.{riding}
use Rattle.pareto_scan.specs.Ridden.{Ridden, departed, rider_at, rode}
use Rattle.pareto_scan.specs.declared.level.Level.{Level}
use Rattle.pareto_scan.specs.declared.riders.Rider.{Rider}
use Rattle.pareto_scan.proofs.LevelLists.{IsLeft, IsTaken, from-each, length-from, more-there}
use Rattle.pareto_scan.proofs.Stepped.{IsStepped, early-then, same-stepped, still-opened, still-there, taken-stepped, taken-there}
use Rattle.pareto_scan.proofs.Kept.{IsActive, IsEnded, IsExplained, IsKept, IsTop, best_at, opened-later, openings_at, reached_at, rider-right, rider-there, x-held, x-next}

-- who is noted beside others
noted-cases : (xs : List (Option Rider)) (i : ℕ) (b : Rider) (n : ℕ) (c : Rider) → riding (set xs i (Some b)) n ≡ Some c → ((n ≡ i) × (b ≡ c)) ⊎ (riding xs n ≡ Some c)
noted-cases [] i b n c at = inr at
noted-cases (x ∷ xs) zero b zero c at = inl (refl, same_Some b c at)
noted-cases (x ∷ xs) zero b (suc n) c at = inr at
noted-cases (x ∷ xs) (suc i) b zero c at = inr at
noted-cases (x ∷ xs) (suc i) b (suc n) c at = elim (noted-cases xs i b n c at) [ inl new ↦ inl (ap suc new.0, new.1) | inr old ↦ inr old ]

module _ (nw : Network) (st : State) (o : Ordered)
    (are : AreNumbered nw st o) (q : Query) (at_stops : AreAtStops nw.stops st) (small : (n : ℕ) (d : Departure) → held o.entries n ≡ Some d → d.time < never)
    (most : ℕ) (done : List Leaving) (x : Leaving) (rest : List Leaving) (split : leaving_from o q.time ≡ done ++ x ∷ rest)
    (s : Ridden) (kept : IsKept nw st q o most (map number done) s) (top : ℕ) (tops : IsTop s.levels most x.time top) where
  abbrev pub before : List ℕ
  before = map number done

  abbrev pub now : List ℕ
  now = before ++ x.number ∷ []

  at : IsLeavingAt o q.time done x rest
  at = leaving-at nw st o are q.time done x rest split

  x-number : IsHeld o x.number
  x-number = x-held nw st o are q at_stops small most done x rest split s kept top tops

  next-is : (onward_at o x.number).next ≡ x.next
  next-is = x-next nw st o are q at_stops small most done x rest split s kept top tops

  -- each departure that is done by now was no later
  done-time : (n : ℕ) → Contains now n → (d : Departure) × (held o.entries n ≡ Some d) × (d.time ≤ x.time)
  done-time n there = elim (now-cases before x.number n there) [
    | inl old ↦
        let y = unmapped number done n old in
        let leaving = All-contains (IsLeaving o q.time) (leaving_from o q.time) y.0
        (leaving-each nw st o are q.time) (subst (λ xs. Contains xs y.0) (sym split) (Contains-append_left done (x ∷ rest) y.0 y.1)) in
        let earlier = All-contains (λ (y : Leaving). y.time ≤ x.time) done y.0 at.before y.1 in
        let same = leaving.its_time in
        (leaving.departure, ap (held o.entries) (sym y.2) ∙ leaving.there, omega arith)
    | inr here ↦ let same = at.leaving.its_time in (at.leaving.departure, ap (held o.entries) here ∙ at.leaving.there, omega arith)
  ]

  there-is : (k : ℕ) → k < most → IsActive o s.levels k x.number → (b : ℕ) → IsStretch o b x.number → may_board nw (departure_at o b) ≡ true
      → MayBoard nw q (reached_at s.levels k) (departure_at o b).stop (departure_at o b).time → (c : Rider) × (rider_at top x s ≡ Some c) × (c.rides ≤ k)
  there-is = rider-there nw st o are q at_stops small most done x rest split s kept top tops

  -- a ride whose last departure this is can be boarded: then those who ride on it are known
  ride-known : (k : ℕ) → k < most → (r : PlanRide) (h : IsRideOf nw st o r)
      → h.last ≡ x.number → IsActive o s.levels k h.last → IsOpen nw q (reached_at s.levels k) r → (c : Rider) × (rider_at top x s ≡ Some c) × (c.rides ≤ k)
  ride-known k less r h same active can =
      there-is k less (subst (IsActive o s.levels k) same active) h.board (subst (IsStretch o h.board) same h.stretch) h.boards
      (subst (λ (r : PlanRide). MayBoard nw q (reached_at s.levels k) r.board_stop r.board_time) (sym h.is) can)

  -- where nobody rides on it
  pub kept-passes : rider_at top x s ≡ None → IsKept nw st q o most now s
  kept-passes nobody = record {
    some = kept.some;
    arrivals = λ k less r ride seen active can. elim (now-cases before x.number seen.along.last seen.seen) [
      | inl old ↦ kept.arrivals k less r ride (record { along = seen.along; seen = old }) active can
      | inr here ↦ let c = ride-known k less r seen.along here active can in absurd (none-some c.0 (sym nobody ∙ c.1))
    ];
    there = kept.there;
    since = kept.since;
    opened = kept.opened;
    aboard = λ k less n b there active stretch boards may next. elim (now-cases before x.number n there) [
      | inl old ↦ kept.aboard k less n b old active stretch boards may next
      | inr here ↦ let c = there-is k less (subst (IsActive o s.levels k) here active) b (subst (IsStretch o b) here stretch) boards may in absurd (none-some c.0 (sym nobody ∙ c.1))
    ];
    noted = kept.noted;
    explained = kept.explained;
    best = kept.best;
    stops = kept.stops;
    places = kept.places;
    more = kept.more;
    no_worse = kept.no_worse;
    none = kept.none;
  }

  -- those who ride on it
  module _ (c : Rider) (known : rider_at top x s ≡ Some c) (next : x.next < length s.riders) (room : All (HasLevelRoom (length nw.stops)) s.levels) where
    abbrev pub r : Stretch
    r = ride_by c.boarded x

    abbrev pub on : Ridden
    on = rode (changes_of nw) q c x s

    right : (c.rides < top) × IsRidden nw o (openings_at s.levels c.rides) c.boarded x.number
    right = rider-right nw st o are q at_stops small most done x rest split s kept top tops c known

    few : suc c.rides < length s.levels
    few = let less = right.0 in let most = tops.few in let some = kept.some in omega arith

    x-to : (onward_at o x.number).to ≡ x.to
    x-to = ap (λ (w : Rattle.dep_order.specs.declared.departure.Onward.Onward). w.to) at.leaving.onward

    x-arrival : (onward_at o x.number).arrival ≡ x.arrival
    x-arrival = ap (λ (w : Rattle.dep_order.specs.declared.departure.Onward.Onward). w.arrival) at.leaving.onward

    -- this ride counts after more than c.rides rides, where passengers may alight
    abbrev pub Counts : ℕ → Type 0
    Counts k = (c.rides < k) × (k < length s.levels) × (nat_lt x.to (length nw.stops) ≡ true)

    -- with more rides nobody arrives later
    reached-more : (n k j b t : ℕ) → j ≡ n + k → j < length s.levels → HasArrived (reached_at s.levels k) b t → HasArrived (reached_at s.levels j) b t
    reached-more zero k j b t is within h = let same : k ≡ j = omega arith in subst (λ j. HasArrived (reached_at s.levels j) b t) same h
    reached-more (suc n) k j b t is within h =
        let next : suc (n + k) ≡ j = omega arith in
        subst (λ j. HasArrived (reached_at s.levels j) b t) next (kept.more (n + k) b t (omega arith) (reached-more n k (n + k) b t refl (omega arith) h))

    reached-later : (k j b t : ℕ) → k ≤ j → j < length s.levels → HasArrived (reached_at s.levels k) b t → HasArrived (reached_at s.levels j) b t
    reached-later k j b t le within h = reached-more (j - k) k j b t (omega arith) within h

    -- what is known after each number of rides makes a step
    pub record IsStep (k : ℕ) : Type 0 where
      pub step : IsStepped nw q x r (Counts k) (has_more s.levels k) (level_at s.levels k) (level_at on.levels k)
      pub reach : Counts k → HasArrived (reached_at on.levels k) x.to x.arrival

    level-left : (k : ℕ) (levels : List Level) → IsLeft x s.levels levels (c.rides + 1) k
        → (Counts k → HasArrived (time_at (level_at levels k).held) x.to x.arrival) × IsStepped nw q x r (Counts k) (has_more s.levels k) (level_at s.levels k) (level_at levels k)
    level-left k levels h = (
      λ counts. subst (λ (v : Level). HasArrived (time_at v.held) x.to x.arrival) (sym h.is) (by-why counts h.why),
      subst (IsStepped nw q x r (Counts k) (has_more s.levels k) (level_at s.levels k)) (sym h.is) (same-stepped nw q x r (Counts k) (has_more s.levels k) (level_at s.levels k)),
    )
      where
        by-why : Counts k → (k < c.rides + 1)
            ⊎ ((length s.levels ≤ k) ⊎ ((i : ℕ) × (c.rides + 1 ≤ i) × (i ≤ k) × (is_by (level_at s.levels i).held x.to x.arrival ≡ true)))
            → HasArrived (reached_at s.levels k) x.to x.arrival
        by-why counts (inl less) = let more = counts.0 in absurd (omega arith)
        by-why counts (inr (inl past)) = let within = counts.1 in absurd (omega arith)
        by-why counts (inr (inr late)) = reached-later late.0 k x.to x.arrival late.2 counts.1 (by-has (level_at s.levels late.0).held x.to x.arrival late.3)

    level-taken : (k : ℕ) (levels : List Level) → nat_lt x.to (length nw.stops) ≡ true → IsTaken (changes_of nw) q x r s.levels levels (c.rides + 1) k
        → (Counts k → HasArrived (time_at (level_at levels k).held) x.to x.arrival) × IsStepped nw q x r (Counts k) (has_more s.levels k) (level_at s.levels k) (level_at levels k)
    level-taken k levels alights h =
        let from = h.from in
        let counts : Counts k = (omega arith, h.within, alights) in
        let rows = All-get_or (HasLevelRoom (length nw.stops)) s.levels k Rattle.pareto_scan.specs.Levels.blank_level h.within room in
        let to = ltb-true x.to (length nw.stops) alights in (
          λ _. subst (λ (v : Level). HasArrived (time_at v.held) x.to x.arrival) (sym h.is) (taken-there nw q x r (Counts k) counts (level_at s.levels k) rows to h.late (has_more s.levels k)),
          subst (IsStepped nw q x r (Counts k) (has_more s.levels k) (level_at s.levels k))
              (sym h.is) (taken-stepped nw q x r (Counts k) counts (level_at s.levels k) rows to h.late (has_more s.levels k)),
        )

    abbrev Steps : ℕ → List Level → Type 0
    Steps k levels = (Counts k → HasArrived (time_at (level_at levels k).held) x.to x.arrival) × IsStepped nw q x r (Counts k) (has_more s.levels k) (level_at s.levels k) (level_at levels k)

    abbrev noted_levels : List Level
    noted_levels = arrived_from (c.rides + 1) (changes_of nw) q x r s.levels

    each-noted : (k : ℕ) → nat_lt x.to (length nw.stops) ≡ true → Steps k noted_levels
    each-noted k alights = elim (from-each (changes_of nw) q x r (c.rides + 1) s.levels k) [
      | inl left ↦ level-left k noted_levels left
      | inr taken ↦ level-taken k noted_levels alights taken
    ]

    each-level : (k : ℕ) → Steps k on.levels
    each-level k = elim (cases_Bool (nat_lt x.to (length nw.stops))) [
      | inl alights ↦ subst (Steps k) (sym (cond-true (nat_lt x.to (length nw.stops)) noted_levels s.levels alights)) (each-noted k alights)
      | inr shut ↦ subst (Steps k) (sym (cond-false (nat_lt x.to (length nw.stops)) noted_levels s.levels shut))
          ((λ counts. absurd (both_ways _ shut counts.2)), same-stepped nw q x r (Counts k) (has_more s.levels k) (level_at s.levels k))
    ]

    pub is-step : (k : ℕ) → IsStep k
    is-step k = record { step = (each-level k).1; reach = (each-level k).0 }

    pub same-length : length on.levels ≡ length s.levels
    same-length = elim (cases_Bool (nat_lt x.to (length nw.stops))) [
      | inr shut ↦ rw shut refl
      | inl alights ↦ rw alights (length-from (changes_of nw) q x r (c.rides + 1) s.levels)
    ]

    -- what was done departed by now
    done-by : (n b : ℕ) → Contains now n → IsStretch o b n → (departure_at o b).time ≤ x.arrival
    done-by n b there stretch =
        let d = done-time n there in
        let e = after-first o stretch.0 b n stretch.1 in
        let rises = (stretch-times nw st o are b n e.0 d.0 stretch e.1 d.1).0 in
        let same = ap (λ (d : Departure). d.time) (departure-is o b e.0 e.1) in
        let until = d.2 in
        let arrives_by = at.leaving.arrives in
        omega arith

    -- who can board by now, could before
    was-open : (k a t : ℕ) → t ≤ x.arrival → MayBoard nw q (reached_at on.levels k) a t → MayBoard nw q (reached_at s.levels k) a t
    was-open k a t le (inl straight) = inl straight
    was-open k a t le (inr (b, u, is, change)) = elim ((is-step k).step.held_from b u is) [
      | inl old ↦ inr (b, u, old, change)
      | inr new ↦ let after = in_time-later nw are.valid.options b u a t change in let same = new.time in absurd (omega arith)
    ]

    was-active : (k n : ℕ) → IsActive o on.levels k n → IsActive o s.levels k n
    was-active k n active = early-then (best_at s.levels (suc k)) (best_at on.levels (suc k)) (departure_at o n).time (is-step (suc k)).step.no_worse active

    -- a ride whose last departure this is ends where the train arrives next
    ends-here : (p : PlanRide) (h : IsRideOf nw st o p) → h.last ≡ x.number → (p.alight_stop ≡ x.to) × (p.alight_time ≡ x.arrival)
    ends-here p h same = (
      ap (λ (p : PlanRide). p.alight_stop) (sym h.is) ∙ ap (λ n. (onward_at o n).to) same ∙ x-to,
      ap (λ (p : PlanRide). p.alight_time) (sym h.is) ∙ ap (λ n. (onward_at o n).arrival) same ∙ x-arrival,
    )

    alights-here : (p : PlanRide) (h : IsRideOf nw st o p) → h.last ≡ x.number → nat_lt x.to (length nw.stops) ≡ true
    alights-here p h same = subst (λ b. nat_lt b (length nw.stops) ≡ true) (ap (λ n. (onward_at o n).to) same ∙ x-to) h.alights

    arrivals-now : (k : ℕ) → k < most → (p : PlanRide) → IsRide nw st p → (seen : IsSeen nw st o now p) → IsActive o on.levels k seen.along.last
        → IsOpen nw q (reached_at on.levels k) p → HasArrived (reached_at on.levels (suc k)) p.alight_stop p.alight_time
    arrivals-now k less p ride seen active can =
        let by = subst (λ (p : PlanRide). p.board_time ≤ x.arrival) seen.along.is (done-by seen.along.last seen.along.board seen.seen seen.along.stretch) in
        let could = was-open k p.board_stop p.board_time by can in
        let was = was-active k seen.along.last active in
        elim (now-cases before x.number seen.along.last seen.seen) [
          | inl old ↦ (is-step (suc k)).step.no_later p.alight_stop p.alight_time (kept.arrivals k less p ride (record { along = seen.along; seen = old }) was could)
          | inr here ↦
              let other = ride-known k less p seen.along here was could in
              let same : other.0 ≡ c = same_Some other.0 c (sym other.1 ∙ known) in
              let fewer = other.2 in
              let rides = ap (λ (c : Rider). c.rides) same in
              let some = kept.some in
              let ends = ends-here p seen.along here in
              let there = (is-step (suc k)).reach (omega arith, omega arith, alights-here p seen.along here) in
              subst (λ b. HasArrived (reached_at on.levels (suc k)) b p.alight_time) (sym ends.0) (subst (HasArrived (reached_at on.levels (suc k)) x.to) (sym ends.1) there)
        ]

    since-now : (k b t : ℕ) → reached_at on.levels k b ≡ Some t → q.time ≤ t
    since-now k b t is = elim ((is-step k).step.held_from b t is) [
      | inl old ↦ kept.since k b t old
      | inr new ↦ let same = new.time in let since = at.leaving.since in let until = at.leaving.arrives in omega arith
    ]

    -- those who ride on are noted where the train departs next
    aboard-now : (k : ℕ) → k < most → (n b : ℕ) → Contains now n → IsActive o on.levels k n
        → IsStretch o b n → may_board nw (departure_at o b) ≡ true → MayBoard nw q (reached_at on.levels k) (departure_at o b).stop (departure_at o b).time
        → IsHeld o (onward_at o n).next → (e : Rider) × (riding on.riders (onward_at o n).next ≡ Some e) × (e.rides ≤ k)
    aboard-now k less n b there active stretch boards may held_next =
        let could = was-open k (departure_at o b).stop (departure_at o b).time (done-by n b there stretch) may in
        let was = was-active k n active in
        elim (cases_eq (onward_at o n).next x.next) [
          | inl same ↦
              let d = done-time n there in
              let one : n ≡ x.number = next-one nw st o are n x.number (onward_at o n).next d.0 at.leaving.departure held_next.0 d.1 at.leaving.there held_next.1 refl (next-is ∙ sym same) in
              let other = there-is k less (subst (IsActive o s.levels k) one was) b (subst (IsStretch o b) one stretch) boards could in
              let is : other.0 ≡ c = same_Some other.0 c (sym other.1 ∙ known) in
              (c, ap (riding on.riders) same ∙ get_or-set_same s.riders x.next (Some c) None next, subst (λ (c : Rider). c.rides ≤ k) is other.2)
          | inr apart ↦ elim (now-cases before x.number n there) [
            | inr here ↦ absurd (apart (ap (λ n. (onward_at o n).next) here ∙ next-is))
            | inl old ↦
                let e = kept.aboard k less n b old was stretch boards could held_next in
                (e.0, get_or-set_other s.riders x.next (onward_at o n).next (Some c) None apart ∙ e.1, e.2)
          ]
        ]

    noted-now : (n : ℕ) (e : Rider) → riding on.riders n ≡ Some e → IsHeld o n → (suc e.rides < length on.levels) × IsRidden nw o (openings_at on.levels e.rides) e.boarded n
    noted-now n e is there = elim (noted-cases s.riders x.next c n e is) [
      | inl new ↦
          let ridden = right.1 in
          let size = same-length in
          let some = few in
          subst (λ (e : Rider). (suc e.rides < length on.levels) × IsRidden nw o (openings_at on.levels e.rides) e.boarded n) new.1 (
            omega arith,
            record {
              stretch = stretch-more o c.boarded x.number n ridden.stretch (next-is ∙ sym new.0) there;
              boards = ridden.boards;
              opened = (is-step c.rides).step.later (departure_at o c.boarded).stop (departure_at o c.boarded).time ridden.opened;
            },
          )
      | inr old ↦
          let was = kept.noted n e old there in
          let within = was.0 in
          let size = same-length in
          (omega arith, ridden-still nw q o (openings_at s.levels e.rides) (openings_at on.levels e.rides) (is-step e.rides).step.later e.boarded n was.1)
    ]

    x-alights : nat_lt x.to (length nw.stops) ≡ true → may_alight nw (onward_at o x.number) ≡ true
    x-alights alights = subst (λ b. nat_lt b (length nw.stops) ≡ true) (sym x-to) alights

    -- the ride can be taken after as many rides, or more
    takeable : (j : ℕ) → c.rides ≤ j → suc j < length s.levels → nat_lt x.to (length nw.stops) ≡ true → IsTakeable nw o (openings_at on.levels j) r
    takeable j more within alights =
        let ridden = right.1 in
        let first = after-first o ridden.stretch.0 c.boarded x.number ridden.stretch.1 in
        let own = departure-is o c.boarded first.0 first.1 in
        let there : held o.entries c.boarded ≡ Some (departure_at o c.boarded) = first.1 ∙ ap Some (sym own) in
        let opens = opened-later nw st o are q at_stops small most done x rest split s kept top tops c.boarded
        (departure_at o c.boarded) there ridden.boards c.rides j more (omega arith) ridden.opened in
        record {
          ridden = record { stretch = ridden.stretch; boards = ridden.boards; opened = (is-step j).step.later (departure_at o c.boarded).stop (departure_at o c.boarded).time opens };
          alights = x-alights alights;
        }

    explained-still : (k a t : ℕ) (behind : Option Stretch) → IsExplained nw q o s.levels k a t behind → IsExplained nw q o on.levels k a t behind
    explained-still k a t None h = h
    explained-still k a t (Some p) h = (h.0, h.1, takeable-still nw q o (openings_at s.levels h.0) (openings_at on.levels h.0) (is-step h.0).step.later p h.2, h.3)

    explained-by : (k a t : ℕ) → Counts k → IsInTime nw x.to x.arrival a t → IsExplained nw q o on.levels k a t (Some r)
    explained-by zero a t counts change = let more = counts.0 in absurd (omega arith)
    explained-by (suc j) a t counts change =
        let more = counts.0 in (
          j,
          refl,
          takeable j (omega arith) counts.1 counts.2,
          subst (λ c. IsInTime nw c (onward_at o x.number).arrival a t) (sym x-to) (subst (λ u. IsInTime nw x.to u a t) (sym x-arrival) change),
        )

    explained-now : (k a t : ℕ) → time_at (openings_at on.levels k).times a ≡ Some t → IsExplained nw q o on.levels k a t (ride_at (openings_at on.levels k) a)
    explained-now k a t is = elim ((is-step k).step.opens_from a t is) [
      | inl old ↦ subst (IsExplained nw q o on.levels k a t) (sym old.1) (explained-still k a t (ride_at (openings_at s.levels k) a) (kept.explained k a t old.0))
      | inr new ↦ subst (IsExplained nw q o on.levels k a t) (sym new.ride) (explained-by k a t new.taken new.change)
    ]

    ended-by : (k : ℕ) → Counts k → is_one_station nw x.to q.to_stop ≡ true → IsEnded nw q o on.levels k (record { time = x.arrival; ride = r })
    ended-by zero counts there = let more = counts.0 in absurd (omega arith)
    ended-by (suc j) counts there =
        let more = counts.0 in (
          j,
          refl,
          record { takeable = takeable j (omega arith) counts.1 counts.2; time = x-arrival; there = subst (λ c. is_one_station nw c q.to_stop ≡ true) (sym x-to) there },
        )

    best-now : (k : ℕ) (e : Ending) → (level_at on.levels k).best ≡ Some e → IsEnded nw q o on.levels k e
    best-now k e is = elim ((is-step k).step.best_from e is) [
      | inl old ↦ let was = kept.best k e old in (was.0, was.1, ending-still nw q o (openings_at s.levels was.0) (openings_at on.levels was.0) (is-step was.0).step.later e was.2)
      | inr new ↦ subst (IsEnded nw q o on.levels k) (sym new.is) (ended-by k new.taken new.there)
    ]

    stops-now : (k a t : ℕ) → reached_at on.levels k a ≡ Some t → is_stop nw.stops a ≡ true
    stops-now k a t is = elim ((is-step k).step.held_from a t is) [
      | inl old ↦ kept.stops k a t old
      | inr new ↦ subst (λ c. is_stop nw.stops c ≡ true) (x-to ∙ sym new.stop) (alights-at_stop nw st o are at_stops x.number at.leaving.departure at.leaving.there (x-alights new.taken.2))
    ]

    places-now : (k a t : ℕ) → time_at (openings_at on.levels k).times a ≡ Some t → a < length nw.stops
    places-now k a t is = elim ((is-step k).step.opens_from a t is) [
      | inl old ↦ kept.places k a t old.0
      | inr new ↦ new.within
    ]

    counts-more : (k : ℕ) → suc k < length on.levels → Counts k → Counts (suc k)
    counts-more k within counts = let more = counts.0 in let size = same-length in (omega arith, omega arith, counts.2)

    more-now : (k a t : ℕ) → suc k < length on.levels → HasArrived (reached_at on.levels k) a t → HasArrived (reached_at on.levels (suc k)) a t
    more-now k a t within h = elim ((is-step k).step.held_from a h.0 h.1) [
      | inl old ↦ let size = same-length in (is-step (suc k)).step.no_later a t (kept.more k a t (omega arith) (h.0, old, h.2))
      | inr new ↦
          let by = (is-step (suc k)).reach (counts-more k within new.taken) in
          let same = new.time in
          let le = h.2 in
          let until = by.2 in
          subst (λ a. HasArrived (reached_at on.levels (suc k)) a t) (sym new.stop) (by.0, by.1, omega arith)
    ]

    there-now : (k b t : ℕ) → reached_at on.levels k b ≡ Some t → is_one_station nw b q.to_stop ≡ true → IsBestBy (best_at on.levels k) t
    there-now k = still-there nw q x r (Counts k) (has_more s.levels k) (level_at s.levels k) (level_at on.levels k) (is-step k).step (kept.there k)

    no_worse-now : (k t : ℕ) → suc k < length on.levels → IsBestBy (best_at on.levels k) t → IsBestBy (best_at on.levels (suc k)) t
    no_worse-now k t within h = by (level_at on.levels k).best refl h
      where
        by : (best : Option Ending) → (level_at on.levels k).best ≡ best → IsBestBy (best_time best) t → IsBestBy (best_at on.levels (suc k)) t
        by None is h = absurd (none-some h.0 h.1)
        by (Some e) is h =
            let time : e.time ≡ h.0 = same_Some e.time h.0 h.1 in
            let le = h.2 in
            elim ((is-step k).step.best_from e is) [
              | inl old ↦ let size = same-length in (is-step (suc k)).step.no_worse t (kept.no_worse k t (omega arith) (e.time, ap best_time old, omega arith))
              | inr new ↦
                  let by = (is-step (suc k)).reach (counts-more k within new.taken) in
                  let best = there-now (suc k) x.to by.0 by.1 new.there in
                  let until = by.2 in
                  let less = best.2 in
                  let own = ap (λ (e : Ending). e.time) new.is in
                  (best.0, best.1, omega arith)
            ]

    none-now : (b : ℕ) → reached_at on.levels 0 b ≡ None
    none-now b = by (reached_at on.levels 0 b) refl
      where
        by : (o : Option ℕ) → reached_at on.levels 0 b ≡ o → o ≡ None
        by None is = refl
        by (Some t) is = elim ((is-step 0).step.held_from b t is) [
          | inl old ↦ absurd (none-some t (sym (kept.none b) ∙ old))
          | inr new ↦ let more = new.taken.0 in absurd (omega arith)
        ]

    pub kept-rode : IsKept nw st q o most now on
    kept-rode = record {
      some = let some = kept.some in let size = same-length in omega arith;
      arrivals = arrivals-now;
      there = there-now;
      since = since-now;
      opened = λ k within. still-opened nw q x r (Counts k) (has_more s.levels k) (level_at s.levels k) (level_at on.levels k)
          (is-step k).step (more-there s.levels k (let size = same-length in omega arith)) (kept.opened k (let size = same-length in omega arith));
      aboard = aboard-now;
      noted = noted-now;
      explained = explained-now;
      best = best-now;
      stops = stops-now;
      places = places-now;
      more = more-now;
      no_worse = no_worse-now;
      none = none-now;
    }

  -- one departure more
  pub kept-departed : x.next < length s.riders → All (HasLevelRoom (length nw.stops)) s.levels → IsKept nw st q o most (map number (done ++ x ∷ [])) (departed (changes_of nw) q top x s)
  kept-departed next room = subst (λ ns. IsKept nw st q o most ns (departed (changes_of nw) q top x s)) (sym (map-append number done (x ∷ []))) (by (rider_at top x s) refl)
    where
      by : (p : Option Rider) → rider_at top x s ≡ p → IsKept nw st q o most now (option_map_or (λ c. rode (changes_of nw) q c x s) p s)
      by None nobody = kept-passes nobody
      by (Some c) known = kept-rode c known next room
