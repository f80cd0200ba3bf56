-- What a scan keeps, departure by departure.
use Rattle.conn_scan.proofs.Words.{◌≡◌, ◌⊎◌, inl, inr, ℕ, zero, suc, ◌+◌, ◌-◌, ◌≤◌, ◌<◌, nat_lt, Bool, true, false, List, [], ◌∷◌, ◌++◌, Option, Some, None, MatchOption, IfSome, length, map, get_or, refl, sym, ◌∙◌, ap, subst, arith, All, Contains, option_map, option_map_or, option_or, both_ways, cond, cases_Bool, cases_lt, leb-true, ltb-true, none-some, same_Some, PlanRide, Query, Network, State, is_stop, IsInTime, IsRide, AreAtStops, held, Ordered, onward_at, Departure, Leaving, HasArrived, IsEarly, IsFromOrigin, IsOpen, MayBoard, IsBestBy, is_by, is_there_by, never, time_at, IsHeld, IsRideOf, IsStretch, departure_at, leaving_from, may_board, HasOpened, IsRidden, IsTakeable, ride_at}
use Rattle.conn_scan.specs.declared.known.Ending.{Ending}
use Rattle.conn_scan.specs.declared.openings.Openings.{Openings}
use Rattle.conn_scan.specs.declared.stop_rides.Stretch.{Stretch}
use Rattle.std.proofs.lemmas.Bool.{lt-ltb}
use Rattle.journey_laws.proofs.Scanning.{boards-since}
use Rattle.journey_laws.proofs.Beginnings.{early-before}
use Rattle.conn_scan.proofs.Kept.{AreOpened, IsEnding, IsSeen, best_time, by-has, by-is, mapped, number}
use Rattle.conn_scan.proofs.LeavingFrom.{IsLeavingAt, leaving-at}
use Rattle.conn_scan.proofs.NextDeparture.{AreNumbered}
use Rattle.conn_scan.proofs.Stretches.{IsLastStep, after-first, after-last, boards-at_stop, departure-is, last-or-none, stretch-none, stretch-times}
use Rattle.pareto_scan.specs.Levels.{first_open, least_open, level_at, opens}
use Rattle.pareto_scan.specs.Riders.{riding}
use Rattle.pareto_scan.specs.Ridden.{Ridden, below_of, boarding, rider_at, still_riding}
use Rattle.pareto_scan.specs.declared.level.Level.{Level}
use Rattle.pareto_scan.specs.declared.riders.Rider.{Rider}

-- by when a passenger with at most so many rides has arrived, can board, and arrives at the end
abbrev pub reached_at : List Level → ℕ → ℕ → Option ℕ
reached_at ls k = time_at (level_at ls k).held

abbrev pub openings_at : List Level → ℕ → Openings
openings_at ls k = (level_at ls k).openings

abbrev pub best_at : List Level → ℕ → Option ℕ
best_at ls k = best_time (level_at ls k).best

-- departure n is before the best arrival by one ride more than k
abbrev pub IsActive : Ordered → List Level → ℕ → ℕ → Type 0
IsActive o ls k n = IsEarly (best_at ls (suc k)) (departure_at o n).time

-- where one can board after at most k rides, it is straight from the origin, or behind a ride that
-- can be taken after fewer
abbrev pub IsExplained : Network → Query → Ordered → List Level → ℕ → ℕ → ℕ → Option Stretch → Type 0
IsExplained nw q o ls k b t behind = MatchOption behind (IsFromOrigin nw q b t)
    (λ (r : Stretch). (j : ℕ) × (k ≡ suc j) × IsTakeable nw o (openings_at ls j) r × IsInTime nw (onward_at o r.last).to (onward_at o r.last).arrival b t)

-- the ride of a best arrival with at most k rides can be taken after fewer
abbrev pub IsEnded : Network → Query → Ordered → List Level → ℕ → Ending → Type 0
IsEnded nw q o ls k e = (j : ℕ) × (k ≡ suc j) × IsEnding nw q o (openings_at ls j) e

-- what is known once the departures of these numbers are done, of journeys with at most so many rides
pub record IsKept (nw : Network) (st : State) (q : Query) (o : Ordered) (most : ℕ) (done : List ℕ) (s : Ridden) : Type 0 where
  pub some : most < length s.levels
  -- no arrival by one ride more is missing
  pub arrivals : (k : ℕ) → k < most → (r : PlanRide) → IsRide nw st r → (seen : IsSeen nw st o done r)
      → IsActive o s.levels k seen.along.last → IsOpen nw q (reached_at s.levels k) r → HasArrived (reached_at s.levels (suc k)) r.alight_stop r.alight_time
  pub there : (k b t : ℕ) → reached_at s.levels k b ≡ Some t → Rattle.delay_model.specs.Journeys.is_one_station nw b q.to_stop ≡ true → IsBestBy (best_at s.levels k) t
  pub since : (k b t : ℕ) → reached_at s.levels k b ≡ Some t → q.time ≤ t
  pub opened : (k : ℕ) → suc k < length s.levels → AreOpened nw q (reached_at s.levels k) (openings_at s.levels k)
  -- each departure that passengers can be on has those noted at the next who had taken the fewest
  pub aboard : (k : ℕ) → k < most → (n b : ℕ) → Contains done n → IsActive o s.levels k n
      → IsStretch o b n → may_board nw (departure_at o b) ≡ true → MayBoard nw q (reached_at s.levels k) (departure_at o b).stop (departure_at o b).time
      → IsHeld o (onward_at o n).next → (c : Rider) × (riding s.riders (onward_at o n).next ≡ Some c) × (c.rides ≤ k)
  -- what is noted is right
  pub noted : (n : ℕ) (c : Rider) → riding s.riders n ≡ Some c → IsHeld o n → (suc c.rides < length s.levels) × IsRidden nw o (openings_at s.levels c.rides) c.boarded n
  pub explained : (k b t : ℕ) → time_at (openings_at s.levels k).times b ≡ Some t → IsExplained nw q o s.levels k b t (ride_at (openings_at s.levels k) b)
  pub best : (k : ℕ) (e : Ending) → (level_at s.levels k).best ≡ Some e → IsEnded nw q o s.levels k e
  -- only stops are reached
  pub stops : (k b t : ℕ) → reached_at s.levels k b ≡ Some t → is_stop nw.stops b ≡ true
  pub places : (k b t : ℕ) → time_at (openings_at s.levels k).times b ≡ Some t → b < length nw.stops
  -- with more rides nothing is later
  pub more : (k b t : ℕ) → suc k < length s.levels → HasArrived (reached_at s.levels k) b t → HasArrived (reached_at s.levels (suc k)) b t
  pub no_worse : (k t : ℕ) → suc k < length s.levels → IsBestBy (best_at s.levels k) t → IsBestBy (best_at s.levels (suc k)) t
  -- without a ride nobody arrives
  pub none : (b : ℕ) → reached_at s.levels 0 b ≡ None

-- behind these rides nobody boards any more: the best arrival is not after this time
pub record IsTop (levels : List Level) (most time top : ℕ) : Type 0 where
  pub few : top ≤ most
  pub over : (k : ℕ) → top ≤ k → k < most → is_there_by (level_at levels (suc k)).best time ≡ true

-- ---- who boards

module _ (levels : List Level) (x : Leaving) where
  least-few : (b : ℕ) → least_open levels x b ≤ b
  least-few zero = omega arith
  least-few (suc b) = elim (cases_Bool (opens levels x b)) [
    | inl wide ↦ rw wide (let few = least-few b in omega arith)
    | inr shut ↦ rw shut (omega arith)
  ]

  least-open : (b : ℕ) → opens levels x b ≡ true → opens levels x (least_open levels x b) ≡ true
  least-open zero wide = wide
  least-open (suc b) wide = elim (cases_Bool (opens levels x b)) [
    | inl below ↦ rw below (least-open b below)
    | inr shut ↦ rw shut wide
  ]

  least-low : (k b : ℕ) → k ≤ b → ((j : ℕ) → k ≤ j → j ≤ b → opens levels x j ≡ true) → least_open levels x b ≤ k
  least-low k zero le all = omega arith
  least-low k (suc b) le all = elim (cases_lt b k) [
    | inl same ↦ let few = least-few (suc b) in omega arith
    | inr below ↦ rw (all b below (omega arith)) (least-low k b below (λ j from until. all j from (omega arith)))
  ]

  pub first-right : (below j : ℕ) → first_open levels x below ≡ Some j → (j < below) × (opens levels x j ≡ true)
  first-right zero j at = absurd (none-some j at)
  first-right (suc b) j at = by (opens levels x b) refl at
    where
      by : (y : Bool) → opens levels x b ≡ y → cond y (Some (least_open levels x b)) None ≡ Some j → (j < suc b) × (opens levels x j ≡ true)
      by false is at = absurd (none-some j at)
      by true is at =
          let same : least_open levels x b ≡ j = same_Some _ j at in
          let few = least-few b in
          (omega arith, subst (λ j. opens levels x j ≡ true) same (least-open b is))

  pub first-there : (k below : ℕ) → k < below → ((j : ℕ) → k ≤ j → j < below → opens levels x j ≡ true) → (j : ℕ) × (first_open levels x below ≡ Some j) × (j ≤ k)
  first-there k zero lt all = absurd (omega arith)
  first-there k (suc b) lt all = rw (all b (omega arith) (omega arith)) (least_open levels x b, refl, least-low k b (omega arith) (λ j from until. all j from (omega arith)))

-- those who ride on are those who board, or were aboard
pub rider-cases : (top : ℕ) (x : Leaving) (s : Ridden) (c : Rider) → rider_at top x s ≡ Some c
    → ((c.boarded ≡ x.number) × (c.rides < top) × (opens s.levels x c.rides ≡ true)) ⊎ ((riding s.riders x.number ≡ Some c) × (c.rides < top))
rider-cases top x s c at = first (riding s.riders x.number) refl at
  where
    below-few : (a : Option Rider) → below_of top a ≤ top
    below-few None = omega arith
    below-few (Some r) = omega arith

    stays : (a : Option Rider) → riding s.riders x.number ≡ a → still_riding top a ≡ Some c → (riding s.riders x.number ≡ Some c) × (c.rides < top)
    stays None is at = absurd (none-some c at)
    stays (Some r) is at = by (nat_lt r.rides top) refl at
      where
        by : (y : Bool) → nat_lt r.rides top ≡ y → cond y (Some r) None ≡ Some c → (riding s.riders x.number ≡ Some c) × (c.rides < top)
        by false isnt at = absurd (none-some c at)
        by true fits at = let same : r ≡ c = same_Some r c at in (is ∙ ap Some same, subst (λ (c : Rider). c.rides < top) same (ltb-true r.rides top fits))

    second : (a : Option Rider) (f : Option ℕ) → riding s.riders x.number ≡ a
        → first_open s.levels x (below_of top a) ≡ f → option_or (option_map (boarding x) f) (still_riding top a) ≡ Some c
        → ((c.boarded ≡ x.number) × (c.rides < top) × (opens s.levels x c.rides ≡ true)) ⊎ ((riding s.riders x.number ≡ Some c) × (c.rides < top))
    second a None is none at = inr (stays a is at)
    second a (Some j) is some at =
        let same : boarding x j ≡ c = same_Some _ c at in
        let right = first-right s.levels x (below_of top a) j some in
        let few = below-few a in
        let less = right.0 in
        inl (ap (λ (c : Rider). c.boarded) (sym same), subst (λ (c : Rider). c.rides < top) same (omega arith), subst (λ (c : Rider). opens s.levels x c.rides ≡ true) same right.1)

    first : (a : Option Rider) → riding s.riders x.number ≡ a
        → option_or (option_map (boarding x) (first_open s.levels x (below_of top a))) (still_riding top a) ≡ Some c
        → ((c.boarded ≡ x.number) × (c.rides < top) × (opens s.levels x c.rides ≡ true)) ⊎ ((riding s.riders x.number ≡ Some c) × (c.rides < top))
    first a is at = second a (first_open s.levels x (below_of top a)) is refl at

-- those who were aboard ride on, or those who had taken fewer rides
module _ (top : ℕ) (x : Leaving) (s : Ridden) (k : ℕ) (lt : k < top) where
  abbrev Rides : Option Rider → Option ℕ → Type 0
  Rides a f = (c : Rider) × (option_or (option_map (boarding x) f) (still_riding top a) ≡ Some c) × (c.rides ≤ k)

  aboard-by : (a : Rider) (f : Option ℕ) → a.rides ≤ k → ((j : ℕ) → f ≡ Some j → j < below_of top (Some a)) → Rides (Some a) f
  aboard-by a None few right = (a, rw (lt-ltb a.rides top (omega arith)) refl, few)
  aboard-by a (Some j) few right = let less = right j refl in (boarding x j, refl, omega arith)

  pub rider-aboard : (a : Rider) → riding s.riders x.number ≡ Some a → a.rides ≤ k → (c : Rider) × (rider_at top x s ≡ Some c) × (c.rides ≤ k)
  rider-aboard a is few = rw is (aboard-by a (first_open s.levels x (below_of top (Some a))) few (λ j at. (first-right s.levels x (below_of top (Some a)) j at).0))

  -- those who can board do, or others who had taken no more rides
  pub rider-boards : ((j : ℕ) → k ≤ j → j < top → opens s.levels x j ≡ true) → (c : Rider) × (rider_at top x s ≡ Some c) × (c.rides ≤ k)
  rider-boards all = by (riding s.riders x.number) refl
    where
      opened : (a : Option Rider) → k < below_of top a → below_of top a ≤ top → Rides a (first_open s.levels x (below_of top a))
      opened a less few =
          let there = first-there s.levels x k (below_of top a) less (λ j from until. all j from (omega arith)) in
          rw there.1 (boarding x there.0, refl, there.2)

      by : (a : Option Rider) → riding s.riders x.number ≡ a → (c : Rider) × (rider_at top x s ≡ Some c) × (c.rides ≤ k)
      by None is = rw is (opened None lt (omega arith))
      by (Some a) is = elim (cases_lt k a.rides) [
        | inl more ↦ rw is (opened (Some a) (omega arith) (omega arith))
        | inr few ↦ rider-aboard a is few
      ]

-- ---- who rides on a departure

module _ (nw : Network) (st : State) (o : Ordered)
    (are : AreNumbered nw st o) (q : Query) (at_stops : AreAtStops nw.stops st) (small : (n : ℕ) (d : Departure) → held o.entries n ≡ Some d → d.time < never)
    (most : ℕ) (done : List Leaving) (x : Leaving) (rest : List Leaving) (split : leaving_from o q.time ≡ done ++ x ∷ rest)
    (s : Ridden) (kept : IsKept nw st q o most (map number done) s) (top : ℕ) (tops : IsTop s.levels most x.time top) where
  pub at-x : IsLeavingAt o q.time done x rest
  at-x = leaving-at nw st o are q.time done x rest split

  pub x-held : IsHeld o x.number
  x-held = (at-x.leaving.departure, at-x.leaving.there)

  pub x-is : departure_at o x.number ≡ at-x.leaving.departure
  x-is = departure-is o x.number at-x.leaving.departure at-x.leaving.there

  pub x-stop : (departure_at o x.number).stop ≡ x.stop
  x-stop = ap (λ (d : Departure). d.stop) x-is ∙ sym at-x.leaving.stop

  pub x-time : (departure_at o x.number).time ≡ x.time
  x-time = ap (λ (d : Departure). d.time) x-is ∙ sym at-x.leaving.its_time

  pub x-next : (onward_at o x.number).next ≡ x.next
  x-next = ap (λ (w : Rattle.dep_order.specs.declared.departure.Onward.Onward). w.next) at-x.leaving.onward

  -- behind these rides one still boards
  not-there : (best : Option Ending) → IsEarly (best_time best) x.time → is_there_by best x.time ≡ true → ⊥
  not-there None early there = absurd (both_ways false refl there)
  not-there (Some e) early there = let le = leb-true e.time x.time there in omega arith

  pub active-below : (k : ℕ) → k < most → IsActive o s.levels k x.number → k < top
  active-below k less active = elim (cases_lt k top) [
    | inl below ↦ below
    | inr past ↦ absurd (not-there (level_at s.levels (suc k)).best (subst (IsEarly (best_at s.levels (suc k))) x-time active) (tops.over k past less))
  ]

  -- with more rides one can board where one can with fewer
  may-more : (k a t : ℕ) → suc k < length s.levels → MayBoard nw q (reached_at s.levels k) a t → MayBoard nw q (reached_at s.levels (suc k)) a t
  may-more k a t within (inl straight) = inl straight
  may-more k a t within (inr (c, u, is, change)) =
      let now = kept.more k c u within (u, is, omega arith) in
      let le = now.2 in
      let ends = change.2 in
      inr (c, now.0, now.1, (change.0, change.1, omega arith))

  module _ (b : ℕ) (d : Departure) (there : held o.entries b ≡ Some d) (boards : may_board nw d ≡ true) where
    abbrev OpensAt : ℕ → Type 0
    OpensAt k = HasOpened (openings_at s.levels k) d.stop d.time

    opened-next : (k : ℕ) → suc (suc k) < length s.levels → OpensAt k → OpensAt (suc k)
    opened-next k within h =
        let stop = boards-at_stop nw st o are at_stops b d there boards in
        let fits = small b d there in
        let may = (kept.opened k (omega arith) d.stop d.time stop fits).0 h in
        (kept.opened (suc k) within d.stop d.time stop fits).1 (may-more k d.stop d.time (omega arith) may)

    opened-more : (n k j : ℕ) → j ≡ n + k → suc j < length s.levels → OpensAt k → OpensAt j
    opened-more zero k j is within h = let same : k ≡ j = omega arith in subst OpensAt same h
    opened-more (suc n) k j is within h =
        let next : suc (n + k) ≡ j = omega arith in
        subst OpensAt next (opened-next (n + k) (omega arith) (opened-more n k (n + k) refl (omega arith) h))

    pub opened-later : (k j : ℕ) → k ≤ j → suc j < length s.levels → OpensAt k → OpensAt j
    opened-later k j le within h = opened-more (j - k) k j (omega arith) within h

  boards-here : (k : ℕ) → k < top → may_board nw (departure_at o x.number) ≡ true
      → MayBoard nw q (reached_at s.levels k) (departure_at o x.number).stop (departure_at o x.number).time
      → (c : Rider) × (rider_at top x s ≡ Some c) × (c.rides ≤ k)
  boards-here k less boards may =
      let d = departure_at o x.number in
      let there : held o.entries x.number ≡ Some d = at-x.leaving.there ∙ ap Some (sym x-is) in
      let some = kept.some in
      let few = tops.few in
      let first = (kept.opened k (omega arith) d.stop d.time (boards-at_stop nw st o are at_stops x.number d there boards) (small x.number d there)).1 may in
      rider-boards top x s k less (λ j from until.
      let opened = opened-later x.number d there boards k j from (omega arith) first in
      by-is (openings_at s.levels j).times x.stop x.time (subst (λ b. HasArrived (time_at (openings_at s.levels j).times) b x.time) x-stop
      (subst (HasArrived (time_at (openings_at s.levels j).times) d.stop) x-time opened)))

  aboard-since : (k : ℕ) → k < top → IsActive o s.levels k x.number → (b : ℕ) → IsLastStep o b x.number → may_board nw (departure_at o b) ≡ true
      → MayBoard nw q (reached_at s.levels k) (departure_at o b).stop (departure_at o b).time → (c : Rider) × (rider_at top x s ≡ Some c) × (c.rides ≤ k)
  aboard-since k less active b step boards may =
      let m = step.before in
      let first = after-first o step.stretch.0 b m step.stretch.1 in
      let last = after-last o step.stretch.0 b m step.stretch.1 in
      let since = boards-since nw st q (reached_at s.levels k) (departure_at o b).stop (departure_at o b).time (kept.since k) may in
      let rises = (stretch-times nw st o are b m first.0 last.0 step.stretch first.1 last.1).0 in
      let time = ap (λ (d : Departure). d.time) (departure-is o b first.0 first.1) in
      let own = ap (λ (d : Departure). d.time) (departure-is o m last.0 last.1) in
      let before = at-x.previous m last.0 last.1 (omega arith) step.next in
      let until = Rattle.conn_scan.proofs.Words.All-contains (λ (y : Leaving). y.time ≤ x.time) done before.0 at-x.before before.1 in
      let few = tops.few in
      let moved = m-time m last.0 last.1 step.next in
      let was = early-before (best_at s.levels (suc k)) (departure_at o m).time x.time (omega arith) (subst (IsEarly (best_at s.levels (suc k))) x-time active) in
      let there = kept.aboard k (omega arith) m b (subst
      (Contains (map number done)) before.2 (mapped number done before.0 before.1)) was step.stretch boards may (subst (IsHeld o) (sym step.next) x-held) in
      rider-aboard top x s k less there.0 (ap (riding s.riders) (sym step.next) ∙ there.1) there.2
    where
      m-time : (m : ℕ) (d : Departure) → held o.entries m ≡ Some d → (onward_at o m).next ≡ x.number → d.time ≤ x.time
      m-time m d there next =
          let later = Rattle.conn_scan.proofs.NextDeparture.next-later nw st o are m d at-x.leaving.departure there (ap (held o.entries) next ∙ at-x.leaving.there) in
          let le = Rattle.conn_scan.proofs.NextDeparture.leaves-not-later d at-x.leaving.departure later in
          let same = at-x.leaving.its_time in
          omega arith

  -- passengers can be on this departure: then some are known who had taken no more rides
  pub rider-there : (k : ℕ) → k < most → IsActive o s.levels k x.number → (b : ℕ) → IsStretch o b x.number → may_board nw (departure_at o b) ≡ true
      → MayBoard nw q (reached_at s.levels k) (departure_at o b).stop (departure_at o b).time → (c : Rider) × (rider_at top x s ≡ Some c) × (c.rides ≤ k)
  rider-there k less active b stretch boards may = elim (last-or-none o b x.number stretch) [
    | inl here ↦ boards-here k (active-below k less active) (subst (λ n. may_board nw (departure_at o n) ≡ true) here boards)
        (subst (λ n. MayBoard nw q (reached_at s.levels k) (departure_at o n).stop (departure_at o n).time) here may)
    | inr step ↦ aboard-since k (active-below k less active) active b step boards may
  ]

  -- and where some are known, they can
  pub rider-right : (c : Rider) → rider_at top x s ≡ Some c → (c.rides < top) × IsRidden nw o (openings_at s.levels c.rides) c.boarded x.number
  rider-right c at = elim (rider-cases top x s c at) [
    | inr aboard ↦ (aboard.1, (kept.noted x.number c aboard.0 x-held).1)
    | inl here ↦
        let opens = by-has (openings_at s.levels c.rides).times x.stop x.time here.2 in
        let below = kept.places c.rides x.stop opens.0 opens.1 in (
          here.1,
          subst (λ n. IsRidden nw o (openings_at s.levels c.rides) n x.number) (sym here.0) (record {
            stretch = stretch-none o x.number x-held;
            boards = lt-ltb (departure_at o x.number).stop (length nw.stops) (omega (arith, below, x-stop));
            opened = subst (λ b. HasArrived (time_at (openings_at s.levels c.rides).times) b (departure_at o x.number).time)
                (sym x-stop) (subst (HasArrived (time_at (openings_at s.levels c.rides).times) x.stop) (sym x-time) opens);
          }),
        )
  ]
