-- What a scan keeps, departure by departure.
use Rattle.conn_scan.proofs.Words.{◌≡◌, ◌≢◌, ◌⊎◌, inl, inr, ℕ, zero, suc, ◌+◌, ◌≤◌, ◌<◌, ◌&&◌, nat_lt, nat_le, not, Bool, true, false, List, [], ◌∷◌, ◌++◌, Option, Some, None, MatchOption, IfSome, length, map, set, get_or, refl, sym, ◌∙◌, ap, subst, arith, All, Contains, option_map, option_map_or, option_or, and_parts, both_ways, cond, cases_Bool, cases_eq, cond_both, leb-true, leb-false, All-contains, none-some, same_Some, PlanRide, Query, Network, State, is_stop, is_one_station, IsInTime, IsRide, IsValid, AreAtStops, held, Ordered, onward_at, Departure, Leaving, HasArrived, IsFromOrigin, IsOpen, MayBoard, IsScanOf, boarding_at, boarding, is_by, never, time_at, IsHeld, IsRideOf, IsStretch, departure_at, leaving_from, may_alight, may_board, ride_of, HasOpened, IsRidden, IsTakeable, access_of, AreExplained, IsPossible, ride_along, ride_at, Ending, Known, Openings, Stretch}
use Rattle.std.proofs.lemmas.Bool.{lt-ltb}
use Rattle.delay_model.proofs.Lists.{Contains-cases, Contains-there}
use Rattle.journey_laws.proofs.Scanning.{boards-since}
use Rattle.conn_scan.proofs.LeavingFrom.{IsLeaving, IsLeavingAt, leaving-at}
use Rattle.conn_scan.proofs.NextDeparture.{AreNumbered}
use Rattle.conn_scan.proofs.Stretches.{IsLastStep, after-first, after-last, boards-at_stop, departure-is, last-or-none, stretch-none, stretch-ride, stretch-times}

-- the ride is along a stretch whose last departure is among those with these numbers
pub record IsSeen (nw : Network) (st : State) (o : Ordered) (done : List ℕ) (r : PlanRide) : Type 0 where
  pub along : IsRideOf nw st o r
  pub seen : Contains done along.last

-- passengers can board at stops when they may, at any time that fits
abbrev pub AreOpened : Network → Query → (ℕ → Option ℕ) → Openings → Type 0
AreOpened nw q reached ls = (b t : ℕ) → is_stop nw.stops b ≡ true → t < never → (HasOpened ls b t → MayBoard nw q reached b t) × (MayBoard nw q reached b t → HasOpened ls b t)

-- where they can board, it is straight from the origin or behind a ride that can be taken
abbrev pub IsExplainedBy : Network → Query → Ordered → Openings → ℕ → ℕ → Option Stretch → Type 0
IsExplainedBy nw q o ls b t behind = MatchOption behind (IsFromOrigin nw q b t) (λ (r : Stretch). IsTakeable nw o ls r × IsInTime nw (onward_at o r.last).to (onward_at o r.last).arrival b t)

-- the arrival of a ride that can be taken, in the destination's station
pub record IsEnding (nw : Network) (q : Query) (o : Ordered) (ls : Openings) (e : Ending) : Type 0 where
  pub takeable : IsTakeable nw o ls e.ride
  pub time : (onward_at o e.ride.last).arrival ≡ e.time
  pub there : is_one_station nw (onward_at o e.ride.last).to q.to_stop ≡ true

abbrev pub best_time : Option Ending → Option ℕ
best_time best = option_map (λ (e : Ending). e.time) best

-- what is known once the departures of these numbers are done
pub record IsKept (nw : Network) (st : State) (q : Query) (o : Ordered) (done : List ℕ) (k : Known) : Type 0 where
  pub scan : IsScanOf nw st q (best_time k.best) (time_at k.held) (IsSeen nw st o done)
  pub opened : AreOpened nw q (time_at k.held) k.openings
  -- each of them that passengers can be on has its boarding noted at the one to which it leads
  pub aboard : (n b : ℕ) → Contains done n → IsStretch o b n → may_board nw (departure_at o b) ≡ true → MayBoard nw q (time_at k.held) (departure_at o b).stop (departure_at o b).time → (c : ℕ) × (boarding_at k.aboard (onward_at o n).next ≡ Some c)
  -- what is noted is right
  pub noted : (n b : ℕ) → boarding_at k.aboard n ≡ Some b → IsHeld o n → IsRidden nw o k.openings b n
  pub explained : (b t : ℕ) → time_at k.openings.times b ≡ Some t → IsExplainedBy nw q o k.openings b t (ride_at k.openings b)
  pub best : IfSome k.best (IsEnding nw q o k.openings)
  -- only stops are reached
  pub stops : (b t : ℕ) → time_at k.held b ≡ Some t → is_stop nw.stops b ≡ true
  pub places : (b t : ℕ) → time_at k.openings.times b ≡ Some t → b < length nw.stops

-- what opens no later than before, still does
abbrev pub IsNoLater : Openings → Openings → Type 0
IsNoLater old new = (b t : ℕ) → HasOpened old b t → HasOpened new b t

module _ (nw : Network) (q : Query) (o : Ordered) (old new : Openings) (later : IsNoLater old new) where
  pub ridden-still : (b n : ℕ) → IsRidden nw o old b n → IsRidden nw o new b n
  ridden-still b n h = record { stretch = h.stretch; boards = h.boards; opened = later (departure_at o b).stop (departure_at o b).time h.opened }

  pub takeable-still : (r : Stretch) → IsTakeable nw o old r → IsTakeable nw o new r
  takeable-still r h = record { ridden = ridden-still r.first r.last h.ridden; alights = h.alights }

  pub explained-still : (b t : ℕ) (behind : Option Stretch) → IsExplainedBy nw q o old b t behind → IsExplainedBy nw q o new b t behind
  explained-still b t None h = h
  explained-still b t (Some r) h = (takeable-still r h.0, h.1)

  pub ending-still : (e : Ending) → IsEnding nw q o old e → IsEnding nw q o new e
  ending-still e h = record { takeable = takeable-still e.ride h.takeable; time = h.time; there = h.there }

  pub best-still : (best : Option Ending) → IfSome best (IsEnding nw q o old) → IfSome best (IsEnding nw q o new)
  best-still None h = h
  best-still (Some e) h = ending-still e h

-- what is in a list is, as it is mapped, in the mapped one
pub mapped : {X Y : Type 0} (f : X → Y) (xs : List X) (x : X) → Contains xs x → Contains (map f xs) (f x)
mapped f [] x h = let l = h.1 in absurd (omega arith)
mapped f (w ∷ xs) x h = elim (Contains-cases w xs x h) [
  | inl same ↦ (0, omega arith, ap f same)
  | inr rest ↦ Contains-there (f w) (map f xs) (f x) (mapped f xs x rest)
]

-- whether a stop has a time by another one
pub by-is : (list : List (Option ℕ)) (b t : ℕ) → HasArrived (time_at list) b t → is_by list b t ≡ true
by-is list b t h = let le = h.2 in grind (arith, h.1, le)

pub by-has : (list : List (Option ℕ)) (b t : ℕ) → is_by list b t ≡ true → HasArrived (time_at list) b t
by-has list b t h = go (time_at list b) refl h
  where
    go : (x : Option ℕ) → time_at list b ≡ x → option_map_or (λ s. nat_le s t) x false ≡ true → HasArrived (time_at list) b t
    go None at h = absurd (both_ways false refl h)
    go (Some s) at h = (s, at, leb-true s t h)

abbrev pub number : Leaving → ℕ
number y = y.number

module _ (nw : Network) (st : State) (o : Ordered) (are : AreNumbered nw st o) where
  -- a ride that can be taken is a ride
  pub takeable-ride : (ls : Openings) (r : Stretch) → IsTakeable nw o ls r → IsRide nw st (ride_along st o r)
  takeable-ride ls r h = stretch-ride nw st o are r.first r.last h.ridden.stretch h.ridden.boards h.alights

  pub takeable-possible : (ls : Openings) (r : Stretch) → IsTakeable nw o ls r → IsPossible nw st (access_of st o ls) (ride_along st o r)
  takeable-possible ls r h =
      let at = h.ridden.opened in
      (takeable-ride ls r h, (record { time = at.0; ride = option_map (ride_along st o) (ride_at ls (departure_at o r.first).stop) }, ap (option_map (λ t. record { time = t; ride = option_map (ride_along st o) (ride_at ls (departure_at o r.first).stop) })) at.1, at.2))

  -- so each access is explained
  pub accesses-explained : (q : Query) (ls : Openings) → ((b t : ℕ) → time_at ls.times b ≡ Some t → IsExplainedBy nw q o ls b t (ride_at ls b)) → AreExplained nw st q (access_of st o ls)
  accesses-explained q ls explained b a at = by (time_at ls.times b) refl at
    where
      behind : (t : ℕ) (x : Option Stretch) → IsExplainedBy nw q o ls b t x → MatchOption (option_map (ride_along st o) x) (IsFromOrigin nw q b t) (λ r. IsPossible nw st (access_of st o ls) r × IsInTime nw r.alight_stop r.alight_time b t)
      behind t None h = h
      behind t (Some r) h = (takeable-possible ls r h.0, h.1)

      by : (x : Option ℕ) → time_at ls.times b ≡ x → option_map (λ t. record { time = t; ride = option_map (ride_along st o) (ride_at ls b) }) x ≡ Some a → MatchOption a.ride (IsFromOrigin nw q b a.time) (λ r. IsPossible nw st (access_of st o ls) r × IsInTime nw r.alight_stop r.alight_time b a.time)
      by None is at = absurd (none-some a at)
      by (Some t) is at = subst (λ a. MatchOption a.ride (IsFromOrigin nw q b a.time) (λ r. IsPossible nw st (access_of st o ls) r × IsInTime nw r.alight_stop r.alight_time b a.time)) (same_Some _ a at) (behind t (ride_at ls b) (explained b t is))

  module _ (q : Query) (at_stops : AreAtStops nw.stops st) (done : List Leaving) (x : Leaving) (rest : List Leaving) (split : leaving_from o q.time ≡ done ++ x ∷ rest) (k : Known) (small : (n : ℕ) (d : Departure) → held o.entries n ≡ Some d → d.time < never) (kept : IsKept nw st q o (map (λ (y : Leaving). y.number) done) k) where
    pub at-x : IsLeavingAt o q.time done x rest
    at-x = leaving-at nw st o are q.time done x rest split

    pub x-held : IsHeld o x.number
    x-held = (at-x.leaving.departure, at-x.leaving.there)

    pub x-is : departure_at o x.number ≡ at-x.leaving.departure
    x-is = departure-is o x.number at-x.leaving.departure at-x.leaving.there

    pub x-stop : (departure_at o x.number).stop ≡ x.stop
    x-stop = ap (λ (d : Departure). d.stop) x-is ∙ sym at-x.leaving.stop

    pub x-time : (departure_at o x.number).time ≡ x.time
    x-time = ap (λ (d : Departure). d.time) x-is ∙ sym at-x.leaving.its_time

    pub x-next : (onward_at o x.number).next ≡ x.next
    x-next = ap (λ (w : Rattle.dep_order.specs.declared.departure.Onward.Onward). w.next) at-x.leaving.onward

    has-first : (p other : Option ℕ) (c : ℕ) → p ≡ Some c → (b : ℕ) × (option_or p other ≡ Some b)
    has-first None other c at = absurd (none-some c at)
    has-first (Some b) other c at = (b, refl)

    has-second : (p other : Option ℕ) (c : ℕ) → other ≡ Some c → (b : ℕ) × (option_or p other ≡ Some b)
    has-second None other c at = (c, at)
    has-second (Some b) other c at = (b, refl)

    boards-here : may_board nw (departure_at o x.number) ≡ true → MayBoard nw q (time_at k.held) (departure_at o x.number).stop (departure_at o x.number).time → (c : ℕ) × (boarding x k ≡ Some c)
    boards-here boards may =
        let d = departure_at o x.number in
        let there : held o.entries x.number ≡ Some d = at-x.leaving.there ∙ ap Some (sym x-is) in
        let opens = (kept.opened d.stop d.time (boards-at_stop nw st o are at_stops x.number d there boards) (small x.number d there)).1 may in
        let by : is_by k.openings.times x.stop x.time ≡ true = by-is k.openings.times x.stop x.time (subst (λ b. HasArrived (time_at k.openings.times) b x.time) x-stop (subst (HasArrived (time_at k.openings.times) d.stop) x-time opens)) in
        has-second (boarding_at k.aboard x.number) (cond (is_by k.openings.times x.stop x.time) (Some x.number) None) x.number (rw by refl)

    aboard-since : (b : ℕ) → IsLastStep o b x.number → may_board nw (departure_at o b) ≡ true → MayBoard nw q (time_at k.held) (departure_at o b).stop (departure_at o b).time → (c : ℕ) × (boarding x k ≡ Some c)
    aboard-since b step boards may =
        let m = step.before in
        let first = after-first o step.stretch.0 b m step.stretch.1 in
        let last = after-last o step.stretch.0 b m step.stretch.1 in
        let since = boards-since nw st q (time_at k.held) (departure_at o b).stop (departure_at o b).time kept.scan.since may in
        let rises = (stretch-times nw st o are b m first.0 last.0 step.stretch first.1 last.1).0 in
        let time = ap (λ (d : Departure). d.time) (departure-is o b first.0 first.1) in
        let before = at-x.previous m last.0 last.1 (omega arith) step.next in
        let there = kept.aboard m b (subst (Contains (map number done)) before.2 (mapped number done before.0 before.1)) step.stretch boards may in
        has-first (boarding_at k.aboard x.number) (cond (is_by k.openings.times x.stop x.time) (Some x.number) None) there.0 (ap (boarding_at k.aboard) (sym step.next) ∙ there.1)

    -- passengers can be on this departure: then a boarding is known
    pub boarding-there : (b : ℕ) → IsStretch o b x.number → may_board nw (departure_at o b) ≡ true → MayBoard nw q (time_at k.held) (departure_at o b).stop (departure_at o b).time → (c : ℕ) × (boarding x k ≡ Some c)
    boarding-there b stretch boards may = elim (last-or-none o b x.number stretch) [
      | inl here ↦ boards-here (subst (λ n. may_board nw (departure_at o n) ≡ true) here boards) (subst (λ n. MayBoard nw q (time_at k.held) (departure_at o n).stop (departure_at o n).time) here may)
      | inr step ↦ aboard-since b step boards may
    ]

    -- and where one is known, they can
    pub boarding-right : (b : ℕ) → boarding x k ≡ Some b → IsRidden nw o k.openings b x.number
    boarding-right b at = by (boarding_at k.aboard x.number) refl at
      where
        opens-here : (y : Bool) → is_by k.openings.times x.stop x.time ≡ y → cond y (Some x.number) None ≡ Some b → IsRidden nw o k.openings b x.number
        opens-here false is at = absurd (none-some b at)
        opens-here true is at =
            let same : x.number ≡ b = same_Some x.number b at in
            let opens = by-has k.openings.times x.stop x.time is in
            let below = kept.places x.stop opens.0 opens.1 in
            subst (λ n. IsRidden nw o k.openings n x.number) same (record {
              stretch = stretch-none o x.number x-held;
              boards = lt-ltb (departure_at o x.number).stop (length nw.stops) (omega (arith, below, x-stop));
              opened = subst (λ b. HasArrived (time_at k.openings.times) b (departure_at o x.number).time) (sym x-stop) (subst (HasArrived (time_at k.openings.times) x.stop) (sym x-time) opens);
            })

        by : (p : Option ℕ) → boarding_at k.aboard x.number ≡ p → option_or p (cond (is_by k.openings.times x.stop x.time) (Some x.number) None) ≡ Some b → IsRidden nw o k.openings b x.number
        by None is at = opens-here (is_by k.openings.times x.stop x.time) refl at
        by (Some c) is at = subst (λ n. IsRidden nw o k.openings n x.number) (same_Some c b at) (kept.noted x.number c is x-held)
