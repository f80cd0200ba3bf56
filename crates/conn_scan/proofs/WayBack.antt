-- The way back from a ride, one ride after the other, and that it has an end.
use Rattle.conn_scan.proofs.Words.{◌≡◌, ◌≢◌, inl, inr, ℕ, zero, suc, ◌+◌, ◌<◌, ◌≤◌, List, [], ◌∷◌, ◌++◌, length, map, reverse, Option, Some, None, refl, sym, ◌∙◌, ap, subst, arith, append-nil, append_assoc, All, AllPairs, option_and_then, option_map_or, eqb-true, length-map, All-cons, All-contains, All-map, All-nil, All-weaker, PlanRide, Network, State, AreAtStops, Access, ride_before, CanBoard, IsPossible, IsWayBack, LeadsTo}
use Rattle.conn_scan.specs.Ways.{LeadsBackwards}
use Rattle.std.proofs.Math.Dec.{eqb}
use Rattle.std.proofs.lemmas.Bool.Decides.{Decides-eqb}
use Rattle.std.proofs.lemmas.List.{length-append}
use Rattle.std.proofs.lemmas.List.Folds.{Any-from_list_any}
use Rattle.std.proofs.lemmas.List.Kept.{AllPairs-cons}
use Rattle.std.proofs.lemmas.Map.Made.{IsDistinct-from_AllPairs}
use Rattle.std.proofs.lemmas.Map.Steps.{length-le_from_distinct_below}
use Rattle.delay_model.proofs.Lists.{AllPairs-nil}
use Rattle.change_times.proofs.WalkLemmas.{cases-option}
use Rattle.edge_rules.proofs.EventChanges.{AllPairs-map}
use Rattle.journey_laws.proofs.Forward.{ride-at_stop}
use Rattle.conn_scan.proofs.ChangeLemmas.{stop-within}

-- these rides, the latest first, lead back from one to another
abbrev pub LeadsBack : (ℕ → Option Access) → PlanRide → List PlanRide → PlanRide → Type 0
LeadsBack access r rides last = (rest : List PlanRide) → IsWayBack access last rest → IsWayBack access r (rides ++ rest)

leads-more : (access : ℕ → Option Access) (r : PlanRide) (rides : List PlanRide) (last before : PlanRide) → LeadsBack access r rides last → ride_before access last ≡ Some before → LeadsBack access r (rides ++ before ∷ []) before
leads-more access r rides last before leads at = λ rest way. subst (IsWayBack access r) (sym (append_assoc rides (before ∷ []) rest)) (leads (before ∷ rest) (at, way))

leads-all : (access : ℕ → Option Access) (r : PlanRide) (rides : List PlanRide) (last : PlanRide) → LeadsBack access r rides last → ride_before access last ≡ None → IsWayBack access r rides
leads-all access r rides last leads at = subst (IsWayBack access r) (append-nil rides) (leads [] at)

-- rides that are boarded at different stops are no more than there are stops
apart-fit : (rs : List PlanRide) (n : ℕ) → AllPairs (λ (a b : PlanRide). a.board_stop ≢ b.board_stop) rs → All (λ (r : PlanRide). r.board_stop < n) rs → length rs ≤ n
apart-fit rs n apart within =
    let stop_of : PlanRide → ℕ = λ r. r.board_stop in
    let stops = map stop_of rs in
    let below = All-map (λ b. b < n) stop_of rs within in
    let few = length-le_from_distinct_below stops n (IsDistinct-from_AllPairs Decides-eqb stops (AllPairs-map (λ a b. a ≢ b) stop_of rs apart)) (λ q member.
    let one = Any-from_list_any (eqb q) stops member in
    let at = All-contains (λ b. b < n) stops one.1 below (one.0, one.2, one.3) in
    let same = eqb-true q one.1 one.4 in
    omega arith) in
    omega (arith, few, length-map rs stop_of)

module _ (nw : Network) (st : State) (access : ℕ → Option Access) (backwards : LeadsBackwards nw st access) where
  -- the way back from a ride that departs before time `end` has an end
  pub way-back : (end : ℕ) (r : PlanRide) → r.board_time < end → CanBoard access r → (rides : List PlanRide) × IsWayBack access r rides
  way-back zero r early can = absurd (omega arith)
  way-back (suc end) r early can = elim (cases-option (ride_before access r)) [
    | inl first ↦ ([], first)
    | inr before ↦
        let last = backwards r before.0 can before.1 in
        let rest = way-back end before.0 (omega arith) last.1 in
        (before.0 ∷ rest.0, (before.1, rest.1))
  ]

  -- a ride that the passenger can take, no later than another
  abbrev IsUntil : ℕ → PlanRide → Type 0
  IsUntil t s = IsPossible nw st access s × (s.board_time ≤ t)

  way-each : (way : List PlanRide) (r : PlanRide) → IsWayBack access r way → IsPossible nw st access r → All (IsUntil r.board_time) (r ∷ way)
  way-each [] r back possible = All-cons (IsUntil r.board_time) r [] (possible, omega arith) (All-nil (IsUntil r.board_time))
  way-each (b ∷ way) r back possible =
      let before = backwards r b possible.1 back.0 in
      All-cons (IsUntil r.board_time) r (b ∷ way) (possible, omega arith)
      (All-weaker (IsUntil b.board_time) (IsUntil r.board_time) (λ s h. let until = h.1 in let earlier = before.2 in (h.0, omega arith)) (b ∷ way) (way-each way b back.1 (before.0, before.1)))

  -- no two rides of the way back are boarded at one stop, since behind a stop there is one ride
  way-apart : (way : List PlanRide) (r : PlanRide) → IsWayBack access r way → IsPossible nw st access r → AllPairs (λ (a b : PlanRide). a.board_stop ≢ b.board_stop) (r ∷ way)
  way-apart [] r back possible = AllPairs-cons (λ (a b : PlanRide). a.board_stop ≢ b.board_stop) r [] (All-nil (λ (s : PlanRide). r.board_stop ≢ s.board_stop)) (AllPairs-nil (λ (a b : PlanRide). a.board_stop ≢ b.board_stop))
  way-apart (b ∷ way) r back possible =
      let before = backwards r b possible.1 back.0 in
      let each = way-each way b back.1 (before.0, before.1) in
      AllPairs-cons (λ (a b : PlanRide). a.board_stop ≢ b.board_stop) r (b ∷ way)
      (All-weaker (IsUntil b.board_time) (λ (s : PlanRide). r.board_stop ≢ s.board_stop) (λ s h same.
      let at : ride_before access s ≡ Some b = ap (λ stop. option_and_then (λ (a : Access). a.ride) (access stop)) (sym same) ∙ back.0 in
      let earlier = (backwards s b h.0.1 at).2 in
      let until = h.1 in
      absurd (omega arith)) (b ∷ way) each)
      (way-apart way b back.1 (before.0, before.1))

  -- so it has no more rides than there are stops
  way-short : AreAtStops nw.stops st → (way : List PlanRide) (r : PlanRide) → IsWayBack access r way → IsPossible nw st access r → length (r ∷ way) ≤ length nw.stops
  way-short at_stops way r back possible =
      apart-fit (r ∷ way) (length nw.stops) (way-apart way r back possible)
      (All-weaker (IsUntil r.board_time) (λ (s : PlanRide). s.board_stop < length nw.stops) (λ s h. stop-within nw.stops s.board_stop (ride-at_stop nw st at_stops s h.0.0)) (r ∷ way) (way-each way r back possible))

-- these rides are the way back so far, and `before` is the next one
pub record IsOnWay (access : ℕ → Option Access) (last : PlanRide) (rides : List PlanRide) (before : Option PlanRide) : Type 0 where
  pub done : List PlanRide
  pub ride : PlanRide
  pub leads : LeadsBack access last done ride
  pub split : rides ≡ last ∷ done
  pub can : CanBoard access ride
  pub next : before ≡ ride_before access ride

-- what falls with each ride
abbrev pub left_of : Option PlanRide → ℕ
left_of before = option_map_or (λ (r : PlanRide). r.board_time + 1) before 0

module _ (access : ℕ → Option Access) (last : PlanRide) where
  pub way-ends : (rides : List PlanRide) → IsOnWay access last rides None → LeadsTo access last (reverse rides)
  way-ends rides way = (way.done, leads-all access last way.done way.ride way.leads (sym way.next), ap reverse way.split)

  module _ (nw : Network) (st : State) (backwards : LeadsBackwards nw st access) where
    earlier : (r : PlanRide) (o : Option PlanRide) → CanBoard access r → ride_before access r ≡ o → left_of o < r.board_time + 1
    earlier r None can at = omega arith
    earlier r (Some before) can at =
        let step = backwards r before can at in omega arith

    pub way-can : (rides : List PlanRide) (r : PlanRide) → IsOnWay access last rides (Some r) → CanBoard access r
    way-can rides r way = (backwards way.ride r way.can (sym way.next)).1

    pub way-more : (rides new : List PlanRide) (r : PlanRide) (before : Option PlanRide) → IsOnWay access last rides (Some r) → new ≡ rides ++ r ∷ [] → before ≡ ride_before access r → IsOnWay access last new before
    way-more rides new r before way pushed next =
        record {
          done = way.done ++ r ∷ [];
          ride = r;
          leads = leads-more access last way.done way.ride r way.leads (sym way.next);
          split = pushed ∙ ap (λ rs. rs ++ r ∷ []) way.split;
          can = way-can rides r way;
          next = next;
        }

    pub way-smaller : (rides : List PlanRide) (r : PlanRide) (before : Option PlanRide) → IsOnWay access last rides (Some r) → before ≡ ride_before access r → left_of before < r.board_time + 1
    way-smaller rides r before way next = earlier r before (way-can rides r way) (sym next)

    -- there is room for the last ride, and for one more where there is one
    pub last-fits : AreAtStops nw.stops st → IsPossible nw st access last → 0 < length nw.stops
    last-fits at_stops possible = let within = stop-within nw.stops last.board_stop (ride-at_stop nw st at_stops last possible.0) in omega arith

    pub way-fits : AreAtStops nw.stops st → IsPossible nw st access last → (rides : List PlanRide) (r : PlanRide) → IsOnWay access last rides (Some r) → length rides < length nw.stops
    way-fits at_stops possible rides r way =
        let rest = way-back nw st access backwards (r.board_time + 1) r (omega arith) (way-can rides r way) in
        let whole = way.leads (r ∷ rest.0) (sym way.next, rest.1) in
        let short = way-short nw st access backwards at_stops (way.done ++ r ∷ rest.0) last whole possible in
        omega (arith, short, ap length way.split, length-append way.done (r ∷ rest.0))
