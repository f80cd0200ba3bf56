-- What a scan keeps from its begin to its end, and what it then has found.
use Rattle.conn_scan.proofs.Words.{◌≡◌, ◌≢◌, ◌⊎◌, inl, inr, ℕ, zero, suc, ◌+◌, ◌≤◌, ◌<◌, nat_eq, nat_le, Bool, true, false, List, [], ◌∷◌, ◌++◌, Option, Some, None, MatchBool, IfSome, length, map, replicate, get_or, refl, sym, ◌∙◌, ap, subst, arith, All, Contains, option_map_or, both_ways, cond, cases_Bool, cases_lt, cond_both, append-nil, append_assoc, leb-true, All-contains, All-head, All-tail, get_or-replicate, get_or_past, length-replicate, none-some, same_Some, PlanRide, Query, Network, State, is_stop, is_one_station, station, IsInTime, IsRide, AreAtStops, held, Ordered, Departure, Leaving, HasArrived, IsEarly, IsFinished, IsFromOrigin, IsOpen, MayBoard, IsBestBy, at_origin, begun, cleared, boarding, arrived, departed, is_first_arrival, is_there_by, ride_by, rode, scanned, stayed, lowered, never, time_at, reached, Change, HasRoomFor, IsWithin, leaving_from, HasOpened, ride_at, Ending, Known, Openings}
use Rattle.std.proofs.lemmas.List.{map-append}
use Rattle.std.proofs.lemmas.List.Elements.{Contains-append_cases}
use Rattle.delay_model.proofs.Lists.{Contains-cases}
use Rattle.journey_laws.proofs.Beginnings.{early-before}
use Rattle.journey_laws.proofs.BestArrivals.{best-not_early}
use Rattle.journey_laws.proofs.Scanning.{boards-since}
use Rattle.conn_scan.proofs.ChangeLemmas.{IsAtOrigin, at_origin-each, at_origin-listed, change-listed, changes_of, reached-each, reached-within, stop-within}
use Rattle.conn_scan.proofs.Kept.{AreOpened, IsExplainedBy, IsKept, IsNoLater, IsSeen, best_time, mapped, number}
use Rattle.conn_scan.proofs.KeptSteps.{kept-arrives, kept-passes, kept-stays}
use Rattle.conn_scan.proofs.LeavingFrom.{IsLeavingAt, leaving-all, leaving-at}
use Rattle.conn_scan.proofs.NextDeparture.{AreNumbered}
use Rattle.conn_scan.proofs.OpeningsLemmas.{ArePlaces, length-lowered_rides, length-lowered_times, lowered-from, lowered-kept, lowered-there}
use Rattle.conn_scan.proofs.RoomLemmas.{room-departed, room-kept}
use Rattle.conn_scan.proofs.Stretches.{after-first, after-last, departure-is, ride-stretch, stretch-times}

pub never-at : (n b : ℕ) → time_at (replicate n None) b ≡ None
never-at n b = elim (cases_lt b n) [
  | inl within ↦ get_or-replicate n b None None within
  | inr past ↦ get_or_past (replicate n None) b None (let size = length-replicate {A = Option ℕ} n None in omega arith)
]

module _ (nw : Network) (st : State) (q : Query) (o : Ordered) (k : Known) (room : HasRoomFor (length nw.stops) 0 k) where
  abbrev empty : Openings
  empty = (cleared k).openings

  abbrev onward : List Change
  onward = reached (changes_of nw) q.from_stop

  abbrev first : Openings
  first = lowered q.time None onward empty

  abbrev own : List Change
  own = at_origin (changes_of nw) q

  abbrev opens : Openings
  opens = lowered q.time None own first

  nothing-held : (b t : ℕ) → time_at (replicate (length k.held) None) b ≡ Some t → ⊥
  nothing-held b t at = none-some t (sym (never-at (length k.held) b) ∙ at)

  nothing-open : (b t : ℕ) → time_at empty.times b ≡ Some t → ⊥
  nothing-open b t at = none-some t (sym (never-at (length k.openings.times) b) ∙ at)

  onward-places : ArePlaces empty onward
  onward-places = λ i c l. record {
    times = reached-within (changes_of nw) q.from_stop (length empty.times) (let size = length-replicate {A = Option ℕ} (length k.openings.times) None in let fits = room.times in omega arith) i c l;
    rides = reached-within (changes_of nw) q.from_stop (length empty.rides) (let fits = room.rides in omega arith) i c l;
  }

  own-places : ArePlaces first own
  own-places = λ i c l.
      let is = at_origin-each (changes_of nw) q i c l in
      let below = is.within in
      let size = length-replicate {A = Option ℕ} (length k.openings.times) None in
      let times = length-lowered_times q.time None onward empty in
      let rides = length-lowered_rides q.time None onward empty in
      let fits = room.times in
      let rides_fit = room.rides in
      record { times = omega arith; rides = omega arith }

  one-way : (a b : ℕ) → nat_eq (station nw.stops a) (station nw.stops b) ≡ true → is_one_station nw b a ≡ true
  one-way a b h = grind (arith, h)

  -- each way from the origin is one
  from-onward : All (λ (c : Change). IsFromOrigin nw q c.stop (q.time + c.seconds)) onward
  from-onward = λ i c l. by (is_one_station nw q.from_stop (get_or onward i c).stop) (get_or onward i c) (reached-each (changes_of nw) q.from_stop i c l).change
    where
      by : (x : Bool) (c : Change) → Rattle.delay_model.specs.Changes.change nw.stops nw.transfers nw.opts.change q.from_stop c.stop ≡ Some c.seconds → MatchBool x (q.time ≤ q.time + c.seconds) (IsInTime nw q.from_stop q.time c.stop (q.time + c.seconds))
      by true c is = omega arith
      by false c is = (c.seconds, is, omega arith)

  from-own : All (λ (c : Change). IsFromOrigin nw q c.stop (q.time + c.seconds)) own
  from-own = λ i c l.
      let is = at_origin-each (changes_of nw) q i c l in
      rw (one-way _ q.from_stop is.station) (omega arith)

  origin-later : (x : Bool) (b s t : ℕ) → s ≤ t → MatchBool x (q.time ≤ s) (IsInTime nw q.from_stop q.time b s) → MatchBool x (q.time ≤ t) (IsInTime nw q.from_stop q.time b t)
  origin-later true b s t le h = omega arith
  origin-later false b s t le h = let by = h.2 in (h.0, h.1, omega arith)

  origin-since : (x : Bool) (b t : ℕ) → MatchBool x (q.time ≤ t) (IsInTime nw q.from_stop q.time b t) → q.time ≤ t
  origin-since true b t h = h
  origin-since false b t h = let by = h.2 in omega arith

  -- what opens at first does so straight from the origin
  pub opens-straight : (b t : ℕ) → time_at opens.times b ≡ Some t → (ride_at opens b ≡ None) × IsFromOrigin nw q b t
  opens-straight b t at = elim (lowered-from q.time None (IsFromOrigin nw q) own first own-places from-own b t at) [
    | inr new ↦ new
    | inl old ↦ elim (lowered-from q.time None (IsFromOrigin nw q) onward empty onward-places from-onward b t old.0) [
      | inr new ↦ (old.1 ∙ new.0, new.1)
      | inl none ↦ absurd (nothing-open b t none.0)
    ]
  ]

  pub opens-within : (b t : ℕ) → time_at opens.times b ≡ Some t → b < length nw.stops
  opens-within b t at = elim (lowered-from q.time None (λ b t. b < length nw.stops) own first own-places (λ i c l. (at_origin-each (changes_of nw) q i c l).within) b t at) [
    | inr new ↦ new.1
    | inl old ↦ elim (lowered-from q.time None (λ b t. b < length nw.stops) onward empty onward-places (reached-within (changes_of nw) q.from_stop (length nw.stops) (omega arith)) b t old.0) [
      | inr new ↦ new.1
      | inl none ↦ absurd (nothing-open b t none.0)
    ]
  ]

  opens-origin : (x : Bool) (b t : ℕ) → is_one_station nw q.from_stop b ≡ x → is_stop nw.stops b ≡ true → t < never → MatchBool x (q.time ≤ t) (IsInTime nw q.from_stop q.time b t) → HasOpened opens b t
  opens-origin true b t one stop fits h =
      let there = All-contains (λ (c : Change). (q.time + c.seconds < never) → HasOpened opens c.stop (q.time + c.seconds)) own (record { stop = b; seconds = 0 }) (lowered-there q.time None own first own-places) (at_origin-listed (changes_of nw) q b (stop-within nw.stops b stop) (one-way q.from_stop b one)) (omega arith) in
      let le = there.2 in
      (there.0, there.1, omega arith)
  opens-origin false b t apart stop fits h =
      let ends = h.2 in
      let there = All-contains (λ (c : Change). (q.time + c.seconds < never) → HasOpened first c.stop (q.time + c.seconds)) onward (record { stop = b; seconds = h.0 }) (lowered-there q.time None onward empty onward-places) (change-listed (changes_of nw) q.from_stop b h.0 stop h.1) (omega arith) in
      let le = there.2 in
      lowered-kept q.time None own first own-places b t (there.0, there.1, omega arith)

  opens-all : (b t : ℕ) → is_stop nw.stops b ≡ true → t < never → MayBoard nw q (time_at (begun (changes_of nw) q k).held) b t → HasOpened opens b t
  opens-all b t stop fits (inl straight) = opens-origin (is_one_station nw q.from_stop b) b t refl stop fits straight
  opens-all b t stop fits (inr (a, s, at, change)) = absurd (nothing-held a s at)

  -- before the first departure
  pub kept-begun : IsKept nw st q o [] (begun (changes_of nw) q k)
  kept-begun = record {
    scan = record {
      arrivals = λ r ride seen. absurd (let l = seen.seen.1 in omega arith);
      there = λ b t at. absurd (nothing-held b t at);
      since = λ b t at. absurd (nothing-held b t at);
    };
    opened = λ b t stop fits. ((λ h. inl (origin-later (is_one_station nw q.from_stop b) b h.0 t h.2 (opens-straight b h.0 h.1).1)), opens-all b t stop fits);
    aboard = λ n b there. absurd (let l = there.1 in omega arith);
    noted = λ n b at. absurd (none-some b (sym (never-at (length k.aboard) n) ∙ at));
    explained = λ b t at. let straight = opens-straight b t at in subst (IsExplainedBy nw q o opens b t) (sym straight.0) straight.1;
    best = tt;
    stops = λ b t at. absurd (nothing-held b t at);
    places = opens-within;
  }

module _ (nw : Network) (st : State) (o : Ordered) (are : AreNumbered nw st o) (q : Query) (at_stops : AreAtStops nw.stops st) (small : (n : ℕ) (d : Departure) → held o.entries n ≡ Some d → d.time < never) where
  module _ (done : List Leaving) (x : Leaving) (rest : List Leaving) (split : leaving_from o q.time ≡ done ++ x ∷ rest) (k : Known) (kept : IsKept nw st q o (map number done) k) where
    kept-rode : (b : ℕ) → boarding x k ≡ Some b → x.next < length k.aboard → HasRoomFor (length nw.stops) 0 k → IsKept nw st q o (map number done ++ x.number ∷ []) (rode (changes_of nw) q b x k)
    kept-rode b known next room = elim (cases_Bool (is_first_arrival (length nw.stops) x k)) [
      | inl first ↦ rw first (kept-arrives nw st o are q at_stops small done x rest split k kept b known next first (let r = room.held in omega arith) (let r = room.times in omega arith) (let r = room.rides in omega arith))
      | inr late ↦ rw late (kept-stays nw st o are q at_stops small done x rest split k kept b known next late)
    ]

    kept-boards : (p : Option ℕ) → boarding x k ≡ p → x.next < length k.aboard → HasRoomFor (length nw.stops) 0 k → IsKept nw st q o (map number done ++ x.number ∷ []) (option_map_or (λ b. rode (changes_of nw) q b x k) p k)
    kept-boards None known next room = kept-passes nw st o are q at_stops small done x rest split k kept known
    kept-boards (Some b) known next room = kept-rode b known next room

    -- one departure more
    kept-departed : x.next < length k.aboard → HasRoomFor (length nw.stops) 0 k → IsKept nw st q o (map number (done ++ x ∷ [])) (departed (changes_of nw) q x k)
    kept-departed next room = subst (λ ns. IsKept nw st q o ns (departed (changes_of nw) q x k)) (sym (map-append number done (x ∷ []))) (kept-boards (boarding x k) refl next room)

  -- at the end of a scan each departure is done that is before the best arrival
  pub record IsOver (k : Known) : Type 0 where
    pub done : List ℕ
    pub kept : IsKept nw st q o done k
    pub all : (n : ℕ) (d : Departure) → held o.entries n ≡ Some d → q.time ≤ d.time → IsEarly (best_time k.best) d.time → Contains done n

  pub there-late : (best : Option Ending) (time t : ℕ) → is_there_by best time ≡ true → time ≤ t → IsEarly (best_time best) t → ⊥
  there-late None time t h le early = absurd (both_ways false refl h)
  there-late (Some e) time t h le early = omega (arith, leb-true e.time time h)

  no-room : (numbers : ℕ) (k : Known) → HasRoomFor (length nw.stops) numbers k → HasRoomFor (length nw.stops) 0 k
  no-room numbers k room = record { held = room.held; times = room.times; rides = room.rides; aboard = let fits = room.aboard in omega arith }

  pub all-done : (done : List Leaving) (k : Known) → leaving_from o q.time ≡ done → (n : ℕ) (d : Departure) → held o.entries n ≡ Some d → q.time ≤ d.time → Contains (map number done) n
  all-done done k whole n d there since =
      let y = leaving-all nw st o are q.time n d there since in
      subst (Contains (map number done)) y.2 (mapped number done y.0 (subst (λ ys. Contains ys y.0) whole y.1))

  pub early-done : (done : List Leaving) (x : Leaving) (rest : List Leaving) (k : Known) → leaving_from o q.time ≡ done ++ x ∷ rest → is_there_by k.best x.time ≡ true → (n : ℕ) (d : Departure) → held o.entries n ≡ Some d → q.time ≤ d.time → IsEarly (best_time k.best) d.time → Contains (map number done) n
  early-done done x rest k split over n d there since early =
      let y = leaving-all nw st o are q.time n d there since in
      let at = leaving-at nw st o are q.time done x rest split in
      let own = y.3 in
      elim (Contains-append_cases done (x ∷ rest) y.0 (subst (λ ys. Contains ys y.0) split y.1)) [
        | inl old ↦ subst (Contains (map number done)) y.2 (mapped number done y.0 old)
        | inr left ↦ elim (Contains-cases x rest y.0 left) [
          | inl same ↦ let time = ap (λ (y : Leaving). y.time) same in absurd (there-late k.best x.time d.time over (omega arith) early)
          | inr later ↦ let after = All-contains (λ (y : Leaving). x.time ≤ y.time) rest y.0 at.after later in absurd (there-late k.best x.time d.time over (omega arith) early)
        ]
      ]

  pub scanned-over : (numbers : ℕ) (done ds : List Leaving) (k : Known) → leaving_from o q.time ≡ done ++ ds → All (IsWithin (length nw.stops) numbers) ds → HasRoomFor (length nw.stops) numbers k → IsKept nw st q o (map number done) k → IsOver (scanned (changes_of nw) q ds k)
  scanned-over numbers done [] k split within room kept = record { done = map number done; kept = kept; all = λ n d there since early. all-done done k (split ∙ append-nil done) n d there since }
  scanned-over numbers done (x ∷ rest) k split within room kept =
      let fits = All-head (IsWithin (length nw.stops) numbers) x rest within in
      let next = fits.next in
      let rows = room.aboard in
      elim (cases_Bool (is_there_by k.best x.time)) [
        | inl over ↦ rw over (record { done = map number done; kept = kept; all = early-done done x rest k split over })
        | inr early ↦ rw early (scanned-over numbers (done ++ x ∷ []) rest (departed (changes_of nw) q x k) (split ∙ sym (append_assoc done (x ∷ []) rest)) (All-tail (IsWithin (length nw.stops) numbers) x rest within)
            (room-kept (length nw.stops) numbers k (departed (changes_of nw) q x k) (room-departed (changes_of nw) q x k) room)
            (kept-departed done x rest split k kept (omega arith) (no-room numbers k room)))
      ]

  -- a scan from its begin to its end
  pub search-over : (numbers : ℕ) (k : Known) → All (IsWithin (length nw.stops) numbers) (leaving_from o q.time) → HasRoomFor (length nw.stops) numbers k → HasRoomFor (length nw.stops) numbers (begun (changes_of nw) q k) → IsOver (scanned (changes_of nw) q (leaving_from o q.time) (begun (changes_of nw) q k))
  search-over numbers k within room begun_room =
      scanned-over numbers [] (leaving_from o q.time) (begun (changes_of nw) q k) refl within begun_room (kept-begun nw st q o k (no-room numbers k room))

  -- what is reached then is finished
  pub over-finished : is_one_station nw q.from_stop q.to_stop ≡ false → (k : Known) → IsOver k → IsFinished nw st q (best_time k.best) (time_at k.held)
  over-finished apart k over = record {
    at_once = λ one. absurd (both_ways _ apart one);
    arrivals = arrivals;
    elsewhere = elsewhere;
  }
    where
      elsewhere : (b t : ℕ) → time_at k.held b ≡ Some t → IsEarly (best_time k.best) t → is_one_station nw b q.to_stop ≡ false
      elsewhere b t at early = elim (cases_Bool (is_one_station nw b q.to_stop)) [
        | inl one ↦ let by = over.kept.scan.there b t at one in absurd (best-not_early (best_time k.best) by.0 by.1 (early-before (best_time k.best) by.0 t by.2 early))
        | inr not ↦ not
      ]

      arrivals : (r : PlanRide) → IsRide nw st r → IsOpen nw q (time_at k.held) r → IsEarly (best_time k.best) r.board_time → IsEarly (best_time k.best) r.alight_time → HasArrived (time_at k.held) r.alight_stop r.alight_time
      arrivals r ride can leaves early =
          let along = ride-stretch nw st o are at_stops r ride in
          let b = along.board in
          let e = along.last in
          let first = after-first o along.stretch.0 b e along.stretch.1 in
          let last = after-last o along.stretch.0 b e along.stretch.1 in
          let times = stretch-times nw st o are b e first.0 last.0 along.stretch first.1 last.1 in
          let rises = times.0 in
          let until = times.1 in
          let begins = ap (λ (d : Departure). d.time) (departure-is o b first.0 first.1) in
          let boards = ap (λ (r : PlanRide). r.board_time) along.is in
          let alights = ap (λ (r : PlanRide). r.alight_time) along.is in
          let since = boards-since nw st q (time_at k.held) r.board_stop r.board_time over.kept.scan.since can in
          let done = over.all e last.0 last.1 (omega arith) (early-before (best_time k.best) last.0.time r.alight_time (omega arith) early) in
          over.kept.scan.arrivals r ride (record { along = along; seen = done }) can
