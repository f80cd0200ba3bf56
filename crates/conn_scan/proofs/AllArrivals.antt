-- Of stops that are reached, a scan of the departures says whether an arrival is missing.
use Rattle.conn_scan.proofs.Words.{◌≡◌, inl, inr, ℕ, ◌≤◌, ◌<◌, true, List, [], ◌∷◌, Option, Some, None, length, replicate, get_or, refl, sym, ◌∙◌, ap, subst, arith, All, option_map_or, slice_get, cases_Bool, cases_lt, All-cons, All-contains, All-nil, All-weaker, All-get_or, get_or-replicate, get_or_past, get_or_from_slice_get, length-replicate, none-some, slice_get_within, Query, Network, State, AreAtStops, IsValid, is_stop, held, Ordered, Departure, HasArrivals, IsFromOrigin, MayBoard, HasRoomFor, HasSameRoom, IsWithin, begun, boarding_at, never, time_at, leaving_from, Known, HasOpened}
use Rattle.std.specs.Prelude.{◌↔◌, min}
use Rattle.mt_base.specs.declared.certificates.Reach.{Reach}
use Rattle.delay_model.specs.AtStops.{IsAtStop}
use Rattle.delay_model.specs.declared.state.Train.{Train}
use Rattle.delay_model.specs.Effect.{is_call}
use Rattle.delay_model.specs.Events.{calls_of}
use Rattle.delay_model.specs.Timing.{event_time}
use Rattle.delay_model.proofs.Bounds.{event_time-small}
use Rattle.journey_laws.specs.Certificates.{AreEarlyStops, IsEarlyStop, time_in}
use Rattle.journey_laws.proofs.CheckedLemmas.{find-some}
use Rattle.journey_laws.proofs.Scanning.{boards-since}
use Rattle.timetable.specs.Onward.{IsDepartureOrder}
use Rattle.conn_scan.specs.Arrivals.{first_time, has_all, noted, noted_one}
use Rattle.conn_scan.proofs.ChangeLemmas.{changes_of, stop-within}
use Rattle.conn_scan.proofs.KeptEnds.{kept-begun}
use Rattle.conn_scan.proofs.LeavingFrom.{IsLeaving, leaving-each}
use Rattle.conn_scan.proofs.Missing.{IsKnown, arrivals-there, none-aboard, there-arrivals}
use Rattle.conn_scan.proofs.NextDeparture.{AreNumbered}
use Rattle.conn_scan.proofs.Noted.{HasRows, are-noted, listed}
use Rattle.conn_scan.proofs.Numbered.{held-live}
use Rattle.conn_scan.proofs.RoomLemmas.{room-begun}

never-at : (n b : ℕ) → get_or {A = Option ℕ} (replicate n None) b None ≡ None
never-at n b = elim (cases_lt b n) [
  | inl within ↦ get_or-replicate n b None None within
  | inr past ↦ get_or_past (replicate n None) b None (let size = length-replicate {A = Option ℕ} n None in omega arith)
]

-- the first time is no later than any
pub first-least : (time : ℕ) (xs : List Reach) → (first_time time xs ≤ time) × All (λ (x : Reach). first_time time xs ≤ x.time) xs
first-least time [] = (omega arith, All-nil (λ (x : Reach). time ≤ x.time))
first-least time (x ∷ xs) =
    let rest = first-least (min time x.time) xs in
    let le = rest.0 in
    (omega arith, All-cons (λ (y : Reach). first_time (min time x.time) xs ≤ y.time) x xs (omega arith) rest.1)

noted-aboard : (nw : Network) (xs : List Reach) (k : Known) → (noted (changes_of nw) xs k).aboard ≡ k.aboard
noted-aboard nw [] k = refl
noted-aboard nw (x ∷ xs) k = noted-aboard nw xs (noted_one (changes_of nw) x k)

all-calls : (nw : Network) (st : State) → AreAtStops nw.stops st → (train : ℕ) → All (IsAtStop nw.stops) (calls_of st train)
all-calls nw st at_stops train = by (slice_get st.trains train) refl
  where
    by : (o : Option Train) → slice_get st.trains train ≡ o → All (IsAtStop nw.stops) (option_map_or (λ (t : Train). t.calls) o [])
    by None there = All-nil (IsAtStop nw.stops)
    by (Some t) there =
        let Each : Train → Type 0 = λ t. All (IsAtStop nw.stops) t.calls in
        subst Each (get_or_from_slice_get st.trains train t t there) (All-get_or Each st.trains train t (slice_get_within st.trains train t there) at_stops)

module _ (nw : Network) (st : State) (o : Ordered) (valid : IsValid nw st) (is : IsDepartureOrder nw st o) (are : AreNumbered nw st o) (at_stops : AreAtStops nw.stops st) where
  -- the times of departures fit
  pub times-small : (n : ℕ) (d : Departure) → held o.entries n ≡ Some d → d.time < never
  times-small n d there =
      let live = held-live nw st o valid is n d there in
      let small = event_time-small nw st valid live.event live.there in
      let key = ap (event_time nw st) live.key in
      let time = live.time in
      omega arith

  stop-fits : (n : ℕ) (d : Departure) → held o.entries n ≡ Some d → d.stop ≤ length nw.stops
  stop-fits n d there =
      let at = are.each n d there in
      elim (cases_Bool at.call.board) [
        | inr shut ↦ let same : d.stop ≡ length nw.stops = at.stop ∙ (rw shut refl) in omega arith
        | inl may ↦
            let same : d.stop ≡ at.call.stop = at.stop ∙ (rw may refl) in
            let listed = find-some (is_call d.key.label) (calls_of st d.key.train) at.call at.found in
            let below = stop-within nw.stops at.call.stop (All-contains (IsAtStop nw.stops) (calls_of st d.key.train) at.call (all-calls nw st at_stops d.key.train) listed.0) in
            omega arith
      ]

  -- so do the numbers of departures
  pub all-within : (time : ℕ) → All (IsWithin (length nw.stops) (length o.entries)) (leaving_from o time)
  all-within time = All-weaker (IsLeaving o time) (IsWithin (length nw.stops) (length o.entries)) (λ x h. record {
    number = h.within;
    next = h.next_within;
    stop = let fits = stop-fits x.number h.departure h.there in let same = h.stop in omega arith;
  }) (leaving_from o time) (leaving-each nw st o are time)

  module _ (q : Query) (best : Option ℕ) (list : List Reach) (early : AreEarlyStops nw best list) (k : Known) (room : HasRoomFor (length nw.stops) (length o.entries) k) where
    abbrev first : ℕ
    first = first_time q.time list

    abbrev start : Known
    start = begun (changes_of nw) q k

    stops-fit : All (λ (x : Reach). x.stop < length nw.stops) list
    stops-fit = All-weaker (IsEarlyStop nw best) (λ (x : Reach). x.stop < length nw.stops) (λ x h. stop-within nw.stops x.stop h.0) list early.1

    few : HasRoomFor (length nw.stops) 0 k
    few = record { held = room.held; times = room.times; rides = room.rides; aboard = let fits = room.aboard in omega arith }

    same-room : HasSameRoom k start
    same-room = room-begun (changes_of nw) q k

    rows : HasRows nw start
    rows = record {
      held = let same = same-room.held in let fits = room.held in omega arith;
      times = let same = same-room.times in let fits = room.times in omega arith;
      rides = let same = same-room.rides in let fits = room.rides in omega arith;
    }

    straight : (b t : ℕ) → MayBoard nw q (time_at start.held) b t → IsFromOrigin nw q b t
    straight b t (inl way) = way
    straight b t (inr (a, s, at, change)) = absurd (none-some s (sym (never-at (length k.held) a) ∙ at))

    opened : (b t : ℕ) → is_stop nw.stops b ≡ true → t < never → (HasOpened start.openings b t → IsFromOrigin nw q b t) × (IsFromOrigin nw q b t → HasOpened start.openings b t)
    opened b t stop fits = let both = (kept-begun nw st q o k few).opened b t stop fits in ((λ h. straight b t (both.0 h)), (λ way. both.1 (inl way)))

    since : (b t : ℕ) → MayBoard nw q (time_in list) b t → first ≤ t
    since b t (inl way) = let le = boards-since nw st q (λ b. None) b t (λ a s at. absurd (none-some s at)) (inl way) in let least = (first-least q.time list).0 in omega arith
    since b t (inr (a, s, at, change)) =
        let x = listed list a s at in
        let least = All-contains (λ (x : Reach). first ≤ x.time) list x.0 (first-least q.time list).1 x.1 in
        let time = x.3 in
        let until = change.2 in
        omega arith

    known : IsKnown nw st o q (time_in list) valid are at_stops times-small first since (length nw.stops) best [] (noted (changes_of nw) list start)
    known = record {
      noted = are-noted nw q list early.0 stops-fit start rows (λ b. never-at (length k.held) b) (kept-begun nw st q o k few).places opened;
      aboard = none-aboard nw st o q (time_in list) valid are at_stops times-small first since (noted (changes_of nw) list start).aboard (λ n. ap (λ list. boarding_at list n) (noted-aboard nw list start) ∙ never-at (length k.aboard) n);
      room = let same = ap length (noted-aboard nw list start) in let size = same-room.aboard in let fits = room.aboard in omega arith;
    }

    -- none is missing exactly where each ride that can be boarded has its arrival
    pub says-arrivals : (has_all (length nw.stops) best (leaving_from o first) (noted (changes_of nw) list start) ≡ true) ↔ HasArrivals nw st q best (time_in list) (time_in list)
    says-arrivals = (
      arrivals-there nw st o q (time_in list) valid are at_stops times-small first since best (noted (changes_of nw) list start) known,
      there-arrivals nw st o q (time_in list) valid are at_stops times-small first since best (noted (changes_of nw) list start) known,
    )
