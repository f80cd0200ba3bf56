-- What a search has found is the answer, and what it leaves shows that it is.
use Rattle.conn_scan.proofs.Words.{◌≡◌, ◌⊎◌, inl, inr, ℕ, ◌+◌, ◌≤◌, ◌<◌, nat_lt, Bool, true, false, List, [], ◌∷◌, Option, Some, None, MatchOption, IfSome, is_some, length, map, replicate, reverse, get_or, slice_get, refl, sym, ◌∙◌, ap, subst, arith, All, cond, cases_Bool, cond_both, All-contains, All-weaker, Contains, Contains-append_right, get_or_from_slice_get, none-some, same_Some, slice_get_within, PlanRide, Query, ChangeTables, Network, State, is_stop, is_one_station, station, nat_eq, HasNoJourney, IsEarliest, IsJourney, IsRide, IsValid, AreAtStops, held, Ordered, onward_at, Departure, Leaving, IsEarly, IsFinished, HasRoomFor, IsWithin, begun, scanned, never, time_at, IsHeld, IsStretch, departure_at, leaving_from, AreExplained, IsPossible, access_of, ride_along, ride_at, IsTakeable, LeadsTo, Ending, Known, Openings, Stretch}
use Rattle.delay_model.proofs.Bounds.{event_time-small}
use Rattle.delay_model.specs.AtStops.{IsAtStop}
use Rattle.delay_model.specs.Cuts.{after}
use Rattle.delay_model.specs.Effect.{is_call}
use Rattle.delay_model.specs.Events.{calls_of}
use Rattle.delay_model.specs.Timing.{event_time}
use Rattle.delay_model.specs.declared.state.Call.{Call}
use Rattle.delay_model.specs.declared.state.Train.{Train}
use Rattle.train_nodes.specs.Calls.{call_named, has_call}
use Rattle.timetable.specs.Onward.{IsDepartureOrder}
use Rattle.mt_base.specs.declared.certificates.Reach.{Reach}
use Rattle.delay_model.proofs.Lists.{AllPairs-nil}
use Rattle.journey_laws.specs.Certificates.{AreRidesUntil, IsEarlyStop, IsGoodCertificate, name_of}
use Rattle.journey_laws.proofs.BestArrivals.{search-certified, search-found, search-none}
use Rattle.journey_laws.proofs.Scanning.{at_once-ends}
use Rattle.conn_scan.specs.Searched.{HasFound}
use Rattle.conn_scan.specs.Stations.{HasStations}
use Rattle.conn_scan.specs.declared.known.Asked.{Asked}
use Rattle.conn_scan.specs.ScratchState.{IsAnswer, IsSettled, ScratchRoom, early_stops}
use Rattle.conn_scan.specs.Ways.{AreReadable, IsReadable, LeadsBackwards}
use Rattle.conn_scan.specs.declared.earliest_arrival.Found.{Found}
use Rattle.conn_scan.specs.declared.earliest_arrival.Found.TheVariants.{Arrives, NoWay}
use Rattle.conn_scan.proofs.ChangeLemmas.{changes_of, stop-within}
use Rattle.conn_scan.proofs.EarlyStops.{early-are, early-each, early-none, early-part}
use Rattle.conn_scan.proofs.Kept.{IsEnding, IsExplainedBy, IsKept, accesses-explained, best_time, takeable-possible}
use Rattle.conn_scan.proofs.KeptEnds.{IsOver, over-finished, search-over}
use Rattle.conn_scan.proofs.LeavingFrom.{IsLeaving, leaving-each}
use Rattle.conn_scan.proofs.NextDeparture.{AreNumbered, calls-are}
use Rattle.conn_scan.proofs.Numbered.{held-live, numbered}
use Rattle.conn_scan.proofs.RoomLemmas.{room-begun, room-kept}
use Rattle.conn_scan.proofs.Stretches.{after-first, after-last, departure-is}
use Rattle.conn_scan.proofs.TrainLine.{cut-at}
use Rattle.conn_scan.proofs.WaysBack.{leads-backwards, way-arrives}

-- what has an entry has a number within them
pub held-within : (es : List (Option Departure)) (n : ℕ) (d : Departure) → held es n ≡ Some d → n < length es
held-within es n d h = by (slice_get es n) refl h
  where
    by : (o : Option (Option Departure)) → slice_get es n ≡ o → Rattle.std.specs.Option.option_map_or (λ (entry : Option Departure). entry) o None ≡ Some d → n < length es
    by None at h = absurd (none-some d h)
    by (Some entry) at h = slice_get_within es n entry at

-- the stations that were looked up are those of the query
pub stations-are : (nw : Network) (q : Query) (t : ChangeTables) (a : Asked) → t ≡ changes_of nw → a.query ≡ q → HasStations t a → (x : Bool) → nat_eq a.origin a.destination ≡ x → is_one_station nw q.from_stop q.to_stop ≡ x
stations-are nw q t a tables own has x is = subst (λ (q : Query). is_one_station nw q.from_stop q.to_stop ≡ x) own (subst (λ (t : ChangeTables). nat_eq (station t.stops a.query.from_stop) (station t.stops a.query.to_stop) ≡ x) tables (rw (has.origin, has.destination) at is))

-- a call is at a stop of the network
pub call-within : (nw : Network) (st : State) → AreAtStops nw.stops st → (train : ℕ) (t : Train) → slice_get st.trains train ≡ Some t → (label : ℕ) (c : Call) → call_named st train label ≡ Some c → c.stop < length nw.stops
call-within nw st stops train t there label c found =
    let cut = cut-at label (calls_of st train) c found in
    let each = All-contains (λ (t : Train). All (IsAtStop nw.stops) t.calls) st.trains t stops (train, slice_get_within st.trains train t there, get_or_from_slice_get st.trains train t t there) in
    let listed = Contains-append_right cut.earlier (c ∷ after (is_call label) (calls_of st train)) c (0, omega arith, refl) in
    stop-within nw.stops c.stop (All-contains (IsAtStop nw.stops) t.calls c each (subst (λ cs. Contains cs c) (sym cut.split ∙ calls-are st train t there) listed))

-- where origin and destination are of one station there is nothing to look for
pub found-at_once : (nw : Network) (st : State) (q : Query) (n : ℕ) → IsValid nw st → is_one_station nw q.from_stop q.to_stop ≡ true → HasFound nw st q (Arrives q.time) [] (replicate n None)
found-at_once nw st q n valid one =
    let done = at_once-ends nw st q valid one in
    let none = early-none (Some q.time) n 0 in
    record {
      answer = search-found nw st q valid (λ b. None) [] q.time done (one, refl);
      settled = λ room. record {
        certificate = rw none (search-certified nw st q (Some q.time) (λ b. None) (record { arrives = Some q.time; rides = []; reached = [] }) done refl ([], refl, (one, refl)) (AllPairs-nil (λ (x y : Reach). x.stop < y.stop), nothing (IsEarlyStop nw (Some q.time))) (λ b t. ((λ h. absurd (none-some t h)), (λ h. absurd (none-some t h.0)))));
        since = rw none (nothing (λ (x : Reach). q.time ≤ x.time));
      };
    }
  where
    nothing : {X : Type 0} (P : X → Type 0) → All P []
    nothing P = λ i d l. absurd (omega arith)

module _ (nw : Network) (st : State) (o : Ordered) (valid : IsValid nw st) (at_stops : AreAtStops nw.stops st) (order : IsDepartureOrder nw st o) where
  pub are : AreNumbered nw st o
  are = numbered nw st o valid order

  -- departures have times that fit
  pub times-fit : (n : ℕ) (d : Departure) → held o.entries n ≡ Some d → d.time < never
  times-fit n d there =
      let live = held-live nw st o valid order n d there in
      let small = event_time-small nw st valid live.event live.there in
      let same = live.time ∙ ap (event_time nw st) (sym live.key) in
      omega arith

  -- what a scan comes to is within the tables
  pub departures-within : ((n : ℕ) → n < length o.entries → (onward_at o n).next ≤ length o.entries) → (time : ℕ) → All (IsWithin (length nw.stops) (length o.entries)) (leaving_from o time)
  departures-within past time = All-weaker (IsLeaving o time) (IsWithin (length nw.stops) (length o.entries)) (λ x is.
      let d = is.departure in
      let own = held-within o.entries x.number d is.there in
      let next = past x.number own in
      let goes = ap (λ (w : Rattle.dep_order.specs.declared.departure.Onward.Onward). w.next) is.onward in
      let stop = is.stop in
      let below = stop-below d x.number is.there in
      record { number = own; next = omega arith; stop = omega arith }) (leaving_from o time) (leaving-each nw st o are time)
    where
      stop-below : (d : Departure) (n : ℕ) → held o.entries n ≡ Some d → d.stop ≤ length nw.stops
      stop-below d n there =
          let at = are.each n d there in
          let within = call-within nw st at_stops d.key.train at.train at.is_train d.key.label at.call at.found in
          cond_both at.call.board at.call.stop (length nw.stops) (λ s. d.stop ≡ s → d.stop ≤ length nw.stops) (λ _ same. omega arith) (λ _ same. omega arith) at.stop

  -- the search is over
  pub search-is : (q : Query) (t : ChangeTables) (asked : Query) (old k : Known) → ((n : ℕ) → n < length o.entries → (onward_at o n).next ≤ length o.entries) → t ≡ changes_of nw → asked ≡ q → HasRoomFor (length nw.stops) (length o.entries) old → k ≡ scanned t asked (leaving_from o asked.time) (begun t asked old) → IsOver nw st o are q at_stops times-fit k
  search-is q t asked old k past tables own room is =
      let begins = room-kept (length nw.stops) (length o.entries) old (begun (changes_of nw) q old) (room-begun (changes_of nw) q old) room in
      let all : k ≡ scanned (changes_of nw) q (leaving_from o q.time) (begun (changes_of nw) q old) = is ∙ (λ i. scanned (tables i) (own i) (leaving_from o (own i).time) (begun (tables i) (own i) old)) in
      subst (IsOver nw st o are q at_stops times-fit) (sym all) (search-over nw st o are q at_stops times-fit (length o.entries) old (departures-within past q.time) room begins)

  module _ (q : Query) (k : Known) (over : IsOver nw st o are q at_stops times-fit k) where
    stretch-readable : (b e : ℕ) → IsStretch o b e → IsReadable st o (record { first = b; last = e })
    stretch-readable b e h =
        let last = after-last o h.0 b e h.1 in
        let at = are.each e last.0 last.1 in
        record {
          first = after-first o h.0 b e h.1;
          last = last;
          call = subst (λ (d : Departure). has_call st d.key.train d.key.label ≡ true) (sym (departure-is o e last.0 last.1)) (ap is_some at.found);
        }

    -- rides that are noted can be looked up
    pub rides-readable : AreReadable st o k.openings
    rides-readable b t r at behind = stretch-readable r.first r.last (takes (ride_at k.openings b) behind (over.kept.explained b t at)).ridden.stretch
      where
        takes : (x : Option Stretch) → x ≡ Some r → IsExplainedBy nw q o k.openings b t x → IsTakeable nw o k.openings r
        takes None is h = absurd (none-some r is)
        takes (Some s) is h = subst (IsTakeable nw o k.openings) (same_Some s r is) h.0

    explained : AreExplained nw st q (access_of st o k.openings)
    explained = accesses-explained nw st o are q k.openings over.kept.explained

    pub rides-backwards : LeadsBackwards nw st (access_of st o k.openings)
    rides-backwards = leads-backwards nw st q (access_of st o k.openings) explained valid

    module _ (apart : is_one_station nw q.from_stop q.to_stop ≡ false) where
      done : IsFinished nw st q (best_time k.best) (time_at k.held)
      done = over-finished nw st o are q at_stops times-fit apart k over

      certified : (best : Option ℕ) (rides : List PlanRide) → best_time k.best ≡ best → AreRidesUntil nw st q best (map name_of rides) → IsGoodCertificate nw st q (record { arrives = best; rides = map name_of rides; reached = early_stops best k.held })
      certified best rides is journey =
          search-certified nw st q best (time_at k.held) (record { arrives = best; rides = map name_of rides; reached = early_stops best k.held })
          (subst (λ b. IsFinished nw st q b (time_at k.held)) is done) refl journey (early-are nw best k.held over.kept.stops) (early-part best k.held)

      since : (best : Option ℕ) → All (λ (x : Reach). q.time ≤ x.time) (early_stops best k.held)
      since best = early-each (λ (x : Reach). q.time ≤ x.time) best 0 k.held (λ b t at early. over.kept.scan.since b t at)

      -- without a best arrival there is no journey
      pub found-none : k.best ≡ None → HasFound nw st q NoWay [] k.held
      found-none none =
          let is = ap best_time none in
          record {
            answer = (refl, search-none nw st q valid (time_at k.held) (subst (λ b. IsFinished nw st q b (time_at k.held)) is done));
            settled = λ room. record { certificate = certified None [] is refl; since = since None };
          }

      ending : (e : Ending) → k.best ≡ Some e → IsEnding nw q o k.openings e
      ending e is = by k.best is over.kept.best
        where
          by : (x : Option Ending) → x ≡ Some e → IfSome x (IsEnding nw q o k.openings) → IsEnding nw q o k.openings e
          by None is h = absurd (none-some e is)
          by (Some f) is h = subst (IsEnding nw q o k.openings) (same_Some f e is) h

      pub last-readable : (e : Ending) → k.best ≡ Some e → IsReadable st o e.ride
      last-readable e is = stretch-readable e.ride.first e.ride.last (ending e is).takeable.ridden.stretch

      pub last-possible : (e : Ending) → k.best ≡ Some e → IsPossible nw st (access_of st o k.openings) (ride_along st o e.ride)
      last-possible e is = takeable-possible nw st o are k.openings e.ride (ending e is).takeable

      -- with one, the rides on the way back from its ride are an earliest journey
      pub found-journey : (e : Ending) → k.best ≡ Some e → (rides : List PlanRide) → LeadsTo (access_of st o k.openings) (ride_along st o e.ride) rides → HasFound nw st q (Arrives e.time) rides k.held
      found-journey e is rides way =
          let ends = ending e is in
          let best = ap best_time is in
          let by = way-arrives nw st q (access_of st o k.openings) explained way.0 (ride_along st o e.ride) (last-possible e is) way.1 ends.there in
          let journey : IsJourney nw st q rides e.time = subst (λ rs. IsJourney nw st q rs e.time) (sym way.2) (subst (IsJourney nw st q (reverse (ride_along st o e.ride ∷ way.0))) ends.time by) in
          record {
            answer = search-found nw st q valid (time_at k.held) rides e.time (subst (λ b. IsFinished nw st q b (time_at k.held)) best done) journey;
            settled = λ room. record { certificate = certified (Some e.time) rides best (rides, refl, journey); since = since (Some e.time) };
          }
