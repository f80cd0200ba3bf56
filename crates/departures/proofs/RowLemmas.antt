-- A departure that is shown, and its row.
use Rattle.std.proofs.Common.{◌≡◌, inl, inr, ℕ, ◌≤◌, ◌<◌, Bool, true, false, cond, List, [], ◌∷◌}
use Rattle.std.proofs.Common.{◌++◌, Option, Some, None, find, length, slice_get, nat_eq, refl, sym, ◌∙◌, ap, subst, arith}
use Rattle.std.specs.List.{All, Contains}
use Rattle.std.specs.Option.{option_map_or}
use Rattle.std.proofs.lemmas.Bool.{and_from, and_parts, cases_Bool, lt-ltb}
use Rattle.std.proofs.lemmas.List.Elements.{All-contains, All-get_or, Contains-append_right}
use Rattle.std.proofs.lemmas.Option.{get_or_from_slice_get, slice_get_within}
use Rattle.timetable.proofs.Words.{ltb-true}
use Rattle.mt_base.specs.declared.keys.Key.{Key}
use Rattle.mt_base.specs.declared.tables.StopRow.{StopRow}
use Rattle.mt_base.specs.Order.{node_of}
use Rattle.delay_model.specs.declared.network.Network.{Network}
use Rattle.delay_model.specs.declared.state.Call.{Call}
use Rattle.delay_model.specs.declared.state.Event.{Event}
use Rattle.delay_model.specs.declared.state.Train.{Train}
use Rattle.delay_model.specs.declared.state.State.{State}
use Rattle.delay_model.specs.AtStops.{AreAtStops, IsAtStop}
use Rattle.delay_model.specs.Changes.{is_stop, station}
use Rattle.delay_model.specs.Cuts.{after}
use Rattle.delay_model.specs.Effect.{is_call}
use Rattle.delay_model.specs.Events.{calls_of, departure_of, event_by, event_named, events}
use Rattle.delay_model.specs.Timing.{event_time}
use Rattle.delay_model.specs.Valid.{HasDistinctLabels, IsRun, IsTrain, IsValid}
use Rattle.train_nodes.specs.Calls.{call_named, has_call, values_of}
use Rattle.edge_rules.proofs.Neighbours.{each-named, named-at}
use Rattle.dep_order.specs.declared.departure.Departure.{Departure}
use Rattle.timetable.specs.Departures.{IsDeparture, boarding_stop, departing, live_departures}
use Rattle.dep_order.specs.Departing.{held}
use Rattle.dep_order.specs.Ordered.{Ordered}
use Rattle.timetable.specs.Onward.{IsDepartureOrder}
use Rattle.timetable.proofs.Departing.{call-there, departs-each, departs-in}
use Rattle.timetable.proofs.HeldLemmas.{held-listed}
use Rattle.timetable.proofs.LiveCalls.{call-event, labels-own}
use Rattle.board_laws.specs.declared.rows.BoardRow.{BoardRow}
use Rattle.board_laws.specs.Boards.{IsRow, goes_to}
use Rattle.board_laws.proofs.RowLemmas.{reaches-one, row-is, shown-by}
use Rattle.departures.specs.Rows.{goes_from, is_of_station}
use Rattle.journey_laws.proofs.RideLemmas.{is-at, labelled}

-- the row of a departure
abbrev pub shown_row : State → Departure → BoardRow
shown_row st d = record { event = d.key; time = d.time; stop = d.stop; to = goes_from st d.key }

-- the call of a live departure, of its train
record IsCallOf (st : State) (k : Key) : Type 0 where
  train : Train
  is_train : slice_get st.trains k.train ≡ Some train
  call : Call
  found : find (is_call k.label) train.calls ≡ Some call
  key : (departure_of k.train train.route call).key ≡ k
  live : call.departure.live ≡ true

call-of : (st : State) → All IsTrain st.trains → (v : Event) → Contains (events st) v → v.key.dep ≡ true → v.live ≡ true → IsCallOf st v.key
call-of st trains v there departs live =
    let named = All-contains (λ v. event_named st (node_of v.key) ≡ Some v) (events st) v (each-named st (labels-own st trains)) there in
    let at = named-at st (node_of v.key) v named in
    let n = v.key.train in
    let is : v ≡ departure_of n at.train.route at.call =
    subst (λ x. v ≡ event_by n at.train.route at.call.label at.call.stop x (values_of x at.call)) departs at.event in
    record {
      train = at.train;
      is_train = at.there;
      call = at.call;
      found = at.found;
      key = ap (λ (v : Event). v.key) (sym is);
      live = sym (ap (λ (v : Event). v.live) is) ∙ live;
    }

run-after : (b : Bool) (before : List Call) (c : Call) (cs : List Call) → IsRun b (before ++ c ∷ cs) → IsRun c.departure.live cs
run-after b [] c cs run = run.1
run-after b (d ∷ before) c cs run = run-after d.departure.live before c cs run.1

good-train : (st : State) → All IsTrain st.trains → (train : ℕ) (t : Train) → slice_get st.trains train ≡ Some t → IsTrain t
good-train st trains train t there =
    subst IsTrain (get_or_from_slice_get st.trains train t t there) (All-get_or IsTrain st.trains train t (slice_get_within st.trains train t there) trains)

calls-are : (st : State) (train : ℕ) (t : Train) → slice_get st.trains train ≡ Some t → calls_of st train ≡ t.calls
calls-are st train t there = ap (λ o. option_map_or (λ (t : Train). t.calls) o []) there

-- the call of a departure that has a number is there
pub held-call : (nw : Network) (st : State) (o : Ordered) → IsValid nw st → IsDepartureOrder nw st o → (n : ℕ) (d : Departure) → held o.entries n ≡ Some d
    → has_call st d.key.train d.key.label ≡ true
held-call nw st o valid is n d at =
    let listed = subst (λ ds. Contains ds d) (sym is.entries ∙ is.departures) (held-listed o.entries n d at) in
    let live = All-contains (IsDeparture nw st) (live_departures nw st) d (departs-each nw st) listed in
    subst (λ (k : Key). has_call st k.train k.label ≡ true) live.key (call-there st live.event live.there valid.trains)

-- where passengers may board the departure of a call
boarding-is : (nw : Network) (st : State) (k : Key) (c : Call) → call_named st k.train k.label ≡ Some c
    → boarding_stop nw st k ≡ cond c.board c.stop (length nw.stops)
boarding-is nw st k c named =
    ap (λ o. cond (option_map_or (λ (c : Call). c.board) o false) (option_map_or (λ (c : Call). c.stop) o 0) (length nw.stops)) named

-- where the train goes from the departure of a call
goes-is : (st : State) (k : Key) (t : Train) (c : Call) → slice_get st.trains k.train ≡ Some t → call_named st k.train k.label ≡ Some c
    → goes_from st k ≡ goes_to c.stop (after (is_call k.label) t.calls)
goes-is st k t c there named =
    ap (λ o. goes_to (option_map_or (λ (c : Call). c.stop) o 0) (after (is_call k.label) (calls_of st k.train))) named
    ∙ ap (λ cs. goes_to c.stop (after (is_call k.label) cs)) (calls-are st k.train t there)

-- a departure whose stop is one of the station has a row there
pub departure-row : (nw : Network) (st : State) → IsValid nw st → (place since : ℕ) (d : Departure) → IsDeparture nw st d
    → is_of_station nw (station nw.stops place) d.stop ≡ true → since ≤ d.time → IsRow nw st place since (shown_row st d)
departure-row nw st valid place since d is here late =
    let by = subst (IsCallOf st) is.key (call-of st valid.trains is.event is.there (ap (λ (k : Key). k.dep) is.key ∙ is.departs) is.live) in
    let t = by.train in
    let c = by.call in
    let train = d.key.train in
    let at = is-at d.key.label t.calls c by.found in
    let named : call_named st train d.key.label ≡ Some c = ap (find (is_call d.key.label)) (calls-are st train t by.is_train) ∙ by.found in
    let stop = is.stop ∙ boarding-is nw st d.key c named in
    let both = and_parts _ _ here in
    let within : d.stop < length nw.stops = ltb-true d.stop (length nw.stops) both.0 in
    let board : c.board ≡ true = elim (cases_Bool c.board) [
      | inl may ↦ may
      | inr not ↦ let past : d.stop ≡ length nw.stops = stop ∙ rw not refl in absurd (omega arith)
    ] in
    let own : d.stop ≡ c.stop = stop ∙ rw board refl in
    let time : event_time nw st (departure_of train t.route c).key ≡ d.time = ap (event_time nw st) by.key ∙ sym is.time in
    let shown = shown-by nw st place since train t.route c by.live board
    (subst (λ s. nat_eq (station nw.stops place) (station nw.stops s) ≡ true) own both.1) (subst (λ n. since ≤ n) (sym time) late) in
    let run = run-after false at.earlier c (after (is_call d.key.label) t.calls)
    (subst (IsRun false) at.split (good-train st valid.trains train t by.is_train).run) in
    let row = row-is nw st place since train t at.earlier c (after (is_call d.key.label) t.calls) by.is_train at.split run shown in
    let to = sym (goes-is st d.key t c by.is_train named) in
    subst (IsRow nw st place since) (λ i. record { event = by.key i; time = time i; stop = sym own i; to = to i }) row

within-stops : (stops : List StopRow) (s : ℕ) → is_stop stops s ≡ true → s < length stops
within-stops stops s is = by (slice_get stops s) refl
  where
    by : (o : Option StopRow) → slice_get stops s ≡ o → s < length stops
    by None none = let no : is_stop stops s ≡ false = rw none refl in absurd (cc)
    by (Some row) there = slice_get_within stops s row there

-- the live departure of a row, of which it is the row
pub record HasDeparture (nw : Network) (st : State) (place since : ℕ) (r : BoardRow) : Type 0 where
  pub listed : Contains (live_departures nw st) (departing nw st r.event)
  pub here : is_of_station nw (station nw.stops place) (boarding_stop nw st r.event) ≡ true
  pub late : since ≤ event_time nw st r.event
  pub own : shown_row st (departing nw st r.event) ≡ r

pub row-departure : (nw : Network) (st : State) → IsValid nw st → AreAtStops nw.stops st → (place since : ℕ) (r : BoardRow) → IsRow nw st place since r
    → HasDeparture nw st place since r
row-departure nw st valid at_stops place since r is =
    let t = is.by_train in
    let c = is.call in
    let k = r.event in
    let label : c.label ≡ k.label = sym (ap (λ (k : Key). k.label) is.event) in
    let distinct = subst HasDistinctLabels is.are_calls (good-train st valid.trains k.train t is.is_train).labels in
    let both = labelled is.calls_before c is.calls_after distinct in
    let found : find (is_call k.label) t.calls ≡ Some c =
    subst (λ l. find (is_call l) t.calls ≡ Some c) label (ap (find (is_call c.label)) is.are_calls ∙ both.0) in
    let behind : after (is_call k.label) t.calls ≡ is.calls_after =
    subst (λ l. after (is_call l) t.calls ≡ is.calls_after) label (ap (after (is_call c.label)) is.are_calls ∙ both.1) in
    let named : call_named st k.train k.label ≡ Some c = ap (find (is_call k.label)) (calls-are st k.train t is.is_train) ∙ found in
    let e = call-event st k.train k.label true c named in
    let key : e.event.key ≡ k = e.key ∙ sym is.event in
    let stop : boarding_stop nw st k ≡ c.stop = boarding-is nw st k c named ∙ rw is.may_board refl in
    let calls : All (IsAtStop nw.stops) t.calls =
    subst (λ (t : Train). All (IsAtStop nw.stops) t.calls) (get_or_from_slice_get st.trains k.train t t is.is_train)
    (All-get_or (λ (t : Train). All (IsAtStop nw.stops) t.calls) st.trains k.train t (slice_get_within st.trains k.train t is.is_train) at_stops) in
    let there : Contains t.calls c =
    subst (λ cs. Contains cs c) (sym is.are_calls) (Contains-append_right is.calls_before (c ∷ is.calls_after) c (0, omega arith, refl)) in
    let within = within-stops nw.stops c.stop (All-contains (IsAtStop nw.stops) t.calls c calls there) in
    let goes : goes_from st k ≡ r.to =
    goes-is st k t c is.is_train named ∙ ap (goes_to c.stop) (behind ∙ is.reaches.are_calls)
    ∙ reaches-one c.stop is.reaches.between is.reaches.last is.reaches.after is.reaches.passes is.reaches.arrives is.reaches.ends ∙ sym is.reaches.stop in
    record {
      listed = subst (λ k. Contains (live_departures nw st) (departing nw st k)) key
          (departs-in nw st e.event e.there (e.live ∙ is.departs) (ap (λ (k : Key). k.dep) e.key));
      here = subst (λ s. is_of_station nw (station nw.stops place) s ≡ true) (sym stop) (and_from _ _ (lt-ltb c.stop (length nw.stops) within) is.here);
      late = subst (λ n. since ≤ n) is.time is.not_before;
      own = λ i. record { event = k; time = sym is.time i; stop = (stop ∙ sym is.stop) i; to = goes i };
    }
