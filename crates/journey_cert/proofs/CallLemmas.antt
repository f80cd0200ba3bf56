-- The calls of a train by their labels, and when their events take place.
use Rattle.std.proofs.Common.{◌≡◌, ℕ, Bool, true, false, cond, List, [], ◌∷◌, ◌++◌, Option, Some, None, is_some, slice_get, find, refl, sym, ◌∙◌, ap, subst, inl, inr, arith}
use Rattle.std.specs.List.{All}
use Rattle.std.specs.Option.{option_map, option_map_or}
use Rattle.std.proofs.lemmas.Bool.{cases_Bool, cond-true, cond-false}
use Rattle.std.proofs.lemmas.List.{append_assoc}
use Rattle.std.proofs.lemmas.List.Elements.{All-get_or}
use Rattle.std.proofs.lemmas.Option.{get_or_from_slice_get, none-some, same_Some, slice_get_within}
use Rattle.mt_base.specs.declared.keys.Node.{Node}
use Rattle.delay_model.specs.declared.network.Network.{Network}
use Rattle.delay_model.specs.declared.state.Call.{Call}
use Rattle.delay_model.specs.declared.state.Event.{Event}
use Rattle.delay_model.specs.declared.state.State.{State}
use Rattle.delay_model.specs.declared.state.Train.{Train}
use Rattle.delay_model.specs.Cuts.{after}
use Rattle.delay_model.specs.Effect.{is_call}
use Rattle.delay_model.specs.Events.{calls_of, event_by, event_named}
use Rattle.delay_model.specs.Timing.{event_time}
use Rattle.delay_model.specs.Valid.{HasDistinctLabels, IsRun, IsTrain, IsValid}
use Rattle.train_nodes.specs.Calls.{call_named, has_call, label_after, values_of}
use Rattle.train_nodes.proofs.EventLemmas.{event-named, live-named}
use Rattle.propagate.proofs.Named.{event-found}
use Rattle.timetable.specs.LiveTimes.{live_time}
use Rattle.timetable.proofs.Named.{live-event, live_time-none}
use Rattle.journey_laws.proofs.RideLemmas.{is-at, labelled}
use Rattle.journey_cert.specs.Calls.{arrival_at, calls_after, first_arrival}

-- the call after one with a label is found by its own label, and what stands after it too
pub next-call : (cs : List Call) → HasDistinctLabels cs → (label : ℕ) (c : Call) → find (is_call label) cs ≡ Some c → (d : Call) (ds : List Call) → after (is_call label) cs ≡ d ∷ ds → (find (is_call d.label) cs ≡ Some d) × (after (is_call d.label) cs ≡ ds)
next-call cs distinct label c found d ds rest =
    let at = is-at label cs c found in
    let before = at.earlier ++ c ∷ [] in
    let whole = at.split ∙ ap (λ es. at.earlier ++ c ∷ es) rest ∙ sym (append_assoc at.earlier (c ∷ []) (d ∷ ds)) in
    let apart = subst HasDistinctLabels whole distinct in
    rw whole (labelled before d ds apart)

module _ (st : State) (trains : All IsTrain st.trains) (train : ℕ) where
  laws-of : (o : Option Train) → slice_get st.trains train ≡ o → HasDistinctLabels (option_map_or (λ (t : Train). t.calls) o []) × IsRun false (option_map_or (λ (t : Train). t.calls) o [])
  laws-of None there = (tt, refl)
  laws-of (Some t) there =
      let good : IsTrain t = subst IsTrain (get_or_from_slice_get st.trains train t t there) (All-get_or IsTrain st.trains train t (slice_get_within st.trains train t there) trains) in
      (good.labels, good.run)

  pub calls-distinct : HasDistinctLabels (calls_of st train)
  calls-distinct = (laws-of (slice_get st.trains train) refl).0

  pub calls-run : IsRun false (calls_of st train)
  calls-run = (laws-of (slice_get st.trains train) refl).1

pub route-of : (o : Option Train) (label : ℕ) (c : Call) → find (is_call label) (option_map_or (λ (t : Train). t.calls) o []) ≡ Some c → (route : ℕ) × (option_map (λ (t : Train). t.route) o ≡ Some route)
route-of None label c found = absurd (none-some c found)
route-of (Some t) label c found = (t.route, refl)

-- the time of an event, by its call
pub time-of_call : (nw : Network) (st : State) → IsValid nw st → (n : Node) (c : Call) → call_named st n.train n.label ≡ Some c → live_time nw st n ≡ cond (values_of n.dep c).live (Some (event_time nw st (event_by n.train 0 c.label c.stop n.dep (values_of n.dep c)).key)) None
time-of_call nw st valid n c named =
    let time = event_time nw st (event_by n.train 0 c.label c.stop n.dep (values_of n.dep c)).key in
    let lives = live-named st n (calls-distinct st valid.trains n.train) ∙ ap (λ o. option_map_or (λ (c : Call). (values_of n.dep c).live) o false) named in
    elim (cases_Bool (values_of n.dep c).live) [
      | inr dead ↦ live_time-none nw st n (lives ∙ dead) ∙ sym (cond-false (values_of n.dep c).live (Some time) None dead)
      | inl live ↦
          let v = live-event st n (lives ∙ live) in
          let route = route-of (slice_get st.trains n.train) n.label c named in
          let found = subst (λ m. event_named st m ≡ Some v.event) v.name (event-found st v.event valid.trains v.there) in
          let same = same_Some v.event (event_by n.train route.0 c.label c.stop n.dep (values_of n.dep c)) (sym found ∙ event-named st n route.0 c named route.1) in
          ap (option_map (λ (v : Event). event_time nw st v.key)) v.found
          ∙ ap (λ (v : Event). Some (event_time nw st v.key)) same
          ∙ sym (cond-true (values_of n.dep c).live (Some time) None live)
    ]

-- the call after the one with a label, by its own label
pub record IsNextCall (st : State) (train label next : ℕ) : Type 0 where
  pub call : Call
  pub rest : List Call
  pub split : calls_after st train label ≡ call ∷ rest
  pub named : call.label ≡ next
  pub found : call_named st train next ≡ Some call
  pub onward : calls_after st train next ≡ rest

next-of : (st : State) (train label next : ℕ) → HasDistinctLabels (calls_of st train) → (o : Option Call) → call_named st train label ≡ o → is_some o ≡ true → (rest : List Call) → calls_after st train label ≡ rest → option_map (λ (c : Call). c.label) (slice_get rest 0) ≡ Some next → IsNextCall st train label next
next-of st train label next distinct None named there rest split first = absurd (cc)
next-of st train label next distinct (Some c) named there [] split first = absurd (cc)
next-of st train label next distinct (Some c) named there (d ∷ ds) split first =
    let same : d.label ≡ next = same_Some d.label next first in
    let by = next-call (calls_of st train) distinct label c named d ds split in
    record {
      call = d;
      rest = ds;
      split = split;
      named = same;
      found = subst (λ l. call_named st train l ≡ Some d) same by.0;
      onward = subst (λ l. calls_after st train l ≡ ds) same by.1;
    }

module _ (nw : Network) (st : State) (valid : IsValid nw st) (train label : ℕ) (there : has_call st train label ≡ true) where
  pub next-named : (next : ℕ) → label_after (calls_of st train) label ≡ Some next → IsNextCall st train label next
  next-named next after = next-of st train label next (calls-distinct st valid.trains train) (call_named st train label) refl there (calls_after st train label) refl after

  module _ (next : ℕ) (is : IsNextCall st train label next) where
    its-time : live_time nw st (record { train = train; label = next; dep = false }) ≡ cond is.call.arrival.live (Some (arrival_at nw st train is.call).time) None
    its-time = time-of_call nw st valid (record { train = train; label = next; dep = false }) is.call is.found

    -- where the arrival has no time there is none
    pub arrival-dead : live_time nw st (record { train = train; label = next; dep = false }) ≡ None → first_arrival nw st train (calls_after st train label) ≡ None
    arrival-dead dead = rw is.split (grind (arith, its-time, dead))

    -- its stop, and whether the train departs there, by the departure
    at-departure : (v : Event) → event_named st (record { train = train; label = next; dep = true }) ≡ Some v → (v.stop ≡ is.call.stop) × (v.live ≡ is.call.departure.live)
    at-departure v named =
        let route = route-of (slice_get st.trains train) next is.call is.found in
        let same = same_Some v (event_by train route.0 is.call.label is.call.stop true is.call.departure) (sym named ∙ event-named st (record { train = train; label = next; dep = true }) route.0 is.call is.found route.1) in
        (ap (λ (v : Event). v.stop) same, ap (λ (v : Event). v.live) same)

    pub arrival-live : (time : ℕ) (v : Event) (alights : Bool) → live_time nw st (record { train = train; label = next; dep = false }) ≡ Some time → event_named st (record { train = train; label = next; dep = true }) ≡ Some v → option_map (λ (c : Call). c.alight) (call_named st train next) ≡ Some alights → Some (record { label = next; stop = v.stop; time = time; alights = alights; goes_on = v.live }) ≡ first_arrival nw st train (calls_after st train label)
    arrival-live time v alights live at may =
        let its = at-departure v at in
        let stops = its.0 in
        let leaves = its.1 in
        let lets = rw is.found at may in
        let named = is.named in
        rw is.split (grind (arith, its-time, live, stops, lets, leaves, named))
