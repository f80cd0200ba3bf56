-- Live departures, the calls after them, and the numbers of the departures from there.
use Rattle.state_laws.proofs.Words.{◌≡◌, ℕ, ◌<◌, ◌≤◌, ◌⊎◌, Bool, true, false, cond, Option, Some, None, length, refl, sym, ◌∙◌, ap, subst, inl, inr, false_from_ne_true, All, All-contains, Contains, option_map, option_map_or, Key, Node, node_of, Network, State, Event, Call, events, calls_of, node_at, IsTrain}
use Rattle.std.proofs.lemmas.Bool.{cases_lt}
use Rattle.train_nodes.specs.Calls.{call_named, values_of}
use Rattle.dep_order.specs.declared.departure.Departure.{Departure}
use Rattle.dep_order.specs.Departing.{departures_in_order, held}
use Rattle.dep_order.specs.Ordered.{Ordered, number_of, number_or_past}
use Rattle.timetable.specs.Departures.{IsDeparture, departing, live_departures}
use Rattle.timetable.proofs.Departing.{departs-each, departs-in}
use Rattle.timetable.proofs.HeldLemmas.{IsNumberOf, held-listed, held-past, is-of-call, listed-held, number-is, of-call}
use Rattle.timetable.proofs.Lines.{IsNextCall, live-next, next-found, own-line}
use Rattle.timetable.proofs.LiveCalls.{call-event, event-call, named-label}

-- the departures in their order are those that have numbers, and these were given
pub record AreNumbered (o : Ordered) : Type 0 where
  pub all : o.departures ≡ departures_in_order o.entries
  pub departs : (n : ℕ) (d : Departure) → held o.entries n ≡ Some d → d.key.dep ≡ true
  pub calls : (i j : ℕ) (d e : Departure) → held o.entries i ≡ Some d → held o.entries j ≡ Some e → d.key.train ≡ e.key.train → d.key.label ≡ e.key.label → i ≡ j
  pub used : o.used ≤ length o.entries
  pub unused : (n : ℕ) → o.used ≤ n → held o.entries n ≡ None

-- the call of a departure, and the next, whose arrival is live
pub record GoesOn (st : State) (k : Key) : Type 0 where
  pub call : Call
  pub found : call_named st k.train k.label ≡ Some call
  pub next : Call
  pub after : IsNextCall (calls_of st k.train) k.label next
  pub next_found : call_named st k.train next.label ≡ Some next
  pub arrives : next.arrival.live ≡ true

-- whether an event is live is said by its call
pub named-live : (st : State) → All IsTrain st.trains → (v : Event) → Contains (events st) v → (t m : ℕ) (dep : Bool) (c : Call) → node_of v.key ≡ node_at t m dep → call_named st t m ≡ Some c → v.live ≡ (values_of dep c).live
named-live st trains v there t m dep c name found =
    let e = event-call st trains v there in
    let train : v.key.train ≡ t = ap (λ (n : Node). n.train) name in
    let label : v.key.label ≡ m = ap (λ (n : Node). n.label) name in
    let departs : v.key.dep ≡ dep = ap (λ (n : Node). n.dep) name in
    let own : call_named st t m ≡ Some e.call = subst (λ m. call_named st t m ≡ Some e.call) label (subst (λ t. call_named st t v.key.label ≡ Some e.call) train e.found) in
    let same : e.call ≡ c = cc in
    e.live ∙ ap (λ c. (values_of v.key.dep c).live) same ∙ ap (λ b. (values_of b c).live) departs

pub goes-on : (st : State) → All IsTrain st.trains → (v : Event) → Contains (events st) v → v.live ≡ true → v.key.dep ≡ true → GoesOn st v.key
goes-on st trains v there live departs =
    let e = event-call st trains v there in
    let line = own-line st trains v.key.train in
    let alive : e.call.departure.live ≡ true = sym (ap (λ b. (values_of b e.call).live) departs) ∙ sym e.live ∙ live in
    let next = live-next false (calls_of st v.key.train) v.key.label e.call line.1 e.found alive in
    record {
      call = e.call;
      found = e.found;
      next = next.0;
      after = next.1;
      next_found = next-found (calls_of st v.key.train) v.key.label next.0 line.0 next.1;
      arrives = next.2;
    }

-- a departure that has a number is live, and one that is live has a number
pub held-live : (nw : Network) (st : State) (o : Ordered) → o.departures ≡ departures_in_order o.entries → o.departures ≡ live_departures nw st → (n : ℕ) (d : Departure) → held o.entries n ≡ Some d → IsDeparture nw st d
held-live nw st o all departures n d there =
    All-contains (IsDeparture nw st) (live_departures nw st) d (departs-each nw st) (subst (λ ds. Contains ds d) (sym all ∙ departures) (held-listed o.entries n d there))

pub live-held : (nw : Network) (st : State) (o : Ordered) → o.departures ≡ departures_in_order o.entries → o.departures ≡ live_departures nw st → (v : Event) → Contains (events st) v → v.live ≡ true → v.key.dep ≡ true → (n : ℕ) × (held o.entries n ≡ Some (departing nw st v.key))
live-held nw st o all departures v there live departs =
    listed-held o.entries (departing nw st v.key) (subst (λ ds. Contains ds (departing nw st v.key)) (sym departures ∙ all) (departs-in nw st v there live departs))

-- the number of a call's departure is that of a departure of its name, or nobody's where that is not live
pub record IsNumberedNext (o : Ordered) (t m : ℕ) (c : Call) (n : ℕ) : Type 0 where
  pub next : option_map (λ (d : Departure). node_of d.key) (held o.entries n) ≡ (cond c.departure.live (Some (node_at t m true)) None)
  pub given : (n < o.used) ⊎ (n ≡ length o.entries)

node-is : (k : Key) (t m : ℕ) → k.train ≡ t → k.label ≡ m → k.dep ≡ true → node_of k ≡ node_at t m true
node-is k t m train label departs = cc

-- a number that a departure has was given
pub given-of : (o : Ordered) → AreNumbered o → (n : ℕ) (d : Departure) → held o.entries n ≡ Some d → n < o.used
given-of o numbered n d there =
    elim (cases_lt n o.used) [
      | inl less ↦ less
      | inr more ↦ let none = numbered.unused n more in absurd (cc)
    ]

module _ (nw : Network) (st : State) (trains : All IsTrain st.trains) (o : Ordered) (numbered : AreNumbered o) (departures : o.departures ≡ live_departures nw st) (t m : ℕ) (c : Call) (found : call_named st t m ≡ Some c) where
  numbered-by : (q : Option ℕ) → IsNumberOf o.entries t m q → IsNumberedNext o t m c (option_map_or (λ n. n) q (length o.entries))
  numbered-by None is =
      let dead : c.departure.live ≡ false = false_from_ne_true c.departure.live (λ live.
      let e = call-event st t m true c found in
      let departs : e.event.key.dep ≡ true = ap (λ (k : Key). k.dep) e.key in
      let n = live-held nw st o numbered.all departures e.event e.there (e.live ∙ live) departs in
      let other = is n.0 (departing nw st e.event.key) n.1 in
      let own = is-of-call t m (departing nw st e.event.key) (ap (λ (k : Key). k.train) e.key) (ap (λ (k : Key). k.label) e.key ∙ named-label st t m c found) in
      absurd (cc)) in
      record { next = rw (dead, held-past o.entries (length o.entries) refl) refl; given = inr refl }
  numbered-by (Some n) is =
      let d = is.0 in
      let at = of-call t m d is.2 in
      let h = held-live nw st o numbered.all departures n d is.1 in
      let name : node_of d.key ≡ node_at t m true = node-is d.key t m at.0 at.1 h.departs in
      let live : c.departure.live ≡ true = sym (named-live st trains h.event h.there t m true c (ap node_of h.key ∙ name) found) ∙ h.live in
      record { next = rw (is.1, live) (ap Some name); given = inl (given-of o numbered n d is.1) }

  pub numbered-next : IsNumberedNext o t m c (number_or_past o.entries t m)
  numbered-next = numbered-by (number_of o.entries t m) (number-is o.entries t m)
