-- The events of a state and the calls that they are of.
use Rattle.state_laws.proofs.Words.{◌≡◌, ℕ, Bool, true, ◌&&◌, List, [], Option, Some, None, refl, ◌∙◌, ap, and_from, All, All-contains, Contains, find, option_map, option_map_or, slice_get, Key, node_of, same-itself, is_same}
use Rattle.state_laws.proofs.Words.{State, Event, Train, Call, events, event_named, train_events, calls_of, is_call, is_event, is_live_key, node_at, eqb-true, IsTrain}
use Rattle.delay_model.proofs.Ends.{IsLiveAt}
use Rattle.state_laws.proofs.Choices.{found-there}
use Rattle.state_laws.proofs.Changed.{train_events-there}
use Rattle.train_nodes.specs.Calls.{call_named, values_of}
use Rattle.train_nodes.proofs.EventLemmas.{event-named, event_of_call}
use Rattle.edge_rules.proofs.Neighbours.{each-named, named-at}
use Rattle.edge_rules.specs.Inside.{HasOwnLabels}
use Rattle.propagate.proofs.{Named.any-from, StepStored.live-at}

-- the key of an event of a call
abbrev pub key_at : ℕ → Bool → Call → Key
key_at t dep c = record { time = (values_of dep c).scheduled; train = t; label = c.label; dep = dep }

abbrev pub labels-own : (st : State) → All IsTrain st.trains → All HasOwnLabels st.trains
labels-own st trains = λ i t l. (trains i t l).labels

-- the call of an event
pub record IsOfCall (st : State) (v : Event) : Type 0 where
  pub call : Call
  pub found : call_named st v.key.train v.key.label ≡ Some call
  pub live : v.live ≡ (values_of v.key.dep call).live
  pub key : v.key ≡ key_at v.key.train v.key.dep call

pub event-call : (st : State) → All IsTrain st.trains → (v : Event) → Contains (events st) v → IsOfCall st v
event-call st trains v there =
    let named = All-contains (λ v. event_named st (node_of v.key) ≡ Some v) (events st) v (each-named st (labels-own st trains)) there in
    let at = named-at st (node_of v.key) v named in
    record {
      call = at.call;
      found = rw at.there at.found;
      live = ap (λ (v : Event). v.live) at.event;
      key = ap (λ (v : Event). v.key) at.event;
    }

-- the label by which a call is found is its own
pub named-label : (st : State) (t l : ℕ) (c : Call) → call_named st t l ≡ Some c → c.label ≡ l
named-label st t l c found = eqb-true c.label l (found-there (is_call l) (calls_of st t) c found).1

train-of : (o : Option Train) (l : ℕ) (c : Call) → find (is_call l) (option_map_or (λ (t : Train). t.calls) o []) ≡ Some c → (t : Train) × (o ≡ Some t)
train-of None l c h = absurd (cc)
train-of (Some t) l c h = (t, refl)

-- the event of a call
pub record IsEventOf (st : State) (t : ℕ) (dep : Bool) (c : Call) : Type 0 where
  pub event : Event
  pub there : Contains (events st) event
  pub of_train : Contains (train_events st t) event
  pub key : event.key ≡ key_at t dep c
  pub live : event.live ≡ (values_of dep c).live

pub call-event : (st : State) (t l : ℕ) (dep : Bool) (c : Call) → call_named st t l ≡ Some c → IsEventOf st t dep c
call-event st t l dep c found =
    let r = train-of (slice_get st.trains t) l c found in
    let v = event_of_call t r.0.route dep c in
    let named = event-named st (node_at t l dep) r.0.route c found (ap (option_map (λ (t : Train). t.route)) r.1) in
    let own = found-there (is_event (node_at t l dep)) (train_events st t) v named in
    record { event = v; there = All-contains (Contains (events st)) (train_events st t) v (train_events-there st t) own.0; of_train = own.0; key = refl; live = refl }

-- a key that is live is that of an event, and the other way
pub live-is : (es : List Event) (k : Key) → is_live_key es k ≡ true → IsLiveAt es k
live-is es k h = live-at es k h

pub is-live : (es : List Event) (k : Key) → IsLiveAt es k → is_live_key es k ≡ true
is-live es k at = any-from (λ u. u.live && is_same u.key k) es at.0 at.1 (and_from _ _ at.3 (ap (λ q. is_same q k) at.2 ∙ same-itself k))
