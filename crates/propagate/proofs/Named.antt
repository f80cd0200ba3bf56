-- Events of a valid state by their names.
use Rattle.propagate.proofs.Words.{◌≡◌, Bool, true, false, ◌&&◌, List, [], ◌∷◌, Some, None, find, refl, arith, inl, inr, All, Contains, list_any, cases_Bool, and_from, or_parts}
use Rattle.propagate.proofs.Words.{All-contains, node_of, same_node-is, same_node-itself, State, Event, events, train_events, event_named, is_event, is_live, IsTrain}
use Rattle.propagate.proofs.Words.{Contains-there, events_at-train, events-unique, events-from_each, train_events-there, All-contains_itself, events_of, list_any_at}

-- an element that is found passes, and is an element
pub record IsFound {X : Type 0} (p : X → Bool) (xs : List X) : Type 0 where
  pub one : X
  pub found : find p xs ≡ Some one
  pub there : Contains xs one
  pub passes : p one ≡ true

-- where one passes one is found
pub find-any : {X : Type 0} (p : X → Bool) (xs : List X) → list_any p xs ≡ true → IsFound p xs
find-any p [] h = absurd (cc)
find-any p (x ∷ xs) h =
    elim (cases_Bool (p x)) [
      | inl hit ↦ record { one = x; found = rw hit refl; there = (0, omega arith, refl); passes = hit }
      | inr miss ↦
          let r = find-any p xs (rw miss at h) in
          record { one = r.one; found = rw miss r.found; there = Contains-there x xs r.one r.there; passes = r.passes }
    ]

-- an element that passes is one
pub any-from : {X : Type 0} (p : X → Bool) (xs : List X) (x : X) → Contains xs x → p x ≡ true → list_any p xs ≡ true
any-from p xs x h k = list_any_at p xs h.0 x h.1 (rw h.2 k)

-- where none passes none is found
pub find-none : {X : Type 0} (p : X → Bool) (xs : List X) → list_any p xs ≡ false → find p xs ≡ None
find-none p [] h = refl
find-none p (x ∷ xs) h = grind (arith, or_parts (p x) (list_any p xs) h, find-none p xs)

-- an event is one of its train's
own-all : (st : State) → All (λ v. Contains (train_events st v.key.train) v) (events st)
unfolding events
own-all st =
    events-from_each (λ v. Contains (train_events st v.key.train) v) 0 st.trains (λ i at t e got. λ k d l.
    let same : at ≡ i = omega arith in
    rw (events_at-train at t.route t.calls k d l, same, got) (All-contains_itself (events_of i t) k d (rw same at l)))

pub own-event : (st : State) (v : Event) → Contains (events st) v → Contains (train_events st v.key.train) v
own-event st v h = All-contains (λ v. Contains (train_events st v.key.train) v) (events st) v (own-all st) h

-- an event is found by its name
pub event-found : (st : State) (v : Event) → All IsTrain st.trains → Contains (events st) v → event_named st (node_of v.key) ≡ Some v
event-found st v trains h =
    let n = node_of v.key in
    let r = find-any (is_event n) (train_events st n.train) (any-from (is_event n) (train_events st n.train) v (own-event st v h) (same_node-itself n)) in
    let hu = All-contains (Contains (events st)) (train_events st n.train) r.one (train_events-there st n.train) r.there in
    rw (r.found, events-unique st trains r.one v hu h (same_node-is _ _ r.passes)) refl

-- and a live one is live by its name
pub event-live : (st : State) (v : Event) → Contains (events st) v → v.live ≡ true → is_live st (node_of v.key) ≡ true
event-live st v h live =
    let n = node_of v.key in
    any-from (λ u. is_event n u && u.live) (train_events st n.train) v (own-event st v h) (and_from _ _ (same_node-itself n) live)
