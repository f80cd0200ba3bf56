-- The edges along its train at an event of a state, by the names of the events beside it.
use Rattle.edge_rules.proofs.Words.{◌≡◌, ℕ, Bool, true, false, cond, List, [], ◌∷◌, ◌++◌, ◌∙◌, ap, subst, arith, Option, Some, None, find, is_some, slice_get, All, All-contains, AllPairs, option_map, option_map_or, Key, Node, Opts, is_same, node_of, same-is, same_node-is, is_same_node, Call, Train, State, Event, Edge, before, after, is_call, node_at, events, events_of, events_at, event_named, is_event, train_events, edge_on, edges_along, filter, incoming, outgoing, AreApart, events_at-train, events-from_each, has_event, first_label, last_label, along_to, along_from, HasOwnLabels, suc}
use Rattle.std.proofs.lemmas.Grind.{elements}
use Rattle.delay_model.specs.Valid.{HasDistinctLabels}
use Rattle.delay_model.proofs.Apart.{events_at-apart}
use Rattle.state_laws.proofs.Changed.{train_events-there}
use Rattle.state_laws.proofs.Choices.{found-there}
use Rattle.train_nodes.proofs.EventLemmas.{event_of_call, found_event}
use Rattle.train_nodes.proofs.Words.{nat_eq-same}
use Rattle.edge_rules.specs.Neighbours.{previous_of, next_of}
use Rattle.edge_rules.proofs.InLine.{beside-at, last_of, own-train, self-found}

-- where an event of a name stands: its train and its call
pub record IsAt (o : Option Train) (n : Node) (v : Event) : Type 0 where
  pub train : Train
  pub there : o ≡ Some train
  pub call : Call
  pub found : find (is_call n.label) train.calls ≡ Some call
  pub event : v ≡ event_of_call n.train train.route n.dep call

at-parts : (n : Node) (v : Event) (o : Option Train) → find (is_event n) (option_map_or (events_of n.train) o []) ≡ Some v → IsAt o n v
at-parts n v None h = absurd (cc)
at-parts n v (Some t) h = grind (arith, found_event n.train t.route n.label n.dep t.calls)

-- an event that is found is that of a call
pub named-at : (st : State) (n : Node) (v : Event) → event_named st n ≡ Some v → IsAt (slice_get st.trains n.train) n v
named-at st n v h = at-parts n v (slice_get st.trains n.train) h

-- and has the name
pub named-is : (st : State) (n : Node) (v : Event) → event_named st n ≡ Some v → node_of v.key ≡ n
named-is st n v h = same_node-is _ n (found-there (is_event n) (train_events st n.train) v h).1

-- its call is there
pub named-there : (st : State) (n : Node) (v : Event) → event_named st n ≡ Some v → has_event st n ≡ true
named-there st n v h = grind (arith, λ (t : Train). found_event n.train t.route n.label n.dep t.calls)

-- the labels of the train of a number differ
pub own-labels : (ts : List Train) (i : ℕ) (t : Train) → All HasOwnLabels ts → slice_get ts i ≡ Some t → HasDistinctLabels t.calls
own-labels ts i t h e = grind (arith, elements)

-- these are the edges that an event makes with the one of this name, if there is such a name: that event is there
abbrev pub IsJoined : State → Option Node → (Event → List Edge) → List Edge → Type 0
IsJoined st None f gs = gs ≡ []
IsJoined st (Some m) f gs = (has_event st m ≡ true) × ((u : Event) → event_named st m ≡ Some u → gs ≡ f u)

-- an event is led to from the one before it, and leads to the one after it
pub record IsBeside (o : Opts) (st : State) (v : Event) : Type 0 where
  pub into : IsJoined st (previous_of st (node_of v.key)) (λ u. edge_on o u (v ∷ [])) (along_to o st (node_of v.key))
  pub out : IsJoined st (next_of st (node_of v.key)) (λ u. edge_on o v (u ∷ [])) (along_from o st (node_of v.key))

-- each event of a state is found by its name
pub each-named : (st : State) → All HasOwnLabels st.trains → All (λ v. event_named st (node_of v.key) ≡ Some v) (events st)
unfolding events
each-named st labels =
    events-from_each (λ v. event_named st (node_of v.key) ≡ Some v) 0 st.trains (λ k i t e got j d l.
    grind (arith, events_at-train i t.route t.calls j d l, self-found (events_of i t) (events_at-apart i t.route t.calls (own-labels st.trains k t labels got)) j d l))

-- the names of the events beside that of a call
names : (i r l : ℕ) (dep : Bool) (cs : List Call) → is_some (find (is_call l) cs) ≡ true → (option_map (λ v. node_of v.key) (last_of (before (is_event (node_at i l dep)) (events_at i r cs))) ≡ cond dep (Some (node_at i l false)) (option_map (λ b. node_at i b true) (last_label (before (is_call l) cs)))) × (option_map (λ v. node_of v.key) (slice_get (after (is_event (node_at i l dep)) (events_at i r cs)) 0) ≡ cond dep (option_map (λ b. node_at i b false) (first_label (after (is_call l) cs))) (Some (node_at i l true)))
unfolding is_same_node
names i r l dep [] h = absurd (cc)
names i r l dep (c ∷ []) h = grind (arith, nat_eq-same i)
names i r l dep (c ∷ d ∷ cs) h = grind (arith, nat_eq-same i, names i r l dep (d ∷ cs))

-- a list is cut at the first element that passes
cut-at : {X : Type 0} (p : X → Bool) (xs : List X) (x : X) → find p xs ≡ Some x → xs ≡ before p xs ++ x ∷ after p xs
cut-at p [] x h = absurd (cc)
cut-at p (y ∷ ys) x h = grind (arith, cut-at p ys x)

-- what holds of each holds of the elements beside that
beside-each : {X : Type 0} (P : X → Type 0) (p : X → Bool) (xs : List X) → All P xs → (x : X) → (last_of (before p xs) ≡ Some x → P x) × (slice_get (after p xs) 0 ≡ Some x → P x)
beside-each P p [] h x = grind arith
beside-each P p (y ∷ []) h x = grind (arith, h 0 y)
beside-each P p (y ∷ z ∷ ys) h x = grind (arith, h 0 y, h 1 y, beside-each P p (z ∷ ys) (λ k d l. h (suc k) d (omega arith)) x)

pub beside : (o : Opts) (st : State) (labels : All HasOwnLabels st.trains) (v : Event) → event_named st (node_of v.key) ≡ Some v → IsBeside o st v
unfolding incoming outgoing
beside o st labels v named =
    let p = is_event (node_of v.key) in
    let i = v.key.train in
    let at = named-at st (node_of v.key) v named in
    let t = at.train in
    let es = events_of i t in
    let cut = cut-at p es v (rw at.there at named) in
    let s = beside-at o v (before p es) (after p es) (subst (AllPairs AreApart) cut (events_at-apart i t.route t.calls (own-labels st.trains i t labels at.there))) in
    let called = names i t.route v.key.label v.key.dep t.calls (ap is_some at.found) in
    let Named : Event → Type 0 = λ w. event_named st (node_of w.key) ≡ Some w in
    let each = beside-each Named p es (λ k d l. All-contains Named (events st) _ (each-named st labels) (rw at.there at (train_events-there st i) k d l)) in
    let into = own-train o i (λ e. is_same e.to v.key) (λ u w same y. same ∙ ap (λ (k : Key). k.train) (same-is w.key v.key y)) 0 st.trains in
    let out = own-train o i (λ e. is_same e.from v.key) (λ u w same y. ap (λ (k : Key). k.train) (same-is u.key v.key y)) 0 st.trains in
    record {
      into = grind (arith, called, at.there, named, into, λ (w : Event). (each w).0, λ (w : Event). named-there st (node_of w.key) w, ap (λ zs. filter (λ e. is_same e.to v.key) (edges_along o zs)) cut ∙ s.0);
      out = grind (arith, called, at.there, named, out, λ (w : Event). (each w).1, λ (w : Event). named-there st (node_of w.key) w, ap (λ zs. filter (λ e. is_same e.from v.key) (edges_along o zs)) cut ∙ s.1);
    }
