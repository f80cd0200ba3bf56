-- Events by name, by the calls that they are of.
use Rattle.call_lines.proofs.Words.{◌≡◌, ◌≢◌, ℕ, suc, ◌<◌, List, [], ◌∷◌, Bool, true, false, ◌&&◌, nat_eq, length, take, refl, arith, Some, None}
use Rattle.call_lines.proofs.Words.{slice_get, find, All, beq, list_any, option_map, option_map_or, Node, is_same_node, Call, Train, State, Event, is_call, node_at}
use Rattle.call_lines.proofs.Words.{calls_of, events_at, is_event, event_by, event_named, is_live, values_of, call_named, has_call, label_after, label_before}
use Rattle.call_lines.proofs.Words.{is_some, HasDistinctLabels, IsFirst, ◌+◌, nat_eq-same, nat_tests, length-take-le, ◌-◌, ◌∙◌, ap}
use Rattle.call_lines.proofs.CallPlaces.{first-cut, get-drop, get-take, label_of, last-at}

-- an event of a call
abbrev pub event_of_call : ℕ → ℕ → Bool → Call → Event
event_of_call train route dep c = event_by train route c.label c.stop dep (values_of dep c)

pub name-test : (t l m : ℕ) (b dep c : Bool) → nat_eq m l ≡ c → is_same_node (node_at t m b) (node_at t l dep) ≡ (c && beq b dep)
unfolding is_same_node
name-test t l m b dep c e = rw (nat_eq-same t, e) refl

-- an event is found by the call of its label
pub found_event : (t route l : ℕ) (dep : Bool) (cs : List Call) → find (is_event (node_at t l dep)) (events_at t route cs) ≡ option_map (event_of_call t route dep) (find (is_call l) cs)
unfolding is_same_node
found_event t route l dep [] = refl
found_event t route l dep (c ∷ cs) = grind (arith, nat_eq-same t, found_event t route l dep cs)

-- no event with this label is live
none-live : (t route l n : ℕ) (dep : Bool) (cs : List Call) → All (λ d. n ≢ d.label) cs → n ≡ l → list_any (λ v. is_event (node_at t l dep) v && v.live) (events_at t route cs) ≡ false
unfolding is_same_node
none-live t route l n dep [] h e = refl
none-live t route l n dep (c ∷ cs) h e = grind (arith, nat_tests, h 0 c (omega arith), none-live t route l n dep cs (λ k d m. h (suc k) d (omega arith)) e)

-- whether an event is live is said by the call of its label
found_live : (t route l : ℕ) (dep : Bool) (cs : List Call) → HasDistinctLabels cs → list_any (λ v. is_event (node_at t l dep) v && v.live) (events_at t route cs) ≡ option_map_or (λ (c : Call). (values_of dep c).live) (find (is_call l) cs) false
unfolding is_same_node
found_live t route l dep [] h = refl
found_live t route l dep (c ∷ cs) h = grind (arith, nat_tests, nat_eq-same t, none-live t route l c.label dep cs h.0, found_live t route l dep cs h.1)

-- an event by its call and its train's route
pub event-named : (st : State) (n : Node) (route : ℕ) (c : Call) → call_named st n.train n.label ≡ Some c → option_map (λ (t : Train). t.route) (slice_get st.trains n.train) ≡ Some route → event_named st n ≡ Some (event_of_call n.train route n.dep c)
event-named st n route c h k = grind (arith, h, k, λ (t : Train). found_event n.train t.route n.label n.dep t.calls)

-- whether an event is live, by its call
pub live-named : (st : State) (n : Node) → HasDistinctLabels (calls_of st n.train) → is_live st n ≡ option_map_or (λ (c : Call). (values_of n.dep c).live) (call_named st n.train n.label) false
live-named st n h = grind (arith, h, λ (t : Train). found_live n.train t.route n.label n.dep t.calls)

found-of-live : (p : Event → Bool) (es : List Event) → list_any (λ v. p v && v.live) es ≡ true → is_some (find p es) ≡ true
found-of-live p [] h = absurd (cc)
found-of-live p (e ∷ es) h = grind (arith, found-of-live p es)

-- a live event is there
pub live-there : (st : State) (n : Node) → is_live st n ≡ true → has_call st n.train n.label ≡ true
live-there st n h =
    grind (arith, λ (t : Train). found-of-live (is_event n) (events_at n.train t.route t.calls), λ (t : Train). found_event n.train t.route n.label n.dep t.calls)

-- the label after a call's place
pub label_after-at : (cs : List Call) (l place : ℕ) → IsFirst (is_call l) place cs → label_after cs l ≡ option_map (λ (c : Call). c.label) (slice_get cs (suc place))
label_after-at cs l place h = let e : suc place + 0 ≡ suc place = omega arith in rw ((first-cut (is_call l) place cs h).after_is, get-drop (suc place) cs 0, e) refl

-- the label before a call's place
pub label_before-at : (cs : List Call) (l place before : ℕ) → IsFirst (is_call l) place cs → place ≡ suc before → before < length cs → label_before cs l ≡ option_map (λ (c : Call). c.label) (slice_get cs before)
label_before-at cs l place before h e m =
    rw ((first-cut (is_call l) place cs h).before_is, last-at (take place cs)) (ap (option_map label_of) (get-take place cs (length (take place cs) - 1) (omega (arith, length-take-le place cs)) ∙ ap (slice_get cs) (omega (arith, length-take-le place cs))))

pub label_before-none : (cs : List Call) (l place : ℕ) → IsFirst (is_call l) place cs → place ≡ 0 → label_before cs l ≡ None
label_before-none cs l place h e = rw ((first-cut (is_call l) place cs h).before_is, e) refl
