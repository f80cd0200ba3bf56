-- Departures taken out that are among some events.
use Rattle.timetable.proofs.Words.{◌≡◌, true, false, not, List, [], ◌∷◌, Bool, filter, get_or, refl, sym, ◌∙◌, ap, arith, inl, inr, All, All-contains, All-contains_itself, All-filter, All-tail, Contains, cases_Bool, false_from_ne_true}
use Rattle.timetable.proofs.Words.{Key, Node, State, IsTrain, Departure, AreLiveDepartures, events, has_call, is_of_none, is_same, is_same_node, live_keys, node_of, same-is, same-itself, same_node-is, same_node-itself, Event, events-unique}
use Rattle.timetable.proofs.Words.{Contains-there, None, Option, Some, event_named, find, is_event, option_map, train_events, train_events-there}
use Rattle.dep_order.specs.Ordered.{KeepsRoom, Ordered, without}
use Rattle.timetable.specs.Numbers.{AreLeft}
use Rattle.timetable.proofs.Numbers.{none-left, one-left, rooms, same-room}
use Rattle.timetable.proofs.Words.{map}
use Rattle.propagate.proofs.{Ordered.keyed-live}
use Rattle.timetable.proofs.Changed.{filter-same}
use Rattle.timetable.proofs.Moved.{filter-all}

-- a part of them is taken out: with the events that are left those stay that are to stay
pub record AreTakenTo (st : State) (gone : List Node) (before : Ordered) (left : List Node) (now : Ordered) : Type 0 where
  pub live : AreLiveDepartures st now.departures
  pub there : All (λ n. has_call st n.train n.label ≡ true) left
  pub whole : filter (is_of_none left) now.departures ≡ filter (is_of_none gone) before.departures
  pub among : All (Contains gone) left
  pub numbers : AreLeft gone before now
  pub room : KeepsRoom before now

pub all-there : {st : State} {gone : List Node} {before : Ordered} → AreLiveDepartures st before.departures → All (λ n. has_call st n.train n.label ≡ true) gone → AreTakenTo st gone before gone before
all-there {gone = gone} {before = before} live there = record { live = live; there = there; whole = refl; among = All-contains_itself gone; numbers = none-left gone before; room = same-room before }

Contains-here : {X : Type 0} (y : X) (ys : List X) (x : X) → y ≡ x → Contains (y ∷ ys) x
Contains-here y ys x is = (0, omega arith, is)

-- an event that is found by its name
found-is : {X : Type 0} (p : X → Bool) (xs : List X) (x : X) → find p xs ≡ Some x → Contains xs x × (p x ≡ true)
found-is p [] x h = absurd (cc)
found-is p (y ∷ ys) x h =
    elim (cases_Bool (p y)) [
      | inl hit ↦ (let is : y ≡ x = (let own = rw hit at h in cc) in (Contains-here y ys x is, rw is at hit))
      | inr miss ↦ (let r = found-is p ys x (rw miss at h) in (Contains-there y ys x r.0, r.1))
    ]

opt-key : (o : Option Event) (k : Key) → option_map (λ (v : Event). v.key) o ≡ Some k → (v : Event) × (o ≡ Some v) × (v.key ≡ k)
opt-key None k h = absurd (cc)
opt-key (Some v) k h = (v, refl, cc)

pub named-event : (st : State) (n : Node) (k : Key) → option_map (λ (v : Event). v.key) (event_named st n) ≡ Some k → (v : Event) × Contains (events st) v × (node_of v.key ≡ n) × (v.key ≡ k)
named-event st n k h =
    let o = opt-key (event_named st n) k h in
    let f = found-is (is_event n) (train_events st n.train) o.0 o.1 in
    (o.0, All-contains (Contains (events st)) (train_events st n.train) o.0 (train_events-there st n.train) f.0, same_node-is _ _ f.1, o.2)

abbrev pub is_other_than : Key → Departure → Bool
is_other_than k d = not (is_same d.key k)

filter-both : (n : Node) (ns : List Node) (ds : List Departure) → filter (is_of_none (n ∷ ns)) ds ≡ filter (is_of_none ns) (filter (λ d. not (is_same_node (node_of d.key) n)) ds)
filter-both n ns [] = refl
filter-both n ns (d ∷ ds) = grind (arith, filter-both n ns ds)

module _ (st : State) (trains : All IsTrain st.trains) (gone : List Node) (before now : Ordered) (n : Node) (left : List Node) (h : AreTakenTo st gone before (n ∷ left) now) where
  -- a departure of an event's name has its key
  same-by-name : (v : Event) → Contains (events st) v → node_of v.key ≡ n → (d : Departure) → Contains now.departures d → not (is_same_node (node_of d.key) n) ≡ is_other_than v.key d
  same-by-name v there named d in_now =
      let live = All-contains (λ (d : Departure). Contains (live_keys (events st)) d.key × (d.key.dep ≡ true)) now.departures d h.live in_now in
      let u = keyed-live (events st) d.key live.0 in
      elim (cases_Bool (is_same_node (node_of d.key) n)) [
        | inl same ↦
            let name = same_node-is (node_of d.key) n same in
            let one = events-unique st trains u.0 v u.1 there (ap node_of u.2 ∙ name ∙ sym named) in
            let key : d.key ≡ v.key = sym u.2 ∙ ap (λ (v : Event). v.key) one in
            rw (same, key) (let own = same-itself v.key in rw own refl)
        | inr differs ↦
            let other : is_same d.key v.key ≡ false = false_from_ne_true _ (λ same.
            let name = ap node_of (same-is d.key v.key same) ∙ named in
            let own = rw name at differs in
            let itself = same_node-itself n in
            cc) in
            rw (differs, other) refl
      ]

  pub one-taken : (v : Event) → Contains (events st) v → node_of v.key ≡ n → (k : Key) → v.key ≡ k → (next : Ordered) → next.departures ≡ filter (is_other_than k) now.departures → next.entries ≡ map (without k) now.entries → next.used ≡ now.used → next.onwards ≡ now.onwards → KeepsRoom now next → AreTakenTo st gone before left next
  one-taken v there named k key next is entries used onwards room =
      let ds = now.departures in
      let split = filter-both n left ds in
      let by_key = filter-same (λ d. not (is_same_node (node_of d.key) n)) (is_other_than k) ds (λ i e l. rw key at (same-by-name v there named (get_or ds i e) (All-contains_itself ds i e l))) in
      record {
        live = rw is (All-filter (is_other_than k) (λ (d : Departure). Contains (live_keys (events st)) d.key × (d.key.dep ≡ true)) ds h.live);
        there = All-tail (λ n. has_call st n.train n.label ≡ true) n left h.there;
        whole = rw is (ap (filter (is_of_none left)) (sym by_key) ∙ sym split ∙ h.whole);
        among = All-tail (Contains gone) n left h.among;
        numbers = one-left h.numbers k n (h.among 0 n (omega arith)) (rw (← key) named) next entries used onwards;
        room = rooms h.room room;
      }

  pub one-arrives : n.dep ≡ false → AreTakenTo st gone before left now
  one-arrives arrives =
      let ds = now.departures in
      let all = filter-all (λ (d : Departure). not (is_same_node (node_of d.key) n)) ds (λ i e l.
      let live = h.live i e l in
      ap not (false_from_ne_true _ (λ same. let name = ap (λ (m : Node). m.dep) (same_node-is (node_of (get_or ds i e).key) n same) in let departs = live.1 in cc))) in
      record {
        live = h.live;
        there = All-tail (λ n. has_call st n.train n.label ≡ true) n left h.there;
        whole = ap (filter (is_of_none left)) (sym all) ∙ sym (filter-both n left ds) ∙ h.whole;
        among = All-tail (Contains gone) n left h.among;
        numbers = h.numbers;
        room = h.room;
      }

pub none-taken : (ds : List Departure) → filter (is_of_none []) ds ≡ ds
none-taken ds = filter-all (is_of_none []) ds (λ i d l. refl)
