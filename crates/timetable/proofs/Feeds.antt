-- What the walks that mark events come to: which keys are those of named events, and which are fed.
use Rattle.timetable.proofs.Words.{◌≡◌, ◌&&◌, ◌||◌, ℕ, Bool, true, false, List, [], ◌∷◌, get_or, filter, refl, sym, ◌∙◌, ap, subst, arith, inl, inr, cases_Bool, and_parts, and_from, false_from_ne_true, suc, nat_le}
use Rattle.timetable.proofs.Words.{All, All-contains, All-contains_itself, Contains, list_any, Key, Node, node_of, is_same, is_same_node, same-is, same-itself, same_node-is, same_node-itself, State, Event, Edge, events, edges, live_events}
use Rattle.timetable.proofs.Words.{names_of, live_keys, IsTrain, events-unique, event_named, is_live, GraphState, Some, None, option_map_or, All-nil, All-cons, All-filter, All-weaker}
use Rattle.delay_model.proofs.Ends.{JoinsLive, edges-join}
use Rattle.delay_model.specs.Touched.{is_fed_by}
unfoldable use Rattle.edge_rules.specs.AtEvent.{outgoing}
use Rattle.edge_rules.specs.AtEvent.{edges_from}
use Rattle.edge_rules.specs.Deciding.{may_change}
use Rattle.train_nodes.specs.Times.{no_time}
use Rattle.propagate.specs.Unsettled.{is_fed_by_new}
use Rattle.timetable.specs.Marking.{is_fed_from, is_fed_from_new, is_marked_by, leads_to}
use Rattle.std.proofs.lemmas.Option.{same_Some}
use Rattle.propagate.proofs.Named.{event-found, event-live}
use Rattle.timetable.proofs.Named.{live-event}
use Rattle.propagate.proofs.Ordered.{filtered, keyed-live, live-keyed}

-- an edge leads to a key from none of no events, and from one of more
pub fed-none : (gs : List Edge) (k : Key) → is_fed_by gs [] k ≡ false
fed-none [] k = refl
fed-none (e ∷ gs) k = grind (arith, fed-none gs k)

pub fed-first-none : (gs : List Edge) (k : Key) → is_fed_by_new gs [] k ≡ false
fed-first-none gs k = fed-none (filter (may_change no_time no_time) gs) k

fed-more : (gs : List Edge) (v : Event) (vs : List Event) (k : Key) → is_fed_by gs (v ∷ vs) k ≡ (leads_to (outgoing gs v.key) k || is_fed_by gs vs k)
unfolding outgoing
fed-more [] v vs k = refl
fed-more (e ∷ gs) v vs k = grind (arith, fed-more gs v vs k)

filter-swap : {X : Type 0} (p q : X → Bool) (xs : List X) → filter p (filter q xs) ≡ filter q (filter p xs)
filter-swap p q [] = refl
filter-swap p q (x ∷ xs) = grind (arith, filter-swap p q xs)

-- one that passes both tests is one of those that pass the one, and passes the other
pub any-filter : {X : Type 0} (p m : X → Bool) (xs : List X) → list_any (λ x. p x && m x) xs ≡ list_any p (filter m xs)
any-filter p m [] = refl
any-filter p m (x ∷ xs) = grind (arith, any-filter p m xs)

any-either : {X : Type 0} (p a b : X → Bool) (xs : List X) → list_any (λ x. p x && (a x || b x)) xs ≡ (list_any a (filter p xs) || list_any b (filter p xs))
any-either p a b [] = refl
any-either p a b (x ∷ xs) = grind (arith, any-either p a b xs)

module _ (g : GraphState) (trains : All IsTrain g.state.trains) (k : Key) where
  abbrev es : List Event
  es = events g.state

  abbrev gs : List Edge
  gs = edges g.network g.state

  from-there : (v : Event) → Contains es v → edges_from g (node_of v.key) ≡ outgoing gs v.key
  from-there v h = rw (event-found g.state v trains h) refl

  -- the events that those of these names feed
  pub fed-names : (vs : List Event) → All (Contains es) vs → list_any (is_fed_from g k) (names_of vs) ≡ is_fed_by gs vs k
  fed-names [] h = sym (fed-none gs k)
  fed-names (v ∷ vs) h =
      rw (from-there v (h 0 v (omega arith)), fed-more gs v vs k) (ap (λ b. leads_to (outgoing gs v.key) k || b) (fed-names vs (λ i d l. h (suc i) d (omega arith))))

  -- those that they feed first
  fed-first : (vs : List Event) → All (Contains es) vs → list_any (λ v. is_fed_from_new g k (node_of v.key)) vs ≡ is_fed_by_new gs vs k
  unfolding outgoing
  fed-first [] h = sym (fed-none (filter (may_change no_time no_time) gs) k)
  fed-first (v ∷ vs) h =
      let may = may_change no_time no_time in
      rw (from-there v (h 0 v (omega arith)), filter-swap may (λ e. is_same e.from v.key) gs, fed-more (filter may gs) v vs k)
      (ap (λ b. leads_to (outgoing (filter may gs) v.key) k || b) (fed-first vs (λ i d l. h (suc i) d (omega arith))))

  -- a walk over events marks those that pass, and those that they feed first
  pub made-walk : (first : ℕ) (vs : List Event) → All (Contains es) vs → list_any (is_marked_by g first k) vs ≡ (list_any (λ v. is_same v.key k) (filter (λ v. v.live && nat_le first v.key.label) vs) || is_fed_by_new gs (filter (λ v. v.live && nat_le first v.key.label) vs) k)
  made-walk first vs h =
      let p : Event → Bool = λ v. v.live && nat_le first v.key.label in
      any-either p (λ v. is_same v.key k) (λ v. is_fed_from_new g k (node_of v.key)) vs
      ∙ ap (λ b. list_any (λ v. is_same v.key k) (filter p vs) || b) (fed-first (filter p vs) (λ i d l. All-contains (Contains es) vs _ h (filtered p vs (get_or (filter p vs) i d) (All-contains_itself (filter p vs) i d l)).0))

-- the edges that leave an event lead to live events
abbrev pub LeadsToLive : List Event → Edge → Type 0
LeadsToLive es e = Contains (live_keys es) e.to

pub from-live : (g : GraphState) (n : Node) → All (LeadsToLive (events g.state)) (edges_from g n)
unfolding outgoing
from-live g n =
    let es = events g.state in
    let gs = edges g.network g.state in
    let all : All (LeadsToLive es) gs = All-weaker (JoinsLive es) (LeadsToLive es) (λ e joins. live-keyed es e.to joins.to_end) gs (edges-join g.network g.state) in
    elim (event_named g.state n) as (λ o. All (LeadsToLive es) (option_map_or (λ (v : Event). outgoing gs v.key) o []))
    [ None ↦ All-nil (LeadsToLive es) | Some v ↦ All-filter (λ e. is_same e.from v.key) (LeadsToLive es) gs all ]

module _ (st : State) (trains : All IsTrain st.trains) (k : Key) (live : Contains (live_keys (events st)) k) where
  -- of an event of the name of a live one the key is that one's
  pub key-name : (v : Event) → Contains (events st) v → (v.live && is_same v.key k) ≡ is_same_node (node_of k) (node_of v.key)
  key-name v h =
      let u = keyed-live (events st) k live in
      elim (cases_Bool (is_same_node (node_of k) (node_of v.key))) [
        | inl same ↦
            let one = events-unique st trains u.0 v u.1 h (ap node_of u.2 ∙ same_node-is _ _ same) in
            rw same (and_from _ _ (ap (λ (w : Event). w.live) (sym one) ∙ u.3) (rw (← one, u.2) (same-itself k)))
        | inr other ↦
            rw other (false_from_ne_true _ (λ is. let same = same-is v.key k (and_parts v.live (is_same v.key k) is).1 in let own = rw (← same) at other in let itself = same_node-itself (node_of v.key) in absurd (cc)))
      ]

  -- so those that are named and live are found by their keys
  pub keys-names : (vs : List Event) → All (Contains (events st)) vs → list_any (λ v. is_same v.key k) (live_events vs) ≡ list_any (is_same_node (node_of k)) (names_of vs)
  keys-names [] h = refl
  keys-names (v ∷ vs) h =
      let rest = keys-names vs (λ i d l. h (suc i) d (omega arith)) in
      elim (cases_Bool v.live) [
        | inl is ↦ (let own = rw is at (key-name v (h 0 v (omega arith))) in rw (is, own, rest) refl)
        | inr dead ↦ (let own = rw dead at (key-name v (h 0 v (omega arith))) in rw (dead, ← own) rest)
      ]

-- a live event by its name
pub record IsNamedLive (st : State) (n : Node) (v : Event) : Type 0 where
  pub there : Contains (events st) v
  pub live : v.live ≡ true
  pub name : node_of v.key ≡ n

pub named-live : (st : State) (n : Node) (v : Event) → All IsTrain st.trains → is_live st n ≡ true → event_named st n ≡ Some v → IsNamedLive st n v
named-live st n v trains live found =
    let r = live-event st n live in
    let own : event_named st n ≡ Some r.event = subst (λ m. event_named st m ≡ Some r.event) r.name (event-found st r.event trains r.there) in
    let one : r.event ≡ v = same_Some r.event v (sym own ∙ found) in
    subst (IsNamedLive st n) one (record { there = r.there; live = r.live; name = r.name })

-- it is marked by its key, and so by its name
pub key-marks : (st : State) (n : Node) (v : Event) → All IsTrain st.trains → IsNamedLive st n v → (q : Key) → Contains (live_keys (events st)) q → is_same v.key q ≡ is_same_node (node_of q) n
key-marks st n v trains is q live = let own = rw (is.live, is.name) at (key-name st trains q live v is.there) in own

-- a live key is that of an event that is live by its name
pub name-of-live : (st : State) (k : Key) → Contains (live_keys (events st)) k → is_live st (node_of k) ≡ true
name-of-live st k live = let v = keyed-live (events st) k live in subst (λ q. is_live st (node_of q) ≡ true) v.2 (event-live st v.0 v.1 v.3)

-- the live ones of events are live by their names
pub names-live : (st : State) (vs : List Event) → All (Contains (events st)) vs → All (λ n. is_live st n ≡ true) (names_of (live_events vs))
names-live st [] h = All-nil (λ n. is_live st n ≡ true)
names-live st (v ∷ vs) h =
    let rest = names-live st vs (λ i d l. h (suc i) d (omega arith)) in
    elim (cases_Bool v.live) [
      | inl live ↦ rw live (All-cons (λ n. is_live st n ≡ true) (node_of v.key) (names_of (live_events vs)) (event-live st v (h 0 v (omega arith)) live) rest)
      | inr dead ↦ rw dead rest
    ]
