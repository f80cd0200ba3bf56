-- A state is valid where each of its trains is, in its place, and each override leads from a live arrival to a live departure.
use Rattle.state_laws.proofs.Words.{◌≡◌, ℕ, suc, ◌+◌, ◌<◌, ◌≤◌, true, false, List, [], ◌∷◌, ◌++◌, Option, Some, None, refl, arith, All-append, All-cons, All-nil, All-weaker, All-contains}
use Rattle.state_laws.proofs.Words.{All-contains_itself, Contains-append_right, slice_get-get_or, slice_get_within, get_or_from_slice_get, get, All, Contains, common_steps, elements}
use Rattle.state_laws.proofs.Words.{flat_map, slice_get, IfSome, is_before, node_of, Key, Opts, edges, edges_along, train_edges, transfer, transfers_from, transfer_edges, edge_of_kind}
use Rattle.state_laws.proofs.Words.{transfer_kind, is_planned, change_between, override_of, events, events_of, events_from, connection, IsForward, IsSmall, IsTrain, IsConnection, IsValid}
use Rattle.state_laws.proofs.Words.{Network, Connection, Override, Kept, Edge, Event, State, Train, events-unique, All-flat_map}
use Rattle.mt_base.specs.Options.{IsInRange}
use Rattle.delay_model.specs.Changes.{change}

-- what holds of a list holds of its parts
pub All-left : {X : Type 0} (P : X → Type 0) (xs ys : List X) → All P (xs ++ ys) → All P xs
All-left P xs ys h = grind (arith, elements)

pub All-right : {X : Type 0} (P : X → Type 0) (xs ys : List X) → All P (xs ++ ys) → All P ys
All-right P xs ys h = All-weaker (Contains ys) P (λ x c. All-contains P (xs ++ ys) x h (Contains-append_right xs ys x c)) ys (All-contains_itself ys)

pub All-part : {X Y : Type 0} (P : Y → Type 0) (f : X → List Y) (xs : List X) → All P (flat_map f xs) → All (λ x. All P (f x)) xs
All-part P f [] h = All-nil (λ x. All P (f x))
All-part P f (x ∷ xs) h = All-cons (λ x. All P (f x)) x xs (All-left P (f x) _ h) (All-part P f xs (All-right P (f x) _ h))

-- what holds of each train in its place
abbrev pub AtEach : (ℕ → Train → Type 0) → ℕ → List Train → Type 0
AtEach Q first ts = (k at : ℕ) (t : Train) → at ≡ first + k → slice_get ts k ≡ Some t → Q at t

pub each-from : (Q : ℕ → Train → Type 0) (first : ℕ) (t : Train) (ts : List Train) → Q first t → AtEach Q (first + 1) ts → AtEach Q first (t ∷ ts)
each-from Q first t ts q h = grind arith

pub each-tail : (Q : ℕ → Train → Type 0) (first : ℕ) (t : Train) (ts : List Train) → AtEach Q first (t ∷ ts) → AtEach Q (first + 1) ts
each-tail Q first t ts h = λ k at u e s. h (suc k) at u (omega arith) s

pub each-none : (Q : ℕ → Train → Type 0) (first : ℕ) → AtEach Q first []
each-none Q first k at t e s = absurd (cc)

pub events-from_each : (P : Event → Type 0) (first : ℕ) (ts : List Train) → AtEach (λ n t. All P (events_of n t)) first ts → All P (events_from first ts)
events-from_each P first [] h = All-nil P
events-from_each P first (t ∷ ts) h =
    All-append P _ _ (h 0 first t (omega arith) refl) (events-from_each P (first + 1) ts (each-tail (λ n t. All P (events_of n t)) first t ts h))

pub events-each : (P : Event → Type 0) (first : ℕ) (ts : List Train) → All P (events_from first ts) → AtEach (λ n t. All P (events_of n t)) first ts
events-each P first [] h = each-none _ first
events-each P first (t ∷ ts) h =
    each-from (λ n t. All P (events_of n t)) first t ts (All-left P _ _ h) (events-each P (first + 1) ts (All-right P (events_of first t) _ h))

edges-from_each : (o : Opts) (P : Edge → Type 0) (first : ℕ) (ts : List Train) → AtEach (λ n t. All P (edges_along o (events_of n t))) first ts → All P (train_edges o first ts)
edges-from_each o P first [] h = All-nil P
edges-from_each o P first (t ∷ ts) h =
    All-append P _ _ (h 0 first t (omega arith) refl) (edges-from_each o P (first + 1) ts (each-tail (λ n t. All P (edges_along o (events_of n t))) first t ts h))

pub edges-each : (o : Opts) (P : Edge → Type 0) (first : ℕ) (ts : List Train) → All P (train_edges o first ts) → AtEach (λ n t. All P (edges_along o (events_of n t))) first ts
edges-each o P first [] h = each-none _ first
edges-each o P first (t ∷ ts) h =
    each-from (λ n t. All P (edges_along o (events_of n t))) first t ts (All-left P _ _ h) (edges-each o P (first + 1) ts (All-right P (edges_along o (events_of first t)) _ h))

trains-from_each : (P : Train → Type 0) (ts : List Train) → AtEach (λ n t. P t) 0 ts → All P ts
trains-from_each P ts h = grind (arith, slice_get-get_or)

pub trains-each : (P : Train → Type 0) (ts : List Train) → All P ts → AtEach (λ n t. P t) 0 ts
trains-each P ts h = grind (arith, get_or_from_slice_get, slice_get_within)

-- an event that is not live has no report
abbrev pub IsUnreported : Event → Type 0
IsUnreported v = v.live ≡ false → v.report ≡ None

-- a train with this number in a valid state
pub record IsGood (nw : Network) (n : ℕ) (t : Train) : Type 0 where
  pub train : IsTrain t
  pub forward : All IsForward (edges_along nw.opts (events_of n t))
  pub unreported : All IsUnreported (events_of n t)
  pub small : All IsSmall (events_of n t)

-- an override in a valid state, where the edge that it makes leads forward
pub record IsCarried (nw : Network) (es : List Event) (p : Connection) (o : Override) : Type 0 where
  pub joins : IsConnection nw es p
  pub forward : o ≡ Kept → All IsForward (transfer nw (Some Kept) joins.arrival joins.departure)

abbrev pub AreGood : Network → State → Type 0
AreGood nw st = AtEach (IsGood nw) 0 st.trains

abbrev pub AreCarried : Network → State → Type 0
AreCarried nw st = (p : Connection) (o : Override) → get st.overrides p ≡ Some o → IsCarried nw (events st) p o

-- an edge to a later event by key, where a change takes a second at least
earlier-before : (a b : Key) → a.time < b.time → is_before a b ≡ true
unfolding is_before
earlier-before a b h = grind (arith, common_steps)

change-positive : (nw : Network) (u v : Event) → IsInRange nw.opts → IfSome (change_between nw u v) (λ w. 1 ≤ w)
unfolding change
change-positive nw u v ranges = grind arith

kind-forward : (o : Opts) (u v : Event) (w wait : ℕ) (choice : Option Override) → 1 ≤ w → (choice ≡ Some Kept → All IsForward (edge_of_kind u v w (transfer_kind (Some Kept) (is_planned o w wait u v) wait))) → All IsForward (edge_of_kind u v w (transfer_kind choice (is_planned o w wait u v) wait))
kind-forward o u v w wait choice h k = grind (arith, All-nil, All-cons, earlier-before)

-- an edge between trains leads forward, if it does where it is kept
transfer-forward : (nw : Network) (choice : Option Override) (u v : Event) → IsInRange nw.opts → (choice ≡ Some Kept → All IsForward (transfer nw (Some Kept) u v)) → All IsForward (transfer nw choice u v)
unfolding transfer
transfer-forward nw choice u v ranges k = let positive = change-positive nw u v ranges in grind (arith, All-nil, kind-forward nw.opts u v)

-- what holds of the edges between each two events
pub transfers-each : (nw : Network) (choices : Event → Event → Option Override) (es : List Event) (P : Edge → Type 0) → ((u v : Event) → Contains es u → Contains es v → All P (transfer nw (choices u v) u v)) → All P (transfer_edges nw choices es)
transfers-each nw choices es P each =
    All-flat_map P (transfers_from nw choices es) es (All-weaker (Contains es) _ (λ u hu.
    All-flat_map P (λ v. transfer nw (choices u v) u v) es (All-weaker (Contains es) _ (λ v hv. each u v hu hv) es (All-contains_itself es))) es (All-contains_itself es))

pub each-transfer : (nw : Network) (choices : Event → Event → Option Override) (es : List Event) (P : Edge → Type 0) → All P (transfer_edges nw choices es) → (u v : Event) → Contains es u → Contains es v → All P (transfer nw (choices u v) u v)
each-transfer nw choices es P all u v hu hv =
    let from = All-contains (λ u. All P (transfers_from nw choices es u)) es u (All-part P (transfers_from nw choices es) es all) hu in
    All-contains (λ v. All P (transfer nw (choices u v) u v)) es v (All-part P (λ v. transfer nw (choices u v) u v) es from) hv

-- a state is valid where its trains and overrides are
pub valid-from : (nw : Network) (st : State) → IsInRange nw.opts → AreGood nw st → AreCarried nw st → IsValid nw st
unfolding edges events
valid-from nw st ranges good carried =
    let es = events st in
    let choices = override_of st in
    let trains = trains-from_each IsTrain st.trains (λ k at t e s. (good k at t e s).train) in
    record {
      options = ranges;
      forward =
          All-append IsForward (train_edges nw.opts 0 st.trains) (transfer_edges nw choices es)
          (edges-from_each nw.opts IsForward 0 st.trains (λ k at t e s. (good k at t e s).forward))
          (transfers-each nw choices es IsForward (λ u v hu hv. transfer-forward nw (choices u v) u v ranges (λ is_kept.
          let c = carried (connection (node_of u.key) (node_of v.key)) Kept is_kept in
          let arrival = events-unique st trains c.joins.arrival u c.joins.arrival_there hu c.joins.is_arrival in
          let departure = events-unique st trains c.joins.departure v c.joins.departure_there hv c.joins.is_departure in
          rw arrival at (rw departure at (c.forward refl)))));
      trains = trains;
      unreported = events-from_each IsUnreported 0 st.trains (λ k at t e s. (good k at t e s).unreported);
      connections = λ p o h. (carried p o h).joins;
      small = events-from_each IsSmall 0 st.trains (λ k at t e s. (good k at t e s).small);
    }

pub valid-good : (nw : Network) (st : State) → IsValid nw st → AreGood nw st
unfolding edges events
valid-good nw st valid = λ k at t e s.
    record {
      train = trains-each IsTrain st.trains valid.trains k at t e s;
      forward = edges-each nw.opts IsForward 0 st.trains (All-left IsForward _ _ valid.forward) k at t e s;
      unreported = events-each IsUnreported 0 st.trains valid.unreported k at t e s;
      small = events-each IsSmall 0 st.trains valid.small k at t e s;
    }

pub valid-carried : (nw : Network) (st : State) → IsValid nw st → AreCarried nw st
unfolding edges
valid-carried nw st valid = λ p o h.
    let j = valid.connections p o h in
    let all = All-right IsForward (train_edges nw.opts 0 st.trains) _ valid.forward in
    let one = each-transfer nw (override_of st) (events st) IsForward all j.arrival j.departure j.arrival_there j.departure_there in
    record {
      joins = j;
      forward = λ kept. let chosen : override_of st j.arrival j.departure ≡ Some Kept = rw (j.is_arrival, j.is_departure, ← kept) h in rw chosen at one;
    }
