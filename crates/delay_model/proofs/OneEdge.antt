-- From one event to one event there is no more than one edge.
use Rattle.std.proofs.Common.{◌≡◌, ℕ, ◌+◌, ◌≤◌, List, [], ◌∷◌, Option, get_or, sym, ◌∙◌, ap, arith}
use Rattle.std.proofs.Math.Logic.{◌≢◌}
use Rattle.std.specs.List.{All, AllPairs, flat_map}
use Rattle.std.proofs.lemmas.List.Elements.{All-append, All-cons, All-nil, All-tail, All-head, All-weaker}
use Rattle.mt_base.specs.declared.keys.Key.{Key}
use Rattle.mt_base.specs.declared.options.Opts.{Opts}
use Rattle.mt_base.specs.Order.{node_of}
use Rattle.delay_model.specs.declared.network.Network.{Network}
use Rattle.delay_model.specs.declared.overrides.Override.{Override}
use Rattle.delay_model.specs.declared.state.Train.{Train}
use Rattle.delay_model.specs.declared.state.State.{State}
use Rattle.delay_model.specs.declared.state.Event.{Event}
use Rattle.delay_model.specs.declared.state.Edge.{Edge}
use Rattle.delay_model.specs.Events.{events, events_of}
use Rattle.delay_model.specs.Edges.{edges, train_edges, edges_along, edge_on, transfer, transfers_from, transfer_edges, override_of, DifferInEnds}
use Rattle.delay_model.specs.Valid.{HasDistinctLabels}
use Rattle.delay_model.proofs.Lists.{All-flat_map, AllPairs-nil, AllPairs-cons, AllPairs-append, AllPairs-tail, AllPairs-after}
use Rattle.delay_model.proofs.Apart.{AreApart, events_at-train, events_at-apart, labels-apart}
use Rattle.delay_model.proofs.Ends.{train_edges-each}

-- what relates each two elements of each part, and all elements of two parts, relates each two elements of the list
AllPairs-flat_map : {X Y : Type 0} (R : Y → Y → Type 0) (S : X → X → Type 0) (f : X → List Y) (xs : List X) → ((x : X) → AllPairs R (f x)) → ((x y : X) → S x y → All (λ a. All (R a) (f y)) (f x)) → AllPairs S xs → AllPairs R (flat_map f xs)
AllPairs-flat_map R S f [] each across h = AllPairs-nil R
AllPairs-flat_map R S f (x ∷ xs) each across h =
    AllPairs-append R (f x) (flat_map f xs) (each x) (AllPairs-flat_map R S f xs each across (AllPairs-tail S x xs h)) (λ i d l.
    All-flat_map (R (get_or (f x) i d)) f xs (All-weaker (S x) (λ y. All (R (get_or (f x) i d)) (f y)) (λ y s. across x y s i d l) xs (AllPairs-after S [] x xs h)))

-- edges from events of two names
apart-from : (d e : Edge) (u v : Event) → d.from ≡ u.key → e.from ≡ v.key → AreApart u v → DifferInEnds d e
apart-from d e u v at there apart = λ same _. apart (ap node_of (sym at) ∙ same ∙ ap node_of there)

edge_on-from : (o : Opts) (u : Event) (vs : List Event) → All (λ e. e.from ≡ u.key) (edge_on o u vs)
edge_on-from o u vs = grind (arith, All-cons (λ (e : Edge). e.from ≡ u.key), All-nil (λ (e : Edge). e.from ≡ u.key))

edge_on-one : (o : Opts) (u : Event) (vs : List Event) → AllPairs DifferInEnds (edge_on o u vs)
edge_on-one o u vs = grind (arith, AllPairs-cons DifferInEnds, AllPairs-nil DifferInEnds, All-nil)

-- what holds of the keys of events holds of those that the edges along them lead from
along-from : (o : Opts) (P : Key → Type 0) (es : List Event) → All (λ v. P v.key) es → All (λ e. P e.from) (edges_along o es)
along-from o P [] h = All-nil (λ (e : Edge). P e.from)
along-from o P (u ∷ vs) h =
    let K : Event → Type 0 = λ v. P v.key in
    let Q : Edge → Type 0 = λ e. P e.from in
    let head = All-head K u vs h in
    All-append Q (edge_on o u vs) (edges_along o vs) (All-weaker (λ e. e.from ≡ u.key) Q (λ e at. rw at head) (edge_on o u vs) (edge_on-from o u vs))
    (along-from o P vs (All-tail K u vs h))

along-one : (o : Opts) (es : List Event) → AllPairs AreApart es → AllPairs DifferInEnds (edges_along o es)
along-one o [] h = AllPairs-nil DifferInEnds
along-one o (u ∷ vs) h =
    AllPairs-append DifferInEnds (edge_on o u vs) (edges_along o vs) (edge_on-one o u vs) (along-one o vs (AllPairs-tail AreApart u vs h))
    (All-weaker (λ d. d.from ≡ u.key) (λ d. All (DifferInEnds d) (edges_along o vs)) (λ d at.
    All-weaker (λ e. node_of u.key ≢ node_of e.from) (DifferInEnds d) (λ e apart same _. apart (ap node_of (sym at) ∙ same)) (edges_along o vs)
    (along-from o (λ k. node_of u.key ≢ node_of k) vs (AllPairs-after AreApart [] u vs h))) (edge_on o u vs) (edge_on-from o u vs))

trains-from : (o : Opts) (first : ℕ) (ts : List Train) → All (λ e. first ≤ e.from.train) (train_edges o first ts)
trains-from o first [] = All-nil (λ (e : Edge). first ≤ e.from.train)
trains-from o first (t ∷ ts) =
    let P : Edge → Type 0 = λ e. first ≤ e.from.train in
    let here = along-from o (λ k. k.train ≡ first) (events_of first t) (events_at-train first t.route t.calls) in
    All-append P (edges_along o (events_of first t)) (train_edges o (first + 1) ts)
    (All-weaker (λ e. e.from.train ≡ first) P (λ e at. omega arith) _ here)
    (All-weaker (λ e. first + 1 ≤ e.from.train) P (λ e l. omega arith) _ (trains-from o (first + 1) ts))

trains-one : (o : Opts) (first : ℕ) (ts : List Train) → All (λ t. HasDistinctLabels t.calls) ts → AllPairs DifferInEnds (train_edges o first ts)
trains-one o first [] h = AllPairs-nil DifferInEnds
trains-one o first (t ∷ ts) h =
    let L : Train → Type 0 = λ t. HasDistinctLabels t.calls in
    let here = along-from o (λ k. k.train ≡ first) (events_of first t) (events_at-train first t.route t.calls) in
    AllPairs-append DifferInEnds (edges_along o (events_of first t)) (train_edges o (first + 1) ts)
    (along-one o (events_of first t) (events_at-apart first t.route t.calls (All-head L t ts h))) (trains-one o (first + 1) ts (All-tail L t ts h))
    (All-weaker (λ d. d.from.train ≡ first) (λ d. All (DifferInEnds d) (train_edges o (first + 1) ts)) (λ d at.
    All-weaker (λ e. first + 1 ≤ e.from.train) (DifferInEnds d) (λ e l same _. let train : d.from.train ≡ e.from.train = ap (λ n. n.train) same in omega arith) _ (trains-from o (first + 1) ts)) _ here)

-- an edge from u to v, of two trains
record Joins (u v : Event) (e : Edge) : Type 0 where
  origin : e.from ≡ u.key
  target : e.to ≡ v.key
  trains : e.from.train ≢ e.to.train

transfer-joins : (nw : Network) (choice : Option Override) (u v : Event) → All (Joins u v) (transfer nw choice u v)
unfolding transfer
transfer-joins nw choice u v = grind (arith, All-cons (Joins u v), All-nil (Joins u v))

transfer-one : (nw : Network) (choice : Option Override) (u v : Event) → AllPairs DifferInEnds (transfer nw choice u v)
unfolding transfer
transfer-one nw choice u v = grind (arith, AllPairs-cons DifferInEnds, AllPairs-nil DifferInEnds, All-nil)

from-one : (nw : Network) (choices : Event → Event → Option Override) (vs : List Event) (u : Event) → AllPairs AreApart vs → AllPairs DifferInEnds (transfers_from nw choices vs u)
from-one nw choices vs u = AllPairs-flat_map DifferInEnds AreApart (λ v. transfer nw (choices u v) u v) vs (λ v. transfer-one nw (choices u v) u v) (λ v w apart.
    All-weaker (Joins u v) (λ d. All (DifferInEnds d) (transfer nw (choices u w) u w)) (λ d j.
    All-weaker (Joins u w) (DifferInEnds d) (λ e k _ same. apart (ap node_of (sym j.target) ∙ same ∙ ap node_of k.target)) _ (transfer-joins nw (choices u w) u w)) _ (transfer-joins nw (choices u v) u v))

-- the edges from an event to those of other trains
record Leaves (u : Event) (e : Edge) : Type 0 where
  origin : e.from ≡ u.key
  trains : e.from.train ≢ e.to.train

from-leaves : (nw : Network) (choices : Event → Event → Option Override) (vs : List Event) (u : Event) → All (Leaves u) (transfers_from nw choices vs u)
from-leaves nw choices vs u = All-flat_map (Leaves u) (λ v. transfer nw (choices u v) u v) vs (λ i d l.
    let v = get_or vs i d in All-weaker (Joins u v) (Leaves u) (λ e j. record { origin = j.origin; trains = j.trains }) _ (transfer-joins nw (choices u v) u v))

transfers-one : (nw : Network) (choices : Event → Event → Option Override) (es : List Event) → AllPairs AreApart es → AllPairs DifferInEnds (transfer_edges nw choices es)
transfers-one nw choices es h = AllPairs-flat_map DifferInEnds AreApart (transfers_from nw choices es) es (λ u. from-one nw choices es u h) (λ u v apart.
    All-weaker (Leaves u) (λ d. All (DifferInEnds d) (transfers_from nw choices es v)) (λ d j.
    All-weaker (Leaves v) (DifferInEnds d) (λ e k. apart-from d e u v j.origin k.origin apart) _ (from-leaves nw choices es v)) _ (from-leaves nw choices es u)) h

transfers-leave : (nw : Network) (choices : Event → Event → Option Override) (es : List Event) → All (λ e. e.from.train ≢ e.to.train) (transfer_edges nw choices es)
transfers-leave nw choices es = All-flat_map (λ (e : Edge). e.from.train ≢ e.to.train) (transfers_from nw choices es) es (λ i d l.
    let u = get_or es i d in All-weaker (Leaves u) (λ e. e.from.train ≢ e.to.train) (λ e j. j.trains) _ (from-leaves nw choices es u))

-- no two edges of a state lead from one event to one event
pub one-edge : (nw : Network) (st : State) → All (λ t. HasDistinctLabels t.calls) st.trains → AllPairs DifferInEnds (edges nw st)
unfolding edges
one-edge nw st h =
    let es = events st in
    let others = transfer_edges nw (override_of st) es in
    AllPairs-append DifferInEnds (train_edges nw.opts 0 st.trains) others (trains-one nw.opts 0 st.trains h) (transfers-one nw (override_of st) es (labels-apart st h))
    (All-weaker (λ d. d.from.train ≡ d.to.train) (λ d. All (DifferInEnds d) others) (λ d along.
    All-weaker (λ e. e.from.train ≢ e.to.train) (DifferInEnds d) (λ e two from_same to_same. two (ap (λ n. n.train) (sym from_same) ∙ along ∙ ap (λ n. n.train) to_same)) others (transfers-leave nw (override_of st) es))
    (train_edges nw.opts 0 st.trains) (train_edges-each nw.opts st (λ e. e.from.train ≡ e.to.train) (λ u v runs. runs.train)))
