-- What is known of an edge: its ends are live events, and along a train the one stands right after the other.
use Rattle.std.proofs.Common.{◌≡◌, ℕ, ◌+◌, true, ◌&&◌, List, [], ◌∷◌, ◌++◌, Option, Some, None, refl, sym, ◌∙◌, subst, arith}
use Rattle.std.specs.List.{All, Contains}
use Rattle.std.proofs.lemmas.Bool.{and_parts, cond_both}
use Rattle.std.proofs.lemmas.List.{append_assoc}
use Rattle.std.proofs.lemmas.List.Elements.{All-append, All-cons, All-nil, All-tail, All-head, All-weaker, All-contains_itself, Contains-append_right}
use Rattle.mt_base.specs.declared.keys.Key.{Key}
use Rattle.mt_base.specs.declared.options.Opts.{Opts}
use Rattle.delay_model.specs.declared.network.Network.{Network}
use Rattle.delay_model.specs.declared.overrides.Override.{Override}
use Rattle.delay_model.specs.declared.state.Train.{Train}
use Rattle.delay_model.specs.declared.state.State.{State}
use Rattle.delay_model.specs.declared.state.Event.{Event}
use Rattle.delay_model.specs.declared.state.Edge.{Edge}
use Rattle.delay_model.specs.declared.state.EdgeKind.{EdgeKind}
use Rattle.delay_model.specs.Events.{events, events_of, events_from}
use Rattle.delay_model.specs.Edges.{edges, train_edges, edges_along, edge_on, train_edge, transfer, transfers_from, transfer_edges, edge_of_kind, edge_by_change, transfer_kind, is_planned, wait_between, change_between, may_connect, override_of}
use Rattle.delay_model.proofs.Lists.{All-flat_map}
use Rattle.delay_model.proofs.Apart.{events_at-train}

-- it is the key of a live event of the list
abbrev pub IsLiveAt : List Event → Key → Type 0
IsLiveAt es k = (v : Event) × Contains es v × (v.key ≡ k) × (v.live ≡ true)

-- both ends are live events of the list
pub record JoinsLive (es : List Event) (e : Edge) : Type 0 where
  pub from_end : IsLiveAt es e.from
  pub to_end : IsLiveAt es e.to

-- u and v are live events of one train, and v stands right after u in the list
pub record RunsOn (es : List Event) (u v : Event) : Type 0 where
  pub before : List Event
  pub after : List Event
  pub there : es ≡ before ++ u ∷ v ∷ after
  pub from_live : u.live ≡ true
  pub to_live : v.live ≡ true
  pub train : u.key.train ≡ v.key.train

-- the list contains the first of two such events
pub runs_on-from : (es : List Event) (u v : Event) → RunsOn es u v → Contains es u
runs_on-from es u v h = subst (λ zs. Contains zs u) (sym h.there) (Contains-append_right h.before (u ∷ v ∷ h.after) u (0, omega arith, refl))

-- and the second
pub runs_on-to : (es : List Event) (u v : Event) → RunsOn es u v → Contains es v
runs_on-to es u v h = subst (λ zs. Contains zs v) (sym h.there) (Contains-append_right h.before (u ∷ v ∷ h.after) v (1, omega arith, refl))

module _ (o : Opts) (es : List Event) (P : Edge → Type 0) (each : (u v : Event) → RunsOn es u v → P (train_edge o u v)) where
  along-each : (train : ℕ) (xs vs ys : List Event) → All (λ v. v.key.train ≡ train) vs → es ≡ xs ++ (vs ++ ys) → All P (edges_along o vs)
  along-each train xs [] ys h there = All-nil P
  along-each train xs (u ∷ []) ys h there = All-nil P
  along-each train xs (u ∷ v ∷ vs) ys h there =
      let Q : Event → Type 0 = λ v. v.key.train ≡ train in
      let rest = All-tail Q u (v ∷ vs) h in
      let same = All-head Q u (v ∷ vs) h ∙ sym (All-head Q v vs rest) in
      All-append P (edge_on o u (v ∷ vs)) (edges_along o (v ∷ vs)) (cond_both (u.live && v.live) (train_edge o u v ∷ []) [] (All P) (λ lives.
      let both = and_parts _ _ lives in
      All-cons P (train_edge o u v) [] (each u v (record { before = xs; after = vs ++ ys; there = there; from_live = both.0; to_live = both.1; train = same })) (All-nil P)) (λ _.
      All-nil P)) (along-each train (xs ++ u ∷ []) (v ∷ vs) ys rest (there ∙ sym (append_assoc xs (u ∷ []) (v ∷ vs ++ ys))))

  trains-each : (xs : List Event) (first : ℕ) (ts : List Train) → es ≡ xs ++ events_from first ts → All P (train_edges o first ts)
  trains-each xs first [] there = All-nil P
  trains-each xs first (t ∷ ts) there =
      let here = events_of first t in
      let rest = events_from (first + 1) ts in
      All-append P (edges_along o here) (train_edges o (first + 1) ts) (along-each first xs here rest (events_at-train first t.route t.calls) there)
      (trains-each (xs ++ here) (first + 1) ts (there ∙ sym (append_assoc xs here rest)))

-- what holds of the edge from each live event to the next one of its train, live too, holds of each edge along a train
pub train_edges-each : (o : Opts) (st : State) (P : Edge → Type 0) → ((u v : Event) → RunsOn (events st) u v → P (train_edge o u v)) → All P (train_edges o 0 st.trains)
unfolding events
train_edges-each o st P each = trains-each o (events st) P each [] 0 st.trains refl

kind-joins : (es : List Event) (u v : Event) (w : ℕ) (kind : Option EdgeKind) → IsLiveAt es u.key → IsLiveAt es v.key → All (JoinsLive es) (edge_of_kind u v w kind)
kind-joins es u v w None hu hv = All-nil (JoinsLive es)
kind-joins es u v w (Some kind) hu hv =
    All-cons (JoinsLive es) (record { from = u.key; to = v.key; weight = w; kind = kind }) [] (record { from_end = hu; to_end = hv }) (All-nil (JoinsLive es))

change-joins : (nw : Network) (choice : Option Override) (es : List Event) (u v : Event) (change : Option ℕ) → IsLiveAt es u.key → IsLiveAt es v.key → All (JoinsLive es) (edge_by_change nw choice u v change)
change-joins nw choice es u v None hu hv = All-nil (JoinsLive es)
change-joins nw choice es u v (Some w) hu hv = kind-joins es u v w (transfer_kind choice (is_planned nw.opts w (wait_between nw u v) u v) (wait_between nw u v)) hu hv

transfer-joins : (nw : Network) (choice : Option Override) (es : List Event) (u v : Event) → Contains es u → Contains es v → All (JoinsLive es) (transfer nw choice u v)
unfolding transfer
transfer-joins nw choice es u v hu hv =
    cond_both (may_connect u v) (edge_by_change nw choice u v (change_between nw u v)) [] (All (JoinsLive es)) (λ h.
    let both = and_parts _ _ (and_parts _ _ h).0 in
    change-joins nw choice es u v (change_between nw u v) (u, hu, refl, both.0) (v, hv, refl, both.1)) (λ _. All-nil (JoinsLive es))

transfer_edges-join : (nw : Network) (choices : Event → Event → Option Override) (es : List Event) → All (JoinsLive es) (transfer_edges nw choices es)
transfer_edges-join nw choices es =
    All-flat_map (JoinsLive es) (transfers_from nw choices es) es
    (All-weaker (Contains es) (λ u. All (JoinsLive es) (transfers_from nw choices es u)) (λ u hu.
    All-flat_map (JoinsLive es) (λ v. transfer nw (choices u v) u v) es
    (All-weaker (Contains es) (λ v. All (JoinsLive es) (transfer nw (choices u v) u v)) (λ v hv. transfer-joins nw (choices u v) es u v hu hv) es (All-contains_itself es))) es
    (All-contains_itself es))

-- the ends of each edge are live events
pub edges-join : (nw : Network) (st : State) → All (JoinsLive (events st)) (edges nw st)
unfolding edges
edges-join nw st =
    let es = events st in
    All-append (JoinsLive es) (train_edges nw.opts 0 st.trains) (transfer_edges nw (override_of st) es)
    (train_edges-each nw.opts st (JoinsLive es) (λ u v h. record { from_end = (u, runs_on-from es u v h, refl, h.from_live); to_end = (v, runs_on-to es u v h, refl, h.to_live) }))
    (transfer_edges-join nw (override_of st) es)
