-- An edge along a train joins two events of the train, and every other edge events of two trains.
use Rattle.std.proofs.Common.{◌+◌, ◌++◌, ◌≡◌, ℕ, ◌&&◌, Bool, true, false, List, [], ◌∷◌, Option, Some, None, get_or, refl, sym, ◌∙◌, ap, subst, arith, ◌⊎◌, inl, inr}
use Rattle.std.proofs.Math.Logic.{◌≢◌}
use Rattle.std.specs.FinMap.{get}
use Rattle.std.specs.List.{All, Contains, flat_map}
use Rattle.std.proofs.lemmas.Bool.{and_from, cond_both}
use Rattle.std.proofs.lemmas.List.Folds.{list_any_at}
use Rattle.std.proofs.lemmas.List.Elements.{All-append, All-cons, All-nil, All-contains, All-weaker, All-contains_itself, Contains-append_left, Contains-append_right}
use Rattle.mt_base.specs.declared.keys.Key.{Key}
use Rattle.delay_model.specs.declared.network.Network.{Network}
use Rattle.delay_model.specs.declared.overrides.Override.{Override}
use Rattle.delay_model.specs.declared.overrides.Override.TheVariants.{Keep, Drop}
use Rattle.delay_model.specs.Overrides.{connection}
use Rattle.mt_base.specs.Order.{node_of, is_same}
use Rattle.mt_base.proofs.KeyLemmas.{same-itself}
use Rattle.delay_model.specs.declared.state.State.{State}
use Rattle.delay_model.specs.declared.state.Event.{Event}
use Rattle.delay_model.specs.declared.state.Edge.{Edge}
use Rattle.mt_base.specs.declared.options.Opts.{Opts}
use Rattle.delay_model.specs.declared.state.Call.{Call}
use Rattle.delay_model.specs.declared.state.Train.{Train as ATrain}
use Rattle.delay_model.specs.Events.{events, events_at, events_of, arrival_of, departure_of}
use Rattle.delay_model.specs.Edges.{train_edge, edges, edges_along, edge_on, train_edges, transfer, transfers_from, transfer_edges, override_of, edge_by_change, may_connect, change_between}
use Rattle.delay_model.specs.Timing.{counts, event_time}
use Rattle.delay_model.proofs.Lists.{All-flat_map, Contains-cases}
use Rattle.delay_model.proofs.Ends.{train_edges-each}
use Rattle.cause_laws.specs.declared.causes.Cause.{Cause}
use Rattle.cause_laws.specs.declared.causes.Cause.TheVariants.{Report, Capped, Schedule, Forecast, Run, Stop, Hold, Kept}
use Rattle.cause_laws.specs.Causes.{is_along, edges_by_rule, IsDecidedBy, IsExplained, IsOfItsTrain, holds_by_rule}

-- within a call from its arrival to its departure, or from a departure to an arrival
IsTurn : Edge → Type 0
IsTurn e = (e.from.dep ≡ false → (e.from.label ≡ e.to.label) × (e.to.dep ≡ true)) × (e.from.dep ≡ true → e.to.dep ≡ false)

departs-on : (o : Opts) (train route : ℕ) (c : Call) (cs : List Call) → All IsTurn (edge_on o (departure_of train route c) (events_at train route cs))
unfolding IsTurn
departs-on o train route c [] = All-nil IsTurn
departs-on o train route c (d ∷ ds) =
    let dep = departure_of train route c in
    let arr = arrival_of train route d in
    cond_both (dep.live && arr.live) (train_edge o dep arr ∷ []) [] (All IsTurn) (λ _. All-cons IsTurn (train_edge o dep arr) [] (λ h. absurd (cc), λ _. refl) (All-nil IsTurn)) (λ _. All-nil IsTurn)

-- an edge along a train: within a call from its arrival to its departure, or from a departure to an arrival
record IsAlong (e : Edge) : Type 0 where
  kind : is_along e.kind ≡ true
  trains : e.from.train ≡ e.to.train
  turns : IsTurn e

-- an edge from an arrival to a departure of another train
record IsBetween (e : Edge) : Type 0 where
  kind : is_along e.kind ≡ false
  trains : e.from.train ≢ e.to.train
  arrival : e.from.dep ≡ false
  departure : e.to.dep ≡ true

-- an edge along a train, or between two trains
IsOfKind : Edge → Type 0
IsOfKind e = IsAlong e ⊎ IsBetween e

transfer-between : (nw : Network) (choice : Option Override) (u v : Event) → All IsBetween (transfer nw choice u v)
unfolding transfer
transfer-between nw choice u v = grind (arith, All-cons IsBetween, All-nil IsBetween)

-- each edge between trains joins two trains
transfers-between : (nw : Network) (choices : Event → Event → Option Override) (es : List Event) → All IsBetween (transfer_edges nw choices es)
transfers-between nw choices es = All-flat_map IsBetween (transfers_from nw choices es) es (λ i d l.
    let u = get_or es i d in
    All-flat_map IsBetween (λ v. transfer nw (choices u v) u v) es (λ j c m. let v = get_or es j c in transfer-between nw (choices u v) u v))

along-turns : (o : Opts) (train route : ℕ) (cs : List Call) → All IsTurn (edges_along o (events_at train route cs))
unfolding IsTurn
along-turns o train route [] = All-nil IsTurn
along-turns o train route (c ∷ cs) =
    let arr = arrival_of train route c in
    let dep = departure_of train route c in
    let rest = events_at train route cs in
    All-append IsTurn (edge_on o arr (dep ∷ rest)) (edge_on o dep rest ++ edges_along o rest)
    (cond_both (arr.live && dep.live) (train_edge o arr dep ∷ []) [] (All IsTurn) (λ _. All-cons IsTurn (train_edge o arr dep) [] (λ _. (refl, refl), λ h. absurd (cc)) (All-nil IsTurn)) (λ _. All-nil IsTurn))
    (All-append IsTurn (edge_on o dep rest) (edges_along o rest) (departs-on o train route c cs) (along-turns o train route cs))

trains-turn : (o : Opts) (first : ℕ) (ts : List ATrain) → All IsTurn (train_edges o first ts)
trains-turn o first [] = All-nil IsTurn
trains-turn o first (t ∷ ts) = All-append IsTurn (edges_along o (events_of first t)) (train_edges o (first + 1) ts) (along-turns o first t.route t.calls) (trains-turn o (first + 1) ts)

-- no edge between trains is along one
pub transfers-not-along : (nw : Network) (choices : Event → Event → Option Override) (es : List Event) → All (λ e. is_along e.kind ≡ false) (transfer_edges nw choices es)
transfers-not-along nw choices es = All-flat_map (λ e. is_along e.kind ≡ false) (transfers_from nw choices es) es (λ i d l.
    let u = get_or es i d in
    All-flat_map (λ e. is_along e.kind ≡ false) (λ v. transfer nw (choices u v) u v) es (λ j c m.
    let v = get_or es j c in λ k b n. (transfer-between nw (choices u v) u v k b n).kind))

edges-kinds : (nw : Network) (st : State) → All IsOfKind (edges nw st)
unfolding edges IsOfKind
edges-kinds nw st =
    let trains = train_edges-each nw.opts st (λ e. (is_along e.kind ≡ true) × (e.from.train ≡ e.to.train)) (λ u v runs. (refl, runs.train)) in
    let turns = trains-turn nw.opts 0 st.trains in
    let between = transfers-between nw (override_of st) (events st) in
    All-append IsOfKind (train_edges nw.opts 0 st.trains) (transfer_edges nw (override_of st) (events st))
    (λ i d l. let train = trains i d l in inl (record { kind = train.0; trains = train.1; turns = turns i d l })) (λ i d l. inr (between i d l))

along : (nw : Network) (st : State) (v : Event) (k : Key) (e : Edge) → IsDecidedBy (edges nw st) (edges_by_rule nw st) (event_time nw st) v k e → is_along e.kind ≡ true → IsAlong e
unfolding IsOfKind
along nw st v k e by is =
    elim (All-contains IsOfKind (edges nw st) e (edges-kinds nw st) by.there) [
      | inl same ↦ same
      | inr two ↦ absurd (let b = two.kind in cc)
    ]

between : (nw : Network) (st : State) (v : Event) (k : Key) (e : Edge) → IsDecidedBy (edges nw st) (edges_by_rule nw st) (event_time nw st) v k e → is_along e.kind ≡ false → (k.train ≢ v.key.train) × (k.dep ≡ false) × (v.key.dep ≡ true)
unfolding IsOfKind
between nw st v k e by is =
    elim (All-contains IsOfKind (edges nw st) e (edges-kinds nw st) by.there) [
      | inl same ↦ absurd (let a = same.kind in cc)
      | inr two ↦ (
        λ h. two.trains (ap (λ (x : Key). x.train) by.from ∙ h ∙ ap (λ (x : Key). x.train) (sym by.to)),
        ap (λ (x : Key). x.dep) (sym by.from) ∙ two.arrival,
        ap (λ (x : Key). x.dep) (sym by.to) ∙ two.departure,
      )
    ]

-- what a cause names is of the event's train, or of another where the train is held
pub of-train : (nw : Network) (st : State) (v : Event) (c : Cause) → IsExplained nw st v c → IsOfItsTrain v c
unfolding IsTurn
of-train nw st v Report ex = tt
of-train nw st v (Capped k) (none, (u, by)) = ap (λ (x : Key). x.train) (sym by.named) ∙ by.train
of-train nw st v Schedule ex = tt
of-train nw st v Forecast ex = tt
of-train nw st v (Run k) (none, (e, by, kind, dep)) =
    let is = along nw st v k e by kind in
    (ap (λ (x : Key). x.train) (sym by.from) ∙ is.trains ∙ ap (λ (x : Key). x.train) by.to, dep, ap (λ (x : Key). x.dep) (sym by.to) ∙ is.turns.1 (ap (λ (x : Key). x.dep) by.from ∙ dep))
of-train nw st v (Stop k) (none, (e, by, kind, arr)) =
    let is = along nw st v k e by kind in
    let turn = is.turns.0 (ap (λ (x : Key). x.dep) by.from ∙ arr) in
    (ap (λ (x : Key). x.train) (sym by.from) ∙ is.trains ∙ ap (λ (x : Key). x.train) by.to, ap (λ (x : Key). x.label) (sym by.from) ∙ turn.0 ∙ ap (λ (x : Key). x.label) by.to, arr, ap (λ (x : Key). x.dep) (sym by.to) ∙ turn.1)
of-train nw st v (Hold k) (none, (e, by, kind, rest)) = between nw st v k e by kind
of-train nw st v (Kept k) (none, (e, by, kind, rest)) = between nw st v k e by kind

pub contains-flat : {X Y : Type 0} (f : X → List Y) (xs : List X) (x : X) (y : Y) → Contains xs x → Contains (f x) y → Contains (flat_map f xs) y
contains-flat f [] x y h k = let l = h.1 in absurd (omega arith)
contains-flat f (z ∷ zs) x y h k =
    elim (Contains-cases z zs x h) [
      | inl at ↦ Contains-append_left (f z) (flat_map f zs) y (subst (λ w. Contains (f w) y) (sym at) k)
      | inr later ↦ Contains-append_right (f z) (flat_map f zs) y (contains-flat f zs x y later k)
    ]

-- a transfer edge where this was chosen is there by rule, or the connection is kept
record IsChosen (nw : Network) (choice : Option Override) (u v : Event) (e : Edge) : Type 0 where
  origin : e.from ≡ u.key
  target : e.to ≡ v.key
  chosen : Contains (transfer nw None u v) e ⊎ (choice ≡ Some Keep)

pub transfer-ends : (nw : Network) (choice : Option Override) (u v : Event) → All (λ e. (e.from ≡ u.key) × (e.to ≡ v.key)) (transfer nw choice u v)
unfolding transfer
transfer-ends nw choice u v = grind (arith, All-cons (λ (e : Edge). (e.from ≡ u.key) × (e.to ≡ v.key)), All-nil (λ (e : Edge). (e.from ≡ u.key) × (e.to ≡ v.key)))

dropped : (nw : Network) (u v : Event) (w : Option ℕ) → edge_by_change nw (Some Drop) u v w ≡ []
dropped nw u v None = refl
dropped nw u v (Some w) = refl

transfer-dropped : (nw : Network) (u v : Event) → transfer nw (Some Drop) u v ≡ []
unfolding transfer
transfer-dropped nw u v = cond_both (may_connect u v) (edge_by_change nw (Some Drop) u v (change_between nw u v)) [] (λ xs. xs ≡ []) (λ _. dropped nw u v (change_between nw u v)) (λ _. refl)

transfer-chosen : (nw : Network) (choice : Option Override) (u v : Event) → All (IsChosen nw choice u v) (transfer nw choice u v)
transfer-chosen nw None u v = λ i d l. let ends = transfer-ends nw None u v i d l in record { origin = ends.0; target = ends.1; chosen = inl (All-contains_itself (transfer nw None u v) i d l) }
transfer-chosen nw (Some Keep) u v = λ i d l. let ends = transfer-ends nw (Some Keep) u v i d l in record { origin = ends.0; target = ends.1; chosen = inr refl }
transfer-chosen nw (Some Drop) u v = subst (All (IsChosen nw (Some Drop) u v)) (sym (transfer-dropped nw u v)) (All-nil (IsChosen nw (Some Drop) u v))

-- an edge along a train, one that is there by rule, or one that a dispatcher kept
abbrev pub IsRuledOrKept : Network → State → Edge → Type 0
IsRuledOrKept nw st e = (is_along e.kind ≡ true) ⊎ (Contains (edges_by_rule nw st) e ⊎ (get st.overrides (connection (node_of e.from) (node_of e.to)) ≡ Some Keep))

transfers-ruled : (nw : Network) (st : State) → All (IsRuledOrKept nw st) (transfer_edges nw (override_of st) (events st))
transfers-ruled nw st = let es = events st in All-flat_map (IsRuledOrKept nw st) (transfers_from nw (override_of st) es) es (All-weaker (Contains es) (λ u. All (IsRuledOrKept nw st) (transfers_from nw (override_of st) es u)) (λ u hu.
    All-flat_map (IsRuledOrKept nw st) (λ v. transfer nw (override_of st u v) u v) es (All-weaker (Contains es) (λ v. All (IsRuledOrKept nw st) (transfer nw (override_of st u v) u v)) (λ v hv.
    All-weaker (IsChosen nw (override_of st u v) u v) (IsRuledOrKept nw st) (λ e is.
    elim is.chosen [
      | inl rule ↦ inr (inl (contains-flat (transfers_from nw (λ _ _. None) es) es u e hu (contains-flat (λ w. transfer nw None u w) es v e hv rule)))
      | inr kept ↦ inr (inr (ap (λ k. get st.overrides (connection (node_of k) (node_of e.to))) is.origin ∙ ap (λ k. get st.overrides (connection (node_of u.key) (node_of k))) is.target ∙ kept))
    ]) (transfer nw (override_of st u v) u v) (transfer-chosen nw (override_of st u v) u v)) es (All-contains_itself es))) es (All-contains_itself es))

edges-ruled : (nw : Network) (st : State) → All (IsRuledOrKept nw st) (edges nw st)
unfolding edges
edges-ruled nw st =
    All-append (IsRuledOrKept nw st) (train_edges nw.opts 0 st.trains) (transfer_edges nw (override_of st) (events st))
    (train_edges-each nw.opts st (IsRuledOrKept nw st) (λ u v runs. inl refl)) (transfers-ruled nw st)

-- an edge that is there by rule and counts holds by rule
ruled-holds : (rule : List Edge) (time : ℕ) (e : Edge) → Contains rule e → counts e.kind e.to.time time ≡ true → holds_by_rule rule time e ≡ true
ruled-holds rule time e there counting =
    let test : Edge → Bool = λ g. is_same g.from e.from && (is_same g.to e.to && counts g.kind g.to.time time) in
    list_any_at test rule there.0 e there.1 (ap test there.2 ∙ and_from _ _ (same-itself e.from) (and_from _ _ (same-itself e.to) counting))

-- what is kept was kept by a dispatcher
pub kept-chosen : (nw : Network) (st : State) (v : Event) (k : Key) → IsExplained nw st v (Kept k) → get st.overrides (connection (node_of k) (node_of v.key)) ≡ Some Keep
kept-chosen nw st v k (none, (e, by, kind, not)) =
    elim (All-contains (IsRuledOrKept nw st) (edges nw st) e (edges-ruled nw st) by.there) [
      | inl along ↦ absurd (cc)
      | inr other ↦
          elim other [
            | inl rule ↦ absurd (let holds = ruled-holds (edges_by_rule nw st) (event_time nw st v.key) e rule by.counting in cc)
            | inr kept ↦ ap (λ a. get st.overrides (connection (node_of a) (node_of v.key))) (sym by.from) ∙ ap (λ a. get st.overrides (connection (node_of e.from) (node_of a))) (sym by.to) ∙ kept
          ]
    ]
