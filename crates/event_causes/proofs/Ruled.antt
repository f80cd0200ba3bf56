-- Whether the rules alone hold an edge is told by its kind, and by the two events where it is kept.
use Rattle.std.proofs.Common.{◌≡◌, ℕ, ◌&&◌, Bool, true, false, not, ◌||◌, List, [], Option, Some, None, refl, sym, ◌∙◌, ap, subst, arith}
use Rattle.std.specs.List.{All, Contains}
use Rattle.std.proofs.lemmas.Bool.{and_from, cond_both}
use Rattle.std.proofs.lemmas.List.Folds.{list_any_at}
use Rattle.std.proofs.lemmas.List.Elements.{All-append, All-cons, All-nil, All-contains, All-weaker, All-contains_itself}
use Rattle.mt_base.specs.Order.{is_before, is_same, node_of}
use Rattle.mt_base.proofs.KeyLemmas.{same-itself}
use Rattle.delay_model.specs.declared.network.Network.{Network}
use Rattle.delay_model.specs.declared.overrides.Override.{Override}
use Rattle.delay_model.specs.declared.overrides.Override.TheVariants.{Keep, Drop}
use Rattle.delay_model.specs.declared.state.State.{State}
use Rattle.delay_model.specs.declared.state.Event.{Event}
use Rattle.delay_model.specs.declared.state.Edge.{Edge}
use Rattle.delay_model.specs.declared.state.EdgeKind.{EdgeKind}
use Rattle.delay_model.specs.declared.state.EdgeKind.TheVariants.{Train, Planned, Kept}
use Rattle.delay_model.specs.Events.{events, event_named}
use Rattle.delay_model.specs.Edges.{edges, edge_by_change, change_between, may_connect, train_edges, transfer, transfers_from, transfer_edges, override_of}
use Rattle.delay_model.specs.Timing.{counts}
use Rattle.delay_model.specs.Valid.{IsValid}
use Rattle.delay_model.proofs.Lists.{All-flat_map}
use Rattle.delay_model.proofs.Ends.{JoinsLive, edges-join, train_edges-each}
use Rattle.propagate.proofs.Named.{event-found}
use Rattle.cause_laws.specs.Causes.{edges_by_rule, goes_first, goes_first_between, holds_by_rule, is_along}
use Rattle.cause_laws.proofs.OfTrains.{contains-flat}
use Rattle.cause_laws.proofs.Ruled.{rule-of-two}
use Rattle.event_causes.specs.Asking.{by_rule, by_rule_from}

-- an edge that is planned is among these
IsThereIfPlanned : List Edge → Edge → Type 0
IsThereIfPlanned rule e = (wait : ℕ) → e.kind ≡ Planned wait → Contains rule e

-- an edge that a dispatcher keeps is not planned
kept-kinds : (nw : Network) (u v : Event) → All (λ e. e.kind ≡ Kept) (transfer nw (Some Keep) u v)
unfolding transfer
kept-kinds nw u v = grind (arith, All-cons (λ (e : Edge). e.kind ≡ Kept), All-nil (λ (e : Edge). e.kind ≡ Kept))

dropped : (nw : Network) (u v : Event) (w : Option ℕ) → edge_by_change nw (Some Drop) u v w ≡ []
dropped nw u v None = refl
dropped nw u v (Some w) = refl

transfer-dropped : (nw : Network) (u v : Event) → transfer nw (Some Drop) u v ≡ []
unfolding transfer
transfer-dropped nw u v = cond_both (may_connect u v) (edge_by_change nw (Some Drop) u v (change_between nw u v)) [] (λ xs. xs ≡ [])
    (λ _. dropped nw u v (change_between nw u v)) (λ _. refl)

-- a planned edge between two events is there by the rules alone
planned-alone : (nw : Network) (choice : Option Override) (u v : Event) → All (IsThereIfPlanned (transfer nw None u v)) (transfer nw choice u v)
unfolding IsThereIfPlanned
planned-alone nw None u v = λ i d l wait is. All-contains_itself (transfer nw None u v) i d l
planned-alone nw (Some Keep) u v = λ i d l wait is. let kept = kept-kinds nw u v i d l in absurd (cc)
planned-alone nw (Some Drop) u v = subst (All (IsThereIfPlanned (transfer nw None u v))) (sym (transfer-dropped nw u v))
    (All-nil (IsThereIfPlanned (transfer nw None u v)))

transfers-planned : (nw : Network) (st : State) → All (IsThereIfPlanned (edges_by_rule nw st)) (transfer_edges nw (override_of st) (events st))
unfolding IsThereIfPlanned
transfers-planned nw st =
    let es = events st in
    let P = IsThereIfPlanned (edges_by_rule nw st) in
    All-flat_map P (transfers_from nw (override_of st) es) es (All-weaker (Contains es) (λ u. All P (transfers_from nw (override_of st) es u)) (λ u hu.
    All-flat_map P (λ v. transfer nw (override_of st u v) u v) es (All-weaker (Contains es) (λ v. All P (transfer nw (override_of st u v) u v)) (λ v hv.
    All-weaker (IsThereIfPlanned (transfer nw None u v)) P (λ e there wait is.
    contains-flat (transfers_from nw (λ _ _. None) es) es u e hu (contains-flat (λ w. transfer nw None u w) es v e hv (there wait is)))
    (transfer nw (override_of st u v) u v) (planned-alone nw (override_of st u v) u v)) es (All-contains_itself es))) es (All-contains_itself es))

edges-planned : (nw : Network) (st : State) → All (IsThereIfPlanned (edges_by_rule nw st)) (edges nw st)
unfolding edges IsThereIfPlanned
edges-planned nw st =
    let P = IsThereIfPlanned (edges_by_rule nw st) in
    All-append P (train_edges nw.opts 0 st.trains) (transfer_edges nw (override_of st) (events st))
    (train_edges-each nw.opts st P (λ u v runs wait is. absurd (cc))) (transfers-planned nw st)

-- an edge that is there by rule and counts holds by rule
ruled-holds : (rule : List Edge) (time : ℕ) (e : Edge) → Contains rule e → counts e.kind e.to.time time ≡ true → holds_by_rule rule time e ≡ true
ruled-holds rule time e there counting =
    let test : Edge → Bool = λ g. is_same g.from e.from && (is_same g.to e.to && counts g.kind g.to.time time) in
    list_any_at test rule there.0 e there.1 (ap test there.2 ∙ and_from _ _ (same-itself e.from) (and_from _ _ (same-itself e.to) counting))

by-kind : (nw : Network) (st : State) → IsValid nw st → (u v : Event) (time : ℕ) (e : Edge) (kind : EdgeKind) → e.kind ≡ kind → Contains (events st) u
    → Contains (events st) v → e.from ≡ u.key → e.to ≡ v.key → Contains (edges nw st) e → is_along kind ≡ false → counts e.kind e.to.time time ≡ true
    → by_rule_from nw v time (Some u) kind ≡ holds_by_rule (edges_by_rule nw st) time e
unfolding IsThereIfPlanned
by-kind nw st valid u v time e Train is hu hv from to there between counting = absurd (cc)
by-kind nw st valid u v time e (Planned wait) is hu hv from to there between counting =
    sym (ruled-holds (edges_by_rule nw st) time e
    (All-contains (IsThereIfPlanned (edges_by_rule nw st)) (edges nw st) e (edges-planned nw st) there wait is) counting)
by-kind nw st valid u v time e Kept is hu hv from to there between counting = sym (rule-of-two nw st valid u v e time hu hv from to)

-- of an edge between trains that counts, the rules are asked as the definition asks them
pub by-rule : (nw : Network) (st : State) → IsValid nw st → (v : Event) (time : ℕ) (e : Edge) → Contains (events st) v → e.to ≡ v.key
    → Contains (edges nw st) e → counts e.kind e.to.time time ≡ true → is_along e.kind ≡ false
    → by_rule nw st v time e ≡ holds_by_rule (edges_by_rule nw st) time e
by-rule nw st valid v time e hv to there counting between =
    let end = (All-contains (JoinsLive (events st)) (edges nw st) e (edges-join nw st) there).from_end in
    let u = end.0 in
    let found : event_named st (node_of e.from) ≡ Some u = ap (λ k. event_named st (node_of k)) (sym end.2) ∙ event-found st u valid.trains end.1 in
    ap (λ o. by_rule_from nw v time o e.kind) found ∙ by-kind nw st valid u v time e e.kind refl end.1 hv (sym end.2) to there between counting

agree : (d e p q r s lesser : Bool) → (d ≡ false → p ≡ r) → (e ≡ false → q ≡ s)
    → (not e && (d || goes_first_between p q lesser)) ≡ (not e && (d || goes_first_between r s lesser))
agree d true p q r s lesser h k = refl
agree true false p q r s lesser h k = refl
agree false false p q r s lesser h k = ap (λ x. goes_first_between x q lesser) (h refl) ∙ ap (λ x. goes_first_between r x lesser) (k refl)

-- which of two edges goes first is told by what the rules say of edges between trains
pub first-agree : (f g : Edge → Bool) (d e : Edge) → (is_along d.kind ≡ false → f d ≡ g d) → (is_along e.kind ≡ false → f e ≡ g e)
    → goes_first f d e ≡ goes_first g d e
first-agree f g d e h k = agree (is_along d.kind) (is_along e.kind) (f d) (f e) (g d) (g e) (is_before d.from e.from) h k
