-- What explains an event's time is its cause.
use Rattle.std.proofs.Common.{◌≡◌, ℕ, ◌+◌, Bool, true, false, not, ◌&&◌, ◌||◌, cond, List, [], ◌∷◌, ◌++◌, Option, Some, None, unwrap_or, filter, refl, sym, ◌∙◌, ap, subst, arith, ◌⊎◌, inl, inr}
use Rattle.std.specs.Option.{option_map}
use Rattle.std.specs.List.{All, AllPairs, Contains, list_any}
use Rattle.std.specs.Ordering.{is_lt, ordering_reverse}
use Rattle.std.specs.declared.cmp.Ordering.{Ordering}
use Rattle.std.specs.declared.cmp.Ordering.TheVariants.{Less, Equal, Greater}
use Rattle.std.proofs.lemmas.Bool.{cases_Bool, and_from, eq-eqb, ne_eqb, lt-ltb, le-ltb}
use Rattle.std.proofs.lemmas.List.Elements.{All-append, All-contains, All-weaker, Contains-append_right}
use Rattle.mt_base.specs.declared.keys.Key.{Key}
use Rattle.mt_base.specs.Order.{key_cmp, is_before, is_same, node_of}
use Rattle.mt_base.proofs.KeyLemmas.{keys_total, exact_keys, same-is, same-itself}
use Rattle.delay_model.specs.declared.network.Network.{Network}
use Rattle.delay_model.specs.declared.state.State.{State}
use Rattle.delay_model.specs.declared.state.Event.{Event}
use Rattle.delay_model.specs.declared.state.Edge.{Edge}
use Rattle.delay_model.specs.Events.{events}
use Rattle.delay_model.specs.Edges.{edges, train_edges, transfer_edges, override_of}
use Rattle.delay_model.specs.Timing.{incoming, after_key, cap, floor_of, counts, capped, local, event_time}
use Rattle.delay_model.specs.Valid.{IsValid}
use Rattle.delay_model.proofs.Lists.{AllPairs-tail, AllPairs-after, Contains-filter}
use Rattle.delay_model.proofs.Apart.{AreApart, events-apart}
use Rattle.delay_model.proofs.Ends.{train_edges-each}
use Rattle.delay_model.proofs.Solve.{valid-graph, time-local}
use Rattle.cause_laws.specs.declared.causes.Cause.{Cause}
use Rattle.cause_laws.specs.declared.causes.Cause.TheVariants.{Report, Capped, Schedule, Forecast, Run, Stop, Hold, Kept}
use Rattle.cause_laws.specs.Causes.{due, capper, by_report, by_cap, by_floor, by_edges, asks_for, is_along, goes_first_between, goes_first, holds_by_rule, edge_cause, edges_by_rule, cause_over, cause, floor_cause, IsDecidedBy, IsExplained, Explains}
use Rattle.cause_laws.proofs.Firsts.{first-cases, filtered, named-there}
use Rattle.cause_laws.proofs.Deciding.{pick-1, pick-2, pick-3, pick-4, unreported, floor-is}
use Rattle.cause_laws.proofs.OfTrains.{transfers-not-along}

-- the event right before the first with this key
before_key : Key → List Event → Option Event
before_key k [] = None
before_key k (u ∷ []) = None
before_key k (u ∷ v ∷ vs) = cond (is_same v.key k) (Some u) (before_key k (v ∷ vs))

other-key : (u v : Event) → AreApart u v → is_same u.key v.key ≡ false
other-key u v apart =
    elim (cases_Bool (is_same u.key v.key)) [
      | inl same ↦ absurd (apart (ap node_of (same-is u.key v.key same)))
      | inr differs ↦ differs
    ]

before-at : (xs : List Event) (u v : Event) (ys : List Event) → AllPairs AreApart (xs ++ u ∷ v ∷ ys) → before_key v.key (xs ++ u ∷ v ∷ ys) ≡ Some u
unfolding before_key
before-at [] u v ys apart = ap (λ b. cond b (Some u) (before_key v.key (v ∷ ys))) (same-itself v.key)
before-at (x ∷ []) u v ys apart =
    let two = AllPairs-after AreApart (x ∷ []) u (v ∷ ys) apart in
    ap (λ b. cond b (Some x) (before_key v.key (u ∷ v ∷ ys))) (other-key u v (All-contains (AreApart u) (v ∷ ys) v two (0, omega arith, refl)))
    ∙ before-at [] u v ys (AllPairs-tail AreApart x (u ∷ v ∷ ys) apart)
before-at (x ∷ y ∷ xs) u v ys apart =
    let rest = xs ++ u ∷ v ∷ ys in
    let tail = AllPairs-tail AreApart x (y ∷ rest) apart in
    ap (λ b. cond b (Some x) (before_key v.key (y ∷ rest))) (other-key y v (All-contains (AreApart y) rest v (AllPairs-after AreApart [] y rest tail) (Contains-append_right xs (u ∷ v ∷ ys) v (1, omega arith, refl))))
    ∙ before-at (y ∷ xs) u v ys tail

-- an edge along a train comes from the event right before
IsFromBefore : List Event → Edge → Type 0
IsFromBefore es e = is_along e.kind ≡ true → (u : Event) × (before_key e.to es ≡ Some u) × (u.key ≡ e.from)

edges-from : (nw : Network) (st : State) → IsValid nw st → All (IsFromBefore (events st)) (edges nw st)
unfolding edges IsFromBefore
edges-from nw st valid =
    let es = events st in
    let others = transfer_edges nw (override_of st) es in
    All-append (IsFromBefore es) (train_edges nw.opts 0 st.trains) others
    (train_edges-each nw.opts st (IsFromBefore es) (λ u v runs _.
    (u, ap (before_key v.key) runs.there ∙ before-at runs.before u v runs.after (subst (AllPairs AreApart) runs.there (events-apart st valid.trains)), refl)))
    (All-weaker (λ e. is_along e.kind ≡ false) (IsFromBefore es) (λ e not along. absurd (cc)) others (transfers-not-along nw (override_of st) es))

-- no two edges along trains lead to one event
IsOneAlong : List Edge → Type 0
IsOneAlong gs = (d e : Edge) → Contains gs d → Contains gs e → is_along d.kind ≡ true → is_along e.kind ≡ true → d.to ≡ e.to → d.from ≡ e.from

one-along : (nw : Network) (st : State) → IsValid nw st → IsOneAlong (edges nw st)
unfolding IsFromBefore IsOneAlong
one-along nw st valid = λ d e hd he ad ae same.
    let es = events st in
    let p = All-contains (IsFromBefore es) (edges nw st) d (edges-from nw st valid) hd ad in
    let q = All-contains (IsFromBefore es) (edges nw st) e (edges-from nw st valid) he ae in
    let a = p.1 in
    let b = ap (λ k. before_key k es) same ∙ q.1 in
    let one : p.0 ≡ q.0 = cc in
    sym p.2 ∙ ap (λ (x : Event). x.key) one ∙ q.2

cmp-by : (o : Ordering) → is_lt o ≡ false → is_lt (ordering_reverse o) ≡ false → o ≡ Equal
cmp-by Less h k = absurd (cc)
cmp-by Equal h k = refl
cmp-by Greater h k = absurd (cc)

neither-before : (a b : Key) → is_before a b ≡ false → is_before b a ≡ false → a ≡ b
unfolding is_before
neither-before a b h k = exact_keys a b (cmp-by (key_cmp a b) h (sym (ap is_lt (keys_total.antisymm b a)) ∙ k))

same-holds : (rule : List Edge) (x : ℕ) (d e : Edge) → d.from ≡ e.from → d.to ≡ e.to → holds_by_rule rule x d ≡ holds_by_rule rule x e
same-holds rule x d e from to =
    ap (λ a. list_any (λ (g : Edge). is_same g.from a && (is_same g.to d.to && counts g.kind g.to.time x)) rule) from
    ∙ ap (λ b. list_any (λ (g : Edge). is_same g.from e.from && (is_same g.to b && counts g.kind g.to.time x)) rule) to

cause-along : (d : Edge) (b : Bool) (k : Key) → is_along d.kind ≡ true → d.from ≡ k → edge_cause d b ≡ cond k.dep (Run k) (Stop k)
cause-along d b k along from =
    ap (λ a. cond a (cond d.from.dep (Run d.from) (Stop d.from)) (cond b (Hold d.from) (Kept d.from))) along ∙ ap (λ (a : Key). cond a.dep (Run a) (Stop a)) from

cause-between : (d : Edge) (b c : Bool) (k : Key) → is_along d.kind ≡ false → b ≡ c → d.from ≡ k → edge_cause d b ≡ cond c (Hold k) (Kept k)
cause-between d b c k between same from =
    ap (λ a. cond a (cond d.from.dep (Run d.from) (Stop d.from)) (cond b (Hold d.from) (Kept d.from))) between ∙ ap (λ x. cond x (Hold d.from) (Kept d.from)) same
    ∙ ap (λ a. cond c (Hold a) (Kept a)) from

-- of two edges of which neither goes first, both are along trains, or both between them and neither
-- from a lesser key
neither-first : (e d p q ed de : Bool) → (not d && (e || goes_first_between p q ed)) ≡ false → (not e && (d || goes_first_between q p de)) ≡ false → ((e ≡ true) × (d ≡ true)) ⊎ ((e ≡ false) × (d ≡ false) × (ed ≡ false) × (de ≡ false))
neither-first true true p q ed de h k = inl (refl, refl)
neither-first true false p q ed de h k = absurd (cc)
neither-first false true p q ed de h k = absurd (cc)
neither-first false false true true ed de h k = inr (refl, refl, h, k)
neither-first false false true false ed de h k = absurd (cc)
neither-first false false false true ed de h k = absurd (cc)
neither-first false false false false ed de h k = inr (refl, refl, h, k)

module _ (es : List Event) (gs : List Edge) (one : IsOneAlong gs) (rule : List Edge) (t : Key → ℕ) (v : Event) (is : t v.key ≡ unwrap_or v.report (capped (cap es v) (due gs t v))) where
  -- no cap is below what an event is due that takes place then
  no-cap : v.report ≡ None → t v.key ≡ due gs t v → by_cap (due gs t v) (capper es v) ≡ None
  unfolding cap capper
  no-cap none as_due =
      elim (first-cases v.key.train (after_key v.key es)) [
        | inl free ↦ ap (by_cap (due gs t v)) free.0
        | inr some ↦
            let first = some.2 in
            let r = some.1 in
            let at : t v.key ≡ capped (Some r) (due gs t v) = is ∙ ap (λ o. unwrap_or o (capped (cap es v) (due gs t v))) none ∙ ap (λ o. capped o (due gs t v)) first.cap in
            let past : by_cap (due gs t v) (Some some.0) ≡ None = rw (first.report, le-ltb r (due gs t v) (omega arith)) refl in
            ap (by_cap (due gs t v)) first.named ∙ past
      ]

  -- the edge that is named is from the same event
  record IsLike (k : Key) (e d : Edge) : Type 0 where
    chosen : cause_over es gs rule t v ≡ Some (edge_cause d (holds_by_rule rule (t v.key) d))
    kind : is_along d.kind ≡ is_along e.kind
    from : d.from ≡ k
    holds : holds_by_rule rule (t v.key) d ≡ holds_by_rule rule (t v.key) e

  like-by : (k : Key) (e d : Edge) → IsDecidedBy gs rule t v k e → Contains gs d → d.to ≡ v.key → asks_for t (t v.key) d ≡ true → goes_first (holds_by_rule rule (t v.key)) e d ≡ false → (is_along d.kind ≡ is_along e.kind) × (d.from ≡ k)
  unfolding IsOneAlong
  like-by k e d by there to asks first =
      let ruled = holds_by_rule rule (t v.key) in
      let mine = by.first d there to asks in
      elim (neither-first (is_along e.kind) (is_along d.kind) (ruled e) (ruled d) (is_before e.from d.from) (is_before d.from e.from) first mine) [
        | inl both ↦ (both.1 ∙ sym both.0, one d e there by.there both.1 both.0 (to ∙ sym by.to) ∙ by.from)
        | inr between ↦ (between.1 ∙ sym between.0, neither-before d.from e.from between.3 between.2 ∙ by.from)
      ]

  like : (k : Key) (e : Edge) → v.report ≡ None → IsDecidedBy gs rule t v k e → (d : Edge) × IsLike k e d
  unfolding cause_over incoming
  like k e none by =
      let x = t v.key in
      let asking = filter (asks_for t x) (incoming gs v.key) in
      let sum : t e.from + e.weight ≡ x = ap (λ a. t a + e.weight) by.from ∙ sym by.time in
      let asks : asks_for t x e ≡ true = and_from _ _ (eq-eqb _ _ sum) by.counting in
      let among = Contains-filter (asks_for t x) (incoming gs v.key) e (Contains-filter (λ (g : Edge). is_same g.to v.key) gs e by.there (ap (λ a. is_same a v.key) by.to ∙ same-itself v.key)) asks in
      let ruled = holds_by_rule rule x in
      let found = named-there ruled asking e among in
      let d = found.0 in
      let here = filtered (asks_for t x) (incoming gs v.key) d found.1.there in
      let leads = filtered (λ (g : Edge). is_same g.to v.key) gs d here.0 in
      let to = same-is d.to v.key leads.1 in
      let both = like-by k e d by leads.0 to here.1 (All-contains (λ c. goes_first ruled c d ≡ false) asking e found.1.first among) in
      let floor = by.floor in
      let past : by_floor x v ≡ None = rw (ne_eqb (floor_of v) x (λ same. absurd (omega arith))) refl in (
        d,
        record {
          chosen = pick-4 (by_report v) (by_cap (due gs t v) (capper es v)) (by_floor x v) (by_edges ruled asking) _ (unreported v none) (no-cap none by.as_due) past (ap (option_map (λ (e : Edge). edge_cause e (ruled e))) found.1.is);
          kind = both.0;
          from = both.1;
          holds = same-holds rule x d e (both.1 ∙ sym by.from) (to ∙ sym by.to);
        },
      )

  by-floor-is : v.report ≡ None → floor_of v ≡ t v.key → t v.key ≡ due gs t v → cause_over es gs rule t v ≡ Some (floor_cause v)
  unfolding cause_over
  by-floor-is none same as_due =
      let at : by_floor (t v.key) v ≡ Some (floor_cause v) = rw (eq-eqb (floor_of v) (t v.key) same) refl in
      pick-3 (by_report v) (by_cap (due gs t v) (capper es v)) (by_floor (t v.key) v) (by_edges (holds_by_rule rule (t v.key)) (filter (asks_for t (t v.key)) (incoming gs v.key))) (floor_cause v) (unreported v none) (no-cap none as_due) at

  -- what explains the time is the cause
  exact : (c : Cause) → Explains es gs rule t v c → cause_over es gs rule t v ≡ Some c
  unfolding cause_over
  exact Report ex =
      let at : by_report v ≡ Some Report = rw ex refl in
      pick-1 (by_report v) (by_cap (due gs t v) (capper es v)) (by_floor (t v.key) v) (by_edges (holds_by_rule rule (t v.key)) (filter (asks_for t (t v.key)) (incoming gs v.key))) Report at
  exact (Capped k) (none, (u, by)) =
      let before : by_cap (due gs t v) (Some u) ≡ Some (Capped u.key) = rw (by.report, lt-ltb (t v.key) (due gs t v) by.early) refl in
      pick-2 (by_report v) (by_cap (due gs t v) (capper es v)) (by_floor (t v.key) v) (by_edges (holds_by_rule rule (t v.key)) (filter (asks_for t (t v.key)) (incoming gs v.key))) (Capped k) (unreported v none) (ap (by_cap (due gs t v)) by.next ∙ before ∙ ap (λ a. Some (Capped a)) by.named)
  exact Schedule (by, scheduled, arrival) =
      let chosen = by-floor-is by.unreported by.floor by.as_due in
      elim (floor-is v (t v.key) by.floor) [
        | inl s ↦ chosen ∙ ap Some s.0
        | inr f ↦
            elim (cases_Bool v.key.dep) [
              | inl dep ↦ absurd (let l = f.2 dep in omega arith)
              | inr arr ↦ absurd (let a = arrival arr in let b = f.1 in cc)
            ]
      ]
  exact Forecast (by, expected, departure) =
      let chosen = by-floor-is by.unreported by.floor by.as_due in
      elim (floor-is v (t v.key) by.floor) [
        | inl s ↦
            elim (cases_Bool v.key.dep) [
              | inl dep ↦ absurd (let l = departure dep in let e = s.1 in omega arith)
              | inr arr ↦ absurd (let a = s.2 arr in cc)
            ]
        | inr f ↦ chosen ∙ ap Some f.0
      ]
  exact (Run k) (none, (e, by, along, dep)) =
      let d = like k e none by in
      d.1.chosen ∙ ap Some (cause-along d.0 _ k (d.1.kind ∙ along) d.1.from ∙ ap (λ b. cond b (Run k) (Stop k)) dep)
  exact (Stop k) (none, (e, by, along, dep)) =
      let d = like k e none by in
      d.1.chosen ∙ ap Some (cause-along d.0 _ k (d.1.kind ∙ along) d.1.from ∙ ap (λ b. cond b (Run k) (Stop k)) dep)
  exact (Hold k) (none, (e, by, between, holds)) =
      let d = like k e none by in
      d.1.chosen ∙ ap Some (cause-between d.0 _ true k (d.1.kind ∙ between) (d.1.holds ∙ holds) d.1.from)
  exact (Kept k) (none, (e, by, between, not)) =
      let d = like k e none by in
      d.1.chosen ∙ ap Some (cause-between d.0 _ false k (d.1.kind ∙ between) (d.1.holds ∙ not) d.1.from)

-- what explains the time of an event of a valid state is its cause
pub state-exact : (nw : Network) (st : State) → IsValid nw st → (v : Event) (c : Cause) → Contains (events st) v → IsExplained nw st v c → cause nw st v ≡ Some c
unfolding event_time local due
state-exact nw st valid v c there ex =
    let es = events st in
    let gs = edges nw st in
    exact es gs (one-along nw st valid) (edges_by_rule nw st) (event_time nw st) v (time-local es gs (valid-graph nw st valid) v there) c ex
