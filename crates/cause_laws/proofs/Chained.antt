-- The chain of an event of a graph, and what holds of each chain.
use Rattle.std.proofs.Common.{◌≡◌, ℕ, zero, suc, ◌+◌, ◌<◌, ◌≤◌, true, List, [], ◌∷◌, Option, Some, None, length, refl, sym, ◌∙◌, ap, subst, arith, ◌⊎◌, inl, inr}
use Rattle.std.proofs.Math.Logic.{◌≢◌}
use Rattle.std.specs.List.{All, AllPairs, Contains}
use Rattle.std.specs.Option.{MatchOption, option_map_or, option_and_then}
use Rattle.std.proofs.lemmas.List.Elements.{All-cons, All-nil, All-weaker, All-contains}
use Rattle.mt_base.specs.declared.keys.Key.{Key}
use Rattle.mt_base.specs.Order.{is_before, is_same}
use Rattle.mt_base.proofs.KeyLemmas.{before-trans, before-itself, same-itself}
use Rattle.delay_model.specs.declared.network.Network.{Network}
use Rattle.delay_model.specs.declared.state.State.{State}
use Rattle.delay_model.specs.declared.state.Event.{Event}
use Rattle.delay_model.specs.declared.state.Edge.{Edge}
use Rattle.delay_model.specs.Events.{events}
use Rattle.delay_model.specs.Edges.{edges}
use Rattle.delay_model.specs.Timing.{counts, event_with, time, event_time}
use Rattle.delay_model.specs.Valid.{IsForward, IsValid}
use Rattle.delay_model.proofs.Lists.{AllPairs-nil, AllPairs-cons}
use Rattle.delay_model.proofs.Ends.{JoinsLive}
use Rattle.delay_model.proofs.Solve.{IsGraph, valid-graph, rank, rank-lt-length, LeadsTo, incoming-leads, incoming-there, event_with-own}
use Rattle.cause_laws.specs.declared.causes.Cause.{Cause}
use Rattle.cause_laws.specs.declared.causes.Cause.TheVariants.{Report, Capped, Schedule, Forecast, Run, Stop, Hold, Kept}
use Rattle.cause_laws.specs.declared.causes.Link.{Link}
use Rattle.cause_laws.specs.Causes.{cause_over, edges_by_rule, IsDecidedBy, Explains}
use Rattle.cause_laws.specs.Chains.{origin, next, link, chain_over, chain, IsChainOver, IsChain, EndsPlainly, IsAfter, Follows, AreLinked}
use Rattle.cause_laws.proofs.Deciding.{HasCause, has-cause}

-- u is the next event of the chain of v after the cause c
pub record IsNext (es : List Event) (gs : List Edge) (t : Key → ℕ) (v : Event) (c : Cause) (u : Event) : Type 0 where
  pub names : origin c ≡ Some u.key
  pub unreported : v.report ≡ None
  pub there : Contains es u
  pub live : u.live ≡ true
  pub found : event_with es u.key ≡ Some u
  pub time : (((k : Key) × (c ≡ Capped k)) × (u.report ≡ Some (t v.key))) ⊎ ((is_before u.key v.key ≡ true) × (rank es u.key < rank es v.key) × ((e : Edge) × Contains gs e × (e.from ≡ u.key) × (e.to ≡ v.key) × (t v.key ≡ t u.key + e.weight) × (counts e.kind e.to.time (t v.key) ≡ true)))

-- the cause names nothing, or the next event
abbrev pub NextCases : List Event → List Edge → (Key → ℕ) → Event → Cause → Type 0
NextCases es gs t v c = (origin c ≡ None) ⊎ ((u : Event) × IsNext es gs t v c u)

pub to-same : (e : Edge) (v : Event) → e.to ≡ v.key → is_same e.to v.key ≡ true
to-same e v h = ap (λ k. is_same k v.key) h ∙ same-itself v.key

module _ (es : List Event) (gs : List Edge) (graph : IsGraph es gs) (rule : List Edge) (t : Key → ℕ) where
  own : (u : Event) → Contains es u → event_with es u.key ≡ Some u
  own u there = event_with-own es u (λ w h e. graph.one w u h there e) there

  next-by-edge : (v : Event) (c : Cause) (k : Key) (e : Edge) → origin c ≡ Some k → v.report ≡ None → IsDecidedBy gs rule t v k e → (u : Event) × IsNext es gs t v c u
  next-by-edge v c k e names none by =
      let joins = All-contains (JoinsLive es) gs e graph.joins by.there in
      let goes = All-contains IsForward gs e graph.forward by.there in
      let u = joins.from_end.0 in
      let same : u.key ≡ k = joins.from_end.2 ∙ by.from in
      let leads = All-contains (LeadsTo es v.key) _ e (incoming-leads es gs graph v.key) (incoming-there gs v.key e by.there (to-same e v by.to)) in
      let lower = leads.lower in
      let at : rank es u.key ≡ rank es e.from = ap (rank es) joins.from_end.2 in (
        u,
        record {
          names = names ∙ ap Some (sym same);
          unreported = none;
          there = joins.from_end.1;
          live = joins.from_end.3;
          found = own u joins.from_end.1;
          time = inr (ap (λ a. is_before a v.key) joins.from_end.2 ∙ leads.up, omega arith, (e, by.there, sym joins.from_end.2, by.to, by.time ∙ ap (λ a. t a + e.weight) (sym same), by.counting));
        },
      )

  -- what a cause names is the next event
  next-cases : (v : Event) (c : Cause) → Explains es gs rule t v c → NextCases es gs t v c
  next-cases v Report ex = inl refl
  next-cases v (Capped k) (none, (u, by)) =
      inr (u, record { names = ap Some (sym by.named); unreported = none; there = by.there; live = by.live; found = own u by.there; time = inl ((k, refl), by.report) })
  next-cases v Schedule ex = inl refl
  next-cases v Forecast ex = inl refl
  next-cases v (Run k) (none, (e, by, kind, dep)) = inr (next-by-edge v (Run k) k e refl none by)
  next-cases v (Stop k) (none, (e, by, kind, arr)) = inr (next-by-edge v (Stop k) k e refl none by)
  next-cases v (Hold k) (none, (e, by, kind, rest)) = inr (next-by-edge v (Hold k) k e refl none by)
  next-cases v (Kept k) (none, (e, by, kind, rest)) = inr (next-by-edge v (Kept k) k e refl none by)

  chain-step : (n : ℕ) (v : Event) (c : Cause) (o : Option Event) → cause_over es gs rule t v ≡ Some c → next es c ≡ o → chain_over es gs rule t (suc n) v ≡ link t v c ∷ option_map_or (chain_over es gs rule t n) o []
  unfolding chain_over
  chain-step n v c o h is =
      ap (λ x. option_map_or (λ (c : Cause). link t v c ∷ option_map_or (chain_over es gs rule t n) (next es c) []) x []) h
      ∙ ap (λ x. link t v c ∷ option_map_or (chain_over es gs rule t n) x []) is

  -- so many links are enough for the chain of an event
  Enough : Event → ℕ → Type 0
  Enough v n = (rank es v.key + 2 ≤ n) ⊎ (((r : ℕ) × (v.report ≡ Some r)) × (0 < n))

  enough-next : (n : ℕ) (v : Event) (c : Cause) (u : Event) → IsNext es gs t v c u → Enough v (suc n) → Enough u n
  unfolding Enough
  enough-next n v c u is (inr (reported, l)) = absurd (let a = reported.1 in let b = is.unreported in cc)
  enough-next n v c u is (inl l) =
      elim is.time [
        | inl capped ↦ inr ((t v.key, capped.1), omega arith)
        | inr edge ↦ let less = edge.1 in inl (omega arith)
      ]

  chain-from : ((v : Event) → Contains es v → HasCause es gs rule t v) → (n : ℕ) (v : Event) → Contains es v → Enough v n → IsChainOver es gs rule t v (chain_over es gs rule t n v)
  unfolding Enough
  chain-from has zero v there (inl l) = absurd (omega arith)
  chain-from has zero v there (inr (reported, l)) = absurd (omega arith)
  chain-from has (suc n) v there enough =
      let h = has v there in
      let c = h.0 in
      elim (next-cases v c h.2) [
        | inl none ↦
            subst (λ ls. IsChainOver es gs rule t v ls) (sym (chain-step n v c None h.1 (ap (option_and_then (event_with es)) none)))
            (refl, refl, h.1, h.2, subst (λ o. MatchOption o (◌≡◌ {A = List Link} [] []) (λ k. (u : Event) × Contains es u × (u.key ≡ k) × (u.live ≡ true) × IsChainOver es gs rule t u [])) (sym none) refl)
        | inr some ↦
            let u = some.0 in
            let is = some.1 in
            let rest = chain_over es gs rule t n u in
            subst (λ ls. IsChainOver es gs rule t v ls) (sym (chain-step n v c (Some u) h.1 (ap (option_and_then (event_with es)) is.names ∙ is.found)))
            (refl, refl, h.1, h.2, subst (λ o. MatchOption o (rest ≡ []) (λ k. (u : Event) × Contains es u × (u.key ≡ k) × (u.live ≡ true) × IsChainOver es gs rule t u rest)) (sym is.names) (u, is.there, refl, is.live, chain-from has n u is.there (enough-next n v c u is enough)))
      ]

  -- what comes after the first link
  Rest : Cause → List Link → Type 0
  Rest c ls = MatchOption (origin c) (ls ≡ []) (λ k. (u : Event) × Contains es u × (u.key ≡ k) × (u.live ≡ true) × IsChainOver es gs rule t u ls)

  -- nothing, or the chain of the next event
  abbrev pub RestCases : Event → Cause → List Link → Type 0
  RestCases v c ls = ((origin c ≡ None) × (ls ≡ [])) ⊎ ((u : Event) × IsNext es gs t v c u × IsChainOver es gs rule t u ls)

  rest-by : (v : Event) (c : Cause) (ls : List Link) (o : Option Key) → origin c ≡ o → NextCases es gs t v c → MatchOption o (ls ≡ []) (λ k. (u : Event) × Contains es u × (u.key ≡ k) × (u.live ≡ true) × IsChainOver es gs rule t u ls) → RestCases v c ls
  rest-by v c ls None is cases h = inl (is, h)
  rest-by v c ls (Some k) is (inl none) h = absurd (cc)
  rest-by v c ls (Some k) is (inr (u, next)) (w, there, key, live, rest) =
      let names = next.names in
      let at : u.key ≡ k = cc in
      let same : w ≡ u = graph.one w u there next.there (key ∙ sym at) in
      inr (u, next, subst (λ x. IsChainOver es gs rule t x ls) same rest)

  pub rest-cases : (v : Event) (l : Link) (ls : List Link) → IsChainOver es gs rule t v (l ∷ ls) → RestCases v l.cause ls
  rest-cases v l ls h = rest-by v l.cause ls (origin l.cause) refl (next-cases v l.cause h.3) h.4

  -- the last link is plain
  pub ends : (v : Event) (ls : List Link) → IsChainOver es gs rule t v ls → EndsPlainly ls
  ends v [] h = absurd h
  ends v (l ∷ []) h =
      elim (rest-cases v l [] h) [
        | inl none ↦ none.0
        | inr some ↦ absurd some.2
      ]
  ends v (l ∷ m ∷ ms) h =
      elim (rest-cases v l (m ∷ ms) h) [
        | inl none ↦ absurd (let e = none.1 in cc)
        | inr some ↦ ends some.0 (m ∷ ms) some.2
      ]

  -- the cause of a reported event is its report
  reported-cause : (u : Event) (r : ℕ) (c : Cause) → u.report ≡ Some r → Explains es gs rule t u c → (c ≡ Report) × (t u.key ≡ r)
  reported-cause u r Report h ex = (refl, cc)
  reported-cause u r (Capped k) h ex = absurd (let n = ex.0 in cc)
  reported-cause u r Schedule h ex = absurd (let n = ex.0.unreported in cc)
  reported-cause u r Forecast h ex = absurd (let n = ex.0.unreported in cc)
  reported-cause u r (Run k) h ex = absurd (let n = ex.0 in cc)
  reported-cause u r (Stop k) h ex = absurd (let n = ex.0 in cc)
  reported-cause u r (Hold k) h ex = absurd (let n = ex.0 in cc)
  reported-cause u r (Kept k) h ex = absurd (let n = ex.0 in cc)

  after-by : (v u : Event) (l m : Link) → l.event ≡ v.key → l.time ≡ t v.key → m.event ≡ u.key → m.time ≡ t u.key → (e : Edge) → Contains gs e → e.from ≡ u.key → e.to ≡ v.key → t v.key ≡ t u.key + e.weight → IsAfter gs l m
  after-by v u l m le lt me mt e there from to time = (e, there, from ∙ sym me, to ∙ sym le, omega arith)

  follows : (v u : Event) (l m : Link) (ms : List Link) → IsNext es gs t v l.cause u → IsChainOver es gs rule t v (l ∷ m ∷ ms) → IsChainOver es gs rule t u (m ∷ ms) → Follows gs l m
  follows v u l m ms next h k =
      let lt = h.1 in
      let mt = k.1 in (
        next.names ∙ ap Some (sym k.0),
        elim next.time [
          | inl capped ↦
              let is = reported-cause u (t v.key) m.cause capped.1 k.3 in
              let same = is.1 in
              inl (capped.0, is.0, omega arith)
          | inr edge ↦ let e = edge.2 in inr (after-by v u l m h.0 lt k.0 mt e.0 e.1 e.2 e.3 e.4)
        ],
      )

  -- each link is followed as its cause says
  pub linked : (v : Event) (ls : List Link) → IsChainOver es gs rule t v ls → AreLinked gs ls
  linked v [] h = tt
  linked v (l ∷ []) h = tt
  linked v (l ∷ m ∷ ms) h =
      elim (rest-cases v l (m ∷ ms) h) [
        | inl none ↦ absurd (let e = none.1 in cc)
        | inr some ↦ (follows v some.0 l m ms some.1 h some.2, linked some.0 (m ∷ ms) some.2)
      ]

  -- a link of a reported event
  IsOfReported : Link → Type 0
  IsOfReported l = (w : Event) × Contains es w × (w.key ≡ l.event) × ((r : ℕ) × (w.report ≡ Some r))

  -- a link of an event before v, or of a reported one
  IsBelow : Event → Link → Type 0
  IsBelow v l = (is_before l.event v.key ≡ true) ⊎ IsOfReported l

  below-through : (u v : Event) → is_before u.key v.key ≡ true → (l : Link) → IsBelow u l → IsBelow v l
  unfolding IsBelow
  below-through u v before l (inl b) = inl (before-trans l.event u.key v.key b before)
  below-through u v before l (inr r) = inr r

  none-after-report : (u : Event) (r : ℕ) (m : Link) (ms : List Link) → u.report ≡ Some r → IsChainOver es gs rule t u (m ∷ ms) → ms ≡ []
  none-after-report u r m ms report k =
      elim (rest-cases u m ms k) [
        | inl none ↦ none.1
        | inr some ↦ absurd (let n = some.1.unreported in cc)
      ]

  below : (v : Event) (l : Link) (ls : List Link) → IsChainOver es gs rule t v (l ∷ ls) → All (IsBelow v) ls
  unfolding IsBelow IsOfReported
  below v l [] h = All-nil (IsBelow v)
  below v l (m ∷ ms) h =
      elim (rest-cases v l (m ∷ ms) h) [
        | inl none ↦ absurd (let e = none.1 in cc)
        | inr some ↦
            let u = some.0 in
            let k = some.2 in
            elim some.1.time [
              | inl capped ↦
                  All-cons (IsBelow v) m ms (inr (u, some.1.there, sym k.0, (t v.key, capped.1)))
                  (subst (λ xs. All (IsBelow v) xs) (sym (none-after-report u (t v.key) m ms capped.1 k)) (All-nil (IsBelow v)))
              | inr edge ↦
                  All-cons (IsBelow v) m ms (inl (ap (λ a. is_before a v.key) k.0 ∙ edge.0))
                  (All-weaker (IsBelow u) (IsBelow v) (λ x b. below-through u v edge.0 x b) ms (below u m ms k))
            ]
      ]

  not-again : (v : Event) → Contains es v → v.report ≡ None → (l m : Link) → l.event ≡ v.key → IsBelow v m → l.event ≢ m.event
  unfolding IsBelow IsOfReported
  not-again v there none l m at (inl b) = λ same. let c : is_before v.key v.key ≡ true = ap (λ a. is_before a v.key) (sym at ∙ same) ∙ b in let d = before-itself v.key in cc
  not-again v there none l m at (inr (w, here, key, (r, report))) = λ same. let one = graph.one w v here there (key ∙ sym same ∙ at) in let e : w.report ≡ v.report = ap (λ (x : Event). x.report) one in cc

  -- no event comes twice
  pub once : (v : Event) (ls : List Link) → Contains es v → IsChainOver es gs rule t v ls → AllPairs (λ l m. l.event ≢ m.event) ls
  once v [] there h = AllPairs-nil (λ l m. l.event ≢ m.event)
  once v (l ∷ ls) there h =
      elim (rest-cases v l ls h) [
        | inl none ↦ subst (λ xs. AllPairs (λ (l m : Link). l.event ≢ m.event) (l ∷ xs)) (sym none.1) (AllPairs-cons (λ l m. l.event ≢ m.event) l [] (All-nil (λ m. l.event ≢ m.event)) (AllPairs-nil (λ l m. l.event ≢ m.event)))
        | inr some ↦
            AllPairs-cons (λ l m. l.event ≢ m.event) l ls (All-weaker (IsBelow v) (λ m. l.event ≢ m.event) (λ m b. not-again v there some.1.unreported l m h.0 b) ls (below v l ls h))
            (once some.0 ls some.1.there some.2)
      ]

  link-agree : (l m : Link) → l.event ≡ m.event → l.time ≡ m.time → l.cause ≡ m.cause → l ≡ m
  link-agree l m p q r = λ i. record { event = p i; time = q i; cause = r i }

  -- there is one chain
  pub unique : (v : Event) (ls ms : List Link) → IsChainOver es gs rule t v ls → IsChainOver es gs rule t v ms → ls ≡ ms
  unique v [] ms h k = absurd h
  unique v (l ∷ ls) [] h k = absurd k
  unique v (l ∷ ls) (m ∷ ms) h k =
      let cl = h.2 in
      let cm = k.2 in
      let cause : l.cause ≡ m.cause = cc in
      let same = link-agree l m (h.0 ∙ sym k.0) (h.1 ∙ sym k.1) cause in
      let name : origin l.cause ≡ origin m.cause = ap origin cause in
      elim (rest-cases v l ls h) [
        | inl none ↦
            elim (rest-cases v m ms k) [
              | inl nothing ↦ λ i. same i ∷ (none.1 ∙ sym nothing.1) i
              | inr some ↦ absurd (let a = none.0 in let b = some.1.names in cc)
            ]
        | inr some ↦
            elim (rest-cases v m ms k) [
              | inl nothing ↦ absurd (let a = nothing.0 in let b = some.1.names in cc)
              | inr other ↦
                  let a = some.1.names in
                  let b = other.1.names in
                  let key : other.0.key ≡ some.0.key = cc in
                  let one = graph.one other.0 some.0 other.1.there some.1.there key in
                  λ i. same i ∷ unique some.0 ls ms some.2 (subst (λ x. IsChainOver es gs rule t x ms) one other.2) i
            ]
      ]

-- the chain of an event of a valid state
pub state-chain : (nw : Network) (st : State) → IsValid nw st → (v : Event) → Contains (events st) v → IsChain nw st v (chain nw st v)
unfolding event_time Enough
state-chain nw st valid v there =
    let es = events st in
    let gs = edges nw st in
    let graph = valid-graph nw st valid in
    let rule = edges_by_rule nw st in
    let less = rank-lt-length es v there in
    chain-from es gs graph rule (time es gs) (λ u here. has-cause es gs graph rule u here) (length es + 1) v there (inl (omega arith))
