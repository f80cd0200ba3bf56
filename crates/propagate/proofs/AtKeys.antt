-- The rule at the events of a valid state, from stored times of which some are the event times.
use Rattle.propagate.proofs.Words.{◌≡◌, ◌⊎◌, ℕ, ◌+◌, ◌^◌, ◌<◌, ◌&&◌, Bool, true, false, List}
use Rattle.propagate.proofs.Words.{Some, unwrap_or, get_or, refl, sym, ◌∙◌, ap, arith, inl, inr, All, Contains, cases_Bool}
use Rattle.propagate.proofs.Words.{and_from, false_from_ne_true, or_parts, list_any}
use Rattle.propagate.proofs.Words.{All-contains, All-contains_itself}
use Rattle.propagate.proofs.Words.{Key, Node, is_before, is_same, node_of, is_same_node, before-itself, same_node-is, same-itself, Event, Edge, events, event_named, is_live, edges, incoming, outgoing}
use Rattle.propagate.proofs.Words.{event_time, IsValid, Contains-filter, events-unique, IsLiveAt, valid-graph, incoming-leads, time-local, local, floor_of, StoredTimes, time_of, has_time, edges_to, edges_from}
use Rattle.propagate.proofs.Words.{stored_time, local_at, GraphState, FollowsRule, IsOrderOf, may_change}
use Rattle.delay_model.proofs.Solve.{local-agree, unique-below, timing-unique, LeadsTo}
use Rattle.delay_model.proofs.Bounds.{incoming-fit}
use Rattle.propagate.proofs.{Named.event-found, Named.event-live, Named.any-from, Ordered.key-live, Ordered.live-ordered, Ordered.filtered}
use Rattle.propagate.proofs.Idle.{LeavesAt, LeadsToDeparture, local-leaves, edges-depart, floor-departs}

-- what is known of a key of the order, in a valid state
module _ (g : GraphState) (valid : IsValid g.network g.state) {order : List Key} (is : IsOrderOf (events g.state) order) where
  abbrev es : List Event
  es = events g.state

  abbrev gs : List Edge
  gs = edges g.network g.state

  pub named : (k : Key) (at : IsLiveAt es k) → event_named g.state (node_of k) ≡ Some at.0
  named k at = ap (λ q. event_named g.state (node_of q)) (sym at.2) ∙ event-found g.state at.0 valid.trains at.1

  -- the edges to its event, and from it
  pub into : (k : Key) → Contains order k → edges_to g (node_of k) ≡ incoming gs k
  into k h = let at = key-live es order is k h in rw (named k at, at.2) refl

  pub out-of : (k : Key) → Contains order k → edges_from g (node_of k) ≡ outgoing gs k
  out-of k h = let at = key-live es order is k h in rw (named k at, at.2) refl

  pub live-name : (k : Key) → Contains order k → is_live g.state (node_of k) ≡ true
  live-name k h = let at = key-live es order is k h in rw (← at.2) (event-live g.state at.0 at.1 at.3)

  -- what the rule gives its event
  pub by-rule : (t : StoredTimes) (k : Key) (at : IsLiveAt es k) → local_at g t (node_of k) ≡ Some (local es gs (stored_time t) at.0)
  by-rule t k at = rw (named k at) refl

  -- two keys of the order are one, or of two events
  pub one-or-other : (k q : Key) → Contains order k → Contains order q → (q ≡ k) ⊎ (is_same_node (node_of k) (node_of q) ≡ false)
  one-or-other k q hk hq =
      let a = key-live es order is k hk in
      let b = key-live es order is q hq in
      elim (cases_Bool (is_same_node (node_of k) (node_of q))) [
        | inl same ↦ (let one = events-unique g.state valid.trains b.0 a.0 b.1 a.1 (ap node_of b.2 ∙ sym (same_node-is _ _ same) ∙ ap node_of (sym a.2)) in inl (grind arith))
        | inr other ↦ inr other
      ]

  -- stored times that are what the rule gives at each event before a key are the event times there
  module _ (times : StoredTimes) where
    -- what is stored for the event is its value
    pub value-is : (k : Key) (at : IsLiveAt es k) → FollowsRule g times k → stored_time times k ≡ local es gs (stored_time times) at.0
    value-is k at own = ap (λ o. unwrap_or o 0) (sym own ∙ by-rule times k at)

    pub time-before : (k : Key) → ((q : Key) → Contains order q → is_before q k ≡ true → FollowsRule g times q) → (q : Key) → Contains order q → is_before q k ≡ true → stored_time times q ≡ event_time g.network g.state q
    unfolding event_time
    time-before k own q h before =
        let at = key-live es order is q h in
        let r = unique-below es gs (valid-graph g.network g.state valid) (stored_time times) k (λ v there live sooner.
        value-is v.key (v, there, refl, live) (own v.key (live-ordered es order is v.key (v, there, refl, live)) sooner)) at.0 at.1 at.3 (ap (λ a. is_before a k) at.2 ∙ before) in
        rw at.2 at r

    pub time-all : ((q : Key) → Contains order q → FollowsRule g times q) → (q : Key) → Contains order q → stored_time times q ≡ event_time g.network g.state q
    unfolding event_time
    time-all own q h =
        let at = key-live es order is q h in
        let r = timing-unique es gs (valid-graph g.network g.state valid) (stored_time times) (λ v there live.
        value-is v.key (v, there, refl, live) (own v.key (live-ordered es order is v.key (v, there, refl, live)))) at.0 at.1 at.3 in
        rw at.2 at r

    module _ (k : Key) (h : Contains order k) (own : (q : Key) → Contains order q → is_before q k ≡ true → FollowsRule g times q) where
      at : IsLiveAt es k
      at = key-live es order is k h

      origin : (e : Edge) → LeadsTo es at.0.key e → Contains order e.from × (is_before e.from k ≡ true)
      origin e le = (live-ordered es order is e.from le.from_end, ap (is_before e.from) (sym at.2) ∙ le.up)

      agree : All (λ (e : Edge). stored_time times e.from ≡ event_time g.network g.state e.from) (incoming gs at.0.key)
      agree = λ i d l.
          let o = origin _ (incoming-leads es gs (valid-graph g.network g.state valid) at.0.key i d l) in time-before k own _ o.0 o.1

      pub next-fits : All (λ (e : Edge). stored_time times e.from + e.weight < 2 ^ 25) (edges_to g (node_of k))
      unfolding event_time
      next-fits = rw (into k h, ← at.2) (incoming-fit es gs (valid-graph g.network g.state valid) valid.small (stored_time times) at.0 at.1 agree)

      pub next-held : All (λ q. has_time times (node_of q) ≡ true) order → All (λ (e : Edge). has_time times (node_of e.from) ≡ true) (edges_to g (node_of k))
      next-held held = rw (into k h, ← at.2) (λ i d l.
          let o = origin _ (incoming-leads es gs (valid-graph g.network g.state valid) at.0.key i d l) in All-contains (λ q. has_time times (node_of q) ≡ true) order _ held o.0)

      -- and the rule gives the event of the key its time
      pub next-local : local_at g times (node_of k) ≡ Some (event_time g.network g.state k)
      unfolding event_time
      next-local =
          rw (named k at, local-agree es gs (stored_time times) (event_time g.network g.state) at.0 agree, ← time-local es gs (valid-graph g.network g.state valid) at.0 at.1, at.2) refl

  -- an event of the order gets another time
  module _ (old new : StoredTimes) (k : Key) (h : Contains order k) (others : (m : Node) → is_same_node (node_of k) m ≡ false → time_of new m ≡ time_of old m) where
    -- an edge from the event leads to the event of this key, and may change its time
    abbrev pub is_reached : ℕ → ℕ → Key → Bool
    is_reached was is q = list_any (λ (e : Edge). is_same e.to q && may_change was is e) (outgoing gs k)

    not_reached : (e : Edge) (q : Key) → Contains gs e → e.from ≡ k → e.to ≡ q → is_reached (stored_time old k) (stored_time new k) q ≡ false → may_change (stored_time old k) (stored_time new k) e ≡ false
    unfolding outgoing
    not_reached e q there from to none =
        false_from_ne_true _ (λ may.
        let here = Contains-filter (λ (e : Edge). is_same e.from k) gs e there (rw (from, same-itself k) refl) in
        let some = any-from (λ (e : Edge). is_same e.to q && may_change (stored_time old k) (stored_time new k) e) (outgoing gs k) e here (and_from (is_same e.to q) (may_change (stored_time old k) (stored_time new k) e) (rw (to, same-itself q) refl) may) in
        cc)

    leaves-by : (q : Key) (v : IsLiveAt es q) → (stored_time old k ≡ stored_time new k) ⊎ (is_reached (stored_time old k) (stored_time new k) q ≡ false) → (e : Edge) → Contains gs e → LeadsTo es v.0.key e → LeavesAt (floor_of v.0) (stored_time old) (stored_time new) e
    leaves-by q v none e there le =
        elim (one-or-other k e.from h (live-ordered es order is e.from le.from_end)) [
          | inr other ↦ inl (ap (λ o. unwrap_or o 0) (sym (others (node_of e.from) other)))
          | inl own ↦
              elim none [
                | inl same ↦ inl (rw own same)
                | inr fails ↦
                    let idle = not_reached e q there own (le.to_same ∙ v.2) fails in
                    let departs = All-contains LeadsToDeparture gs e (edges-depart g.network g.state) there _ (or_parts _ _ idle).0 in
                    let floor = floor-departs v.0 (ap (λ (a : Key). a.dep) (sym le.to_same) ∙ departs) in
                    let at : e.to.time ≡ v.0.key.time = ap (λ (a : Key). a.time) le.to_same in
                    inr (rw own idle, omega arith)
              ]
        ]

    -- what the rule gives another event, that no edge from it reaches, stays
    pub value-left : (q : Key) → Contains order q → is_same_node (node_of k) (node_of q) ≡ false → FollowsRule g old q → (stored_time old k ≡ stored_time new k) ⊎ (is_reached (stored_time old k) (stored_time new k) q ≡ false) → FollowsRule g new q
    unfolding incoming
    value-left q hq other own none =
        let v = key-live es order is q hq in
        let leaves : All (LeavesAt (floor_of v.0) (stored_time old) (stored_time new)) (incoming gs v.0.key) = λ i d l.
        leaves-by q v none _ (filtered (λ (e : Edge). is_same e.to v.0.key) gs _ (All-contains_itself (incoming gs v.0.key) i d l)).0 (incoming-leads es gs (valid-graph g.network g.state valid) v.0.key i d l)
        in
        let stays = local-leaves es gs (stored_time old) (stored_time new) v.0 leaves in
        by-rule new q v ∙ ap Some (sym stays) ∙ sym (by-rule old q v) ∙ own ∙ sym (others (node_of q) other)

    -- and what it gives the event itself, which no edge leads to from itself
    pub value-own : (y : ℕ) → local_at g old (node_of k) ≡ Some y → time_of new (node_of k) ≡ Some y → FollowsRule g new k
    value-own y rule later =
        let v = key-live es order is k h in
        let same : All (λ (e : Edge). stored_time new e.from ≡ stored_time old e.from) (incoming gs v.0.key) = λ i d l.
        let le = incoming-leads es gs (valid-graph g.network g.state valid) v.0.key i d l in
        elim (one-or-other k (get_or (incoming gs v.0.key) i d).from h (live-ordered es order is _ le.from_end)) [
          | inl own ↦ (let none = before-itself k in let up = le.up in let both = rw (own, v.2) at up in absurd (cc))
          | inr other ↦ ap (λ o. unwrap_or o 0) (others _ other)
        ]
        in
        by-rule new k v ∙ ap Some (local-agree es gs (stored_time new) (stored_time old) v.0 same) ∙ sym (by-rule old k v) ∙ rule ∙ sym later
