-- The walk along the order of the keys: what is before the least mark is settled.
use Rattle.propagate.proofs.Words.{◌≡◌, ◌≢◌, ◌⊎◌, ℕ, suc, ◌+◌, ◌^◌, ◌<◌, ◌≤◌, ◌||◌, ◌&&◌, Bool, true, false, not, List, [], ◌∷◌, ◌++◌, append_assoc, append-nil, map, map-append, Vec, Global, vec_len, vec_capacity}
use Rattle.propagate.proofs.Words.{Some, unwrap_or, length, length-append, get_or, take, drop, refl, sym, ◌∙◌, ap, subst, arith, inl, inr, All, AllPairs, Contains, filter, filter-append, filter-none}
use Rattle.propagate.proofs.Words.{false_from_ne_true, eqb-true, eq-eqb, and_from, and_parts, or_parts, or_cases, sum_by, sum_by-append, list_any}
use Rattle.propagate.proofs.Words.{take-append-drop, All-contains, All-contains_itself, Contains-append_left, Contains-append_right}
use Rattle.propagate.proofs.Words.{Key, Node, is_before, is_same, node_of, is_same_node, before-itself, before-asymmetric, same-is, same-itself, Edge, events, is_live, edges, outgoing}
use Rattle.propagate.proofs.Words.{event_time, IsValid, Contains-there, StoredTimes, time_of, has_time, edges_to, edges_from}
use Rattle.propagate.proofs.Words.{stored_time, local_at, GraphState, HasItsTime, FollowsRule, HasTimesFor, IsOrderOf, live_keys, time_change_at, TimeChange, State, has_another, is_due, has_changed_feeder, may_change, reads_at, Marked, is_marked, has_key, AllPairs-before, All-permutation, Contains-permutation, IsPermutation-sym, length_permutation}
use Rattle.std.proofs.Math.Seq.{drop-cons}
use Rattle.delay_model.proofs.Ends.{JoinsLive, edges-join}
use Rattle.propagate.proofs.{Named.any-from, Named.find-any, Ordered.key-live, Ordered.live-ordered, Ordered.each-after, Ordered.stands-after, Ordered.filtered}
use Rattle.delay_model.proofs.Lists.{count_by-lt}
use Rattle.delay_model.specs.Valid.{IsForward}
use Rattle.propagate.proofs.Words.{count_by, before-trans, same_node-itself}
use Rattle.propagate.proofs.Words.{cases_Bool, nat_eq, incoming, None, Option, Event, event_named, IsSmall}
use Rattle.std.specs.Option.{IfSome}
use Rattle.std.proofs.lemmas.Bool.{true_from_ne_false}
use Rattle.state_laws.proofs.Untouched.{incoming-are}
use Rattle.propagate.specs.Asked.{AreRaised, IsRaised, TellsTime, entry_of, nothing}
use Rattle.propagate.specs.declared.asked.Asked.{Asked}
use Rattle.propagate.specs.declared.asked.AskedTable.{AskedTable}
use Rattle.propagate.proofs.Idle.{or-right}
use Rattle.propagate.proofs.Asks.{AreCovered, covered-raised, covered-same, raised-none}
use Rattle.propagate.proofs.AskedWalk.{AreAsked, IsAsked, asked-first, if-known, tells}
use Rattle.propagate.proofs.Marking.{each-marked, leads-filter, of-marked}
use Rattle.propagate.proofs.AtKeys.{into, out-of, live-name, by-rule, one-or-other, time-before, time-all, next-fits, next-held, next-local, value-is, value-left, value-own}

-- how many keys are not before the least mark
abbrev pub ahead_by : List Key → List Key → ℕ
ahead_by order [] = 0
ahead_by order (m ∷ ms) = count_by (λ q. not (is_before q m)) order

later-fails : (k m q : Key) → is_before k m ≡ true → not (is_before q m) ≡ true → not (is_before q k) ≡ true
later-fails k m q up h = grind (arith, before-trans q k m)

-- they get fewer where the least mark is taken out, and only keys after it are marked
pub ahead-less : (order : List Key) (k : Key) (rest now : List Key) → Contains order k → ((q : Key) → has_key now q ≡ true → is_before k q ≡ true) → ahead_by order now < ahead_by order (k ∷ rest)
ahead-less order k rest [] h after =
    let less = count_by-lt (λ _. false) (λ q. not (is_before q k)) order k (λ q e. absurd (cc)) h.0 h.1 h.2 refl (rw (before-itself k) refl) in omega arith
ahead-less order k rest (m ∷ ms) h after =
    let up : is_before k m ≡ true = after m (rw (same-itself m) refl) in
    count_by-lt (λ q. not (is_before q m)) (λ q. not (is_before q k)) order k (λ q e. later-fails k m q up e) h.0 h.1 h.2 (rw up refl) (rw (before-itself k) refl)

-- part of a walk along the keys in their order. The keys before the rest are passed: nothing marked is among them, and the events
-- whose time differs are listed. What is stored for each event that is not marked is what the rule gives it, and for the rest it is
-- what was stored at first
pub record IsPart (g : GraphState) (order : List Key) (old : StoredTimes) (first : Marked) (before : Vec TimeChange Global) (start : ℕ) (times : StoredTimes) (marks : Marked) (table : AskedTable) (changed : Vec TimeChange Global) (steps : ℕ) : Type 0 where
  pub passed : List Key
  pub rest : List Key
  pub whole : order ≡ passed ++ rest
  pub ahead : (q : Key) → is_marked marks q ≡ true → Contains rest q
  pub due : (q : Key) → is_marked marks q ≡ true → is_due g first old q ≡ true
  pub held : All (λ k. has_time times (node_of k) ≡ true) order
  pub values : (q : Key) → Contains order q → is_marked marks q ≡ false → FollowsRule g times q
  pub left : All (λ k. time_of times (node_of k) ≡ time_of old (node_of k)) rest
  pub asked : AreAsked g old first rest times marks table
  pub listed : changed.items ≡ before.items ++ map (time_change_at g.network g.state old) (filter (has_another g.network g.state old) passed)
  pub room : vec_len changed + length rest ≤ vec_capacity changed
  pub limit : marks.room ≡ first.room
  pub capacity : vec_capacity changed ≡ vec_capacity before
  pub has_times : (st : State) → HasTimesFor st old → HasTimesFor st times
  pub cost : steps ≤ start + sum_by (reads_at g) (filter (is_due g first old) passed)

-- a sum over the elements that pass, of which the last is one
sum-more : (f : Key → ℕ) (p : Key → Bool) (xs ys : List Key) (k : Key) → p k ≡ true → sum_by f (filter p ((xs ++ ys) ++ k ∷ [])) ≡ sum_by f (filter p xs) + sum_by f (filter p ys) + f k
sum-more f p xs ys k h =
    rw (filter-append p (xs ++ ys) (k ∷ []), filter-append p xs ys, h, sum_by-append f (filter p xs ++ filter p ys) (k ∷ []), sum_by-append f (filter p xs) (filter p ys)) (omega arith)

-- a list is cut at one of its elements
cut-at : {X : Type 0} (xs : List X) (x : X) (h : Contains xs x) → xs ≡ take h.0 xs ++ x ∷ drop (suc h.0) xs
cut-at xs x h = sym (take-append-drop h.0 xs) ∙ ap (λ ys. take h.0 xs ++ ys) (drop-cons xs h.0 x h.1 ∙ ap (λ y. y ∷ drop (suc h.0) xs) h.2)

-- at first
pub part-first : (g : GraphState) (order : List Key) (old : StoredTimes) (first : Marked) (table : AskedTable) (before : Vec TimeChange Global) (start : ℕ) → IsOrderOf (events g.state) order → All (λ k. has_time old (node_of k) ≡ true) (live_keys (events g.state)) → All (Contains (live_keys (events g.state))) first.keys
    → All (λ k. is_marked first k ≡ false → FollowsRule g old k) (live_keys (events g.state)) → vec_len before + length (live_keys (events g.state)) ≤ vec_capacity before → ((q : Key) → entry_of table q ≡ None) → IsPart g order old first before start old first table before start
part-first g order old first table before start is held known values room none =
    let live = live_keys (events g.state) in
    record {
      passed = [];
      rest = order;
      whole = refl;
      ahead = λ q h. Contains-permutation live order q is.moved (of-marked (Contains live) first known q h);
      due = λ q h. rw h refl;
      held = All-permutation (λ k. has_time old (node_of k) ≡ true) live order is.moved held;
      values = λ q h. All-contains (λ k. is_marked first k ≡ false → FollowsRule g old k) order q (All-permutation (λ k. is_marked first k ≡ false → FollowsRule g old k) live order is.moved values) h;
      left = λ i d l. refl;
      asked = asked-first g old first order table none;
      listed = sym (append-nil before.items);
      room = let long = length_permutation live order is.moved in omega arith;
      limit = refl;
      capacity = refl;
      has_times = λ st h. h;
      cost = omega arith;
    }

module _ {g : GraphState} (valid : IsValid g.network g.state) {order : List Key} (is : IsOrderOf (events g.state) order) {old : StoredTimes} {first : Marked} {before : Vec TimeChange Global} {start : ℕ} {times : StoredTimes} {marks : Marked} {table : AskedTable} {changed : Vec TimeChange Global} {steps : ℕ} (part : IsPart g order old first before start times marks table changed steps) where
  abbrev live : List Key
  live = live_keys (events g.state)

  abbrev at_time : Key → TimeChange
  at_time = time_change_at g.network g.state old

  abbrev another : Key → Bool
  another = has_another g.network g.state old

  -- what is passed or before a key, and not marked, is settled: for what is left of it no other time was stored
  settled-none : (us : List Key) → ((u : Key) → Contains us u → Contains part.rest u × (stored_time times u ≡ event_time g.network g.state u)) → filter another us ≡ []
  settled-none us h =
      filter-none another us (λ i d l.
      let r = h _ (All-contains_itself us i d l) in
      let same : stored_time old (get_or us i d) ≡ stored_time times (get_or us i d) = ap (λ o. unwrap_or o 0) (sym (All-contains (λ k. time_of times (node_of k) ≡ time_of old (node_of k)) part.rest _ part.left r.0)) in
      ap not (eq-eqb _ _ (same ∙ r.1)))

  to-live : (q : Key) → Contains order q → Contains live q
  to-live q h = Contains-permutation order live q (IsPermutation-sym live order is.moved) h

  in-order : (q : Key) → Contains part.rest q → Contains order q
  in-order q h = rw part.whole (Contains-append_right part.passed part.rest q h)

  -- in the end
  module _ (none : marks.keys ≡ []) where
    unmarked : (q : Key) → is_marked marks q ≡ false
    unmarked q = rw none refl

    in-order-times : All (HasItsTime g.network g.state times) order
    in-order-times = λ i d l.
        let q = get_or order i d in
        let h = All-contains_itself order i d l in
        let at = key-live (events g.state) order is q h in
        let t = time-all g valid is times (λ q h. part.values q h (unmarked q)) q h in
        sym (part.values q h (unmarked q)) ∙ by-rule g valid is times q at ∙ ap Some (sym (value-is g valid is times q at (part.values q h (unmarked q))) ∙ t)

    pub end-times : All (HasItsTime g.network g.state times) live
    end-times = All-permutation (HasItsTime g.network g.state times) order live (IsPermutation-sym live order is.moved) in-order-times

    pub end-marks : marks ≡ record first { keys = [] }
    end-marks = grind (arith, part.limit)

    pub end-listed : changed.items ≡ before.items ++ map at_time (filter another order)
    end-listed =
        let none = settled-none part.rest (λ u h. (h, time-all g valid is times (λ q h. part.values q h (unmarked q)) u (in-order u h))) in
        rw (part.listed, part.whole, filter-append another part.passed part.rest, none, append-nil (filter another part.passed)) refl

    pub end-cost : steps ≤ start + sum_by (reads_at g) (filter (is_due g first old) order)
    end-cost =
        let cost = part.cost in
        rw (part.whole, filter-append (is_due g first old) part.passed part.rest, sum_by-append (reads_at g) (filter (is_due g first old) part.passed) (filter (is_due g first old) part.rest)) (omega arith)

  module _ {less : Marked} {k : Key} (same_room : less.room ≡ marks.room) (taken : marks.keys ≡ k ∷ less.keys) (least : All (λ q. is_before k q ≡ true) less.keys) where
    marked-now : (q : Key) → is_marked marks q ≡ (is_same k q || is_marked less q)
    marked-now q = rw taken refl

    k-marked : is_marked marks k ≡ true
    k-marked = marked-now k ∙ rw (same-itself k) refl

    still-marked : (q : Key) → is_marked less q ≡ true → is_marked marks q ≡ true
    still-marked q h = marked-now q ∙ or-right (is_same k q) (is_marked less q) h

    after-k : (q : Key) → is_marked less q ≡ true → is_before k q ≡ true
    after-k q h = of-marked (λ q. is_before k q ≡ true) less least q h

    place : Contains part.rest k
    place = part.ahead k k-marked

    abbrev us : List Key
    us = take place.0 part.rest

    abbrev vs : List Key
    vs = drop (suc place.0) part.rest

    whole : order ≡ (part.passed ++ us) ++ k ∷ vs
    whole = part.whole ∙ ap (λ ks. part.passed ++ ks) (cut-at part.rest k place) ∙ sym (append_assoc part.passed us (k ∷ vs))

    left-over-there : (q : Key) → Contains vs q → Contains part.rest q
    left-over-there q h = subst (λ ks. Contains ks q) (sym (cut-at part.rest k place)) (Contains-append_right us (k ∷ vs) q (Contains-there k vs q h))

    pub k-there : Contains order k
    k-there = in-order k place

    before-k : (u : Key) → Contains us u → is_before u k ≡ true
    before-k u h = All-contains (λ w. is_before w k ≡ true) (part.passed ++ us) u (AllPairs-before (λ a b. is_before a b ≡ true) (part.passed ++ us) k vs (subst (AllPairs (λ a b. is_before a b ≡ true)) whole is.ascends)) (Contains-append_right part.passed us u h)

    -- what is after the key is left
    in-rest : (q : Key) → Contains order q → is_before k q ≡ true → Contains part.rest q
    in-rest q there later = left-over-there q (stands-after (events g.state) order is (part.passed ++ us) k vs whole q there later)

    -- what is before the key is not marked
    own : (q : Key) → Contains order q → is_before q k ≡ true → FollowsRule g times q
    own q h sooner =
        part.values q h (false_from_ne_true _ (λ marked.
        let none = before-itself k in
        let not = before-asymmetric q k sooner in
        elim (or_cases (is_same k q) (is_marked less q) (sym (marked-now q) ∙ marked)) [
          | inl same ↦ (let e = same-is k q same in let b = rw (← e) at sooner in cc)
          | inr more ↦ (let later = after-k q more in cc)
        ]))

    module _ {n : Node} (name : n ≡ node_of k) where
      pub part-live : is_live g.state n ≡ true
      part-live = rw name (live-name g valid is k k-there)

      pub part-held : All (λ (e : Edge). has_time times (node_of e.from) ≡ true) (edges_to g n)
      part-held = rw name (next-held g valid is times k k-there own part.held)

      pub part-fits : All (λ (e : Edge). stored_time times e.from + e.weight < 2 ^ 25) (edges_to g n)
      part-fits = rw name (next-fits g valid is times k k-there own)

      pub part-has : has_time times n ≡ true
      part-has = rw name (All-contains (λ k. has_time times (node_of k) ≡ true) order k part.held k-there)

      pub part-room : vec_len changed < vec_capacity changed
      part-room = omega (arith, part.room, place.1)

      -- the events to which it leads can be marked
      pub part-ends : All (λ (e : Edge). Contains live e.to) (edges_from g n)
      unfolding outgoing
      part-ends = rw (name, out-of g valid is k k-there) (λ i d l.
          let e = (filtered (λ (e : Edge). is_same e.from k) (edges g.network g.state) _ (All-contains_itself (outgoing (edges g.network g.state) k) i d l)).0 in
          to-live _ (live-ordered (events g.state) order is _ (All-contains (JoinsLive (events g.state)) (edges g.network g.state) _ (edges-join g.network g.state) e).to_end))

      -- the schedule leaves time enough for each edge from it
      pub part-weights : All (λ (e : Edge). e.weight < 2 ^ 24) (edges_from g n)
      unfolding outgoing
      part-weights = rw (name, out-of g valid is k k-there) (λ i d l.
          let e = get_or (outgoing (edges g.network g.state) k) i d in
          let there = (filtered (λ (e : Edge). is_same e.from k) (edges g.network g.state) _ (All-contains_itself (outgoing (edges g.network g.state) k) i d l)).0 in
          let to = (All-contains (JoinsLive (events g.state)) (edges g.network g.state) e (edges-join g.network g.state) there).to_end in
          let small = (All-contains IsSmall (events g.state) to.0 valid.small to.1).scheduled in
          let at : to.0.key.time ≡ e.to.time = ap (λ (a : Key). a.time) to.2 in
          let room = (All-contains IsForward (edges g.network g.state) e valid.forward there).room in
          omega (arith, small, at, room))

      -- what the table knows to be asked of it tells its time
      pub part-tells : All (λ k. is_marked first k ≡ false → FollowsRule g old k) live → (v : Event) → event_named g.state (node_of v.key) ≡ Some v → node_of v.key ≡ n → (o : Option Asked) → o ≡ entry_of table k → IfSome o (TellsTime g times v)
      part-tells begin v there at o is_known =
          if-known o (TellsTime g times v) (λ a e.
          let h = part.asked.known k a (sym is_known ∙ e) in
          let follows = All-contains (λ k. is_marked first k ≡ false → FollowsRule g old k) live k begin (to-live k k-there) h.fresh in
          let kept = All-contains (λ k. time_of times (node_of k) ≡ time_of old (node_of k)) part.rest k part.left place in
          tells g valid is old times a k k-there h.covered follows kept (next-fits g valid is times k k-there own) v there (at ∙ name))

      pub part-marked : All (Contains live) less.keys
      part-marked = each-marked (Contains live) less (λ q h. to-live q (in-order q (part.ahead q (still-marked q h))))

      pub part-limit : length live ≤ first.room → length live ≤ less.room
      part-limit h = omega (arith, part.limit, same_room)

      pub part-smaller : ahead_by order less.keys < ahead_by order marks.keys
      part-smaller = rw taken (ahead-less order k less.keys less.keys k-there after-k)

      module _ (x y : ℕ) (was : time_of times n ≡ Some x) (new : StoredTimes) (rule : local_at g times n ≡ Some y) (later : time_of new n ≡ Some y) (others : (m : Node) → is_same_node n m ≡ false → time_of new m ≡ time_of times m) (sizes : (st : State) → HasTimesFor st times → HasTimesFor st new) (count : ℕ) (reads : count ≤ steps + (1 + length (edges_to g n))) where
        others-k : (m : Node) → is_same_node (node_of k) m ≡ false → time_of new m ≡ time_of times m
        others-k m h = others m (rw name h)

        x-kept : stored_time times k ≡ x
        x-kept = let own = rw name at was in rw own refl

        y-kept : stored_time new k ≡ y
        y-kept = let own = rw name at later in rw own refl

        x-old : stored_time old k ≡ x
        x-old = ap (λ o. unwrap_or o 0) (sym (All-contains (λ k. time_of times (node_of k) ≡ time_of old (node_of k)) part.rest k part.left place)) ∙ x-kept

        y-time : event_time g.network g.state k ≡ y
        y-time = ap (λ o. unwrap_or o 0) (sym (next-local g valid is times k k-there own) ∙ ap (local_at g times) (sym name) ∙ rule)

        counts : x ≢ y → another k ≡ true
        counts differ = ap not (false_from_ne_true _ (λ e. differ (sym x-old ∙ eqb-true _ _ e ∙ y-time)))

        counts-not : x ≡ y → another k ≡ false
        counts-not e = ap not (eq-eqb _ _ (x-old ∙ e ∙ sym y-time))

        abbrev fed : Key → Bool
        fed q = list_any (λ (e : Edge). is_same e.to q && may_change x y e) (outgoing (edges g.network g.state) k)

        fed-by : (q : Key) → fed q ≡ true → (e : Edge) × Contains (edges g.network g.state) e × (e.from ≡ k) × (is_same e.to q ≡ true) × (may_change x y e ≡ true)
        unfolding outgoing
        fed-by q h =
            let r = find-any (λ (e : Edge). is_same e.to q && may_change x y e) (outgoing (edges g.network g.state) k) h in
            let both = and_parts (is_same r.one.to q) (may_change x y r.one) r.passes in
            let from = filtered (λ (e : Edge). is_same e.from k) (edges g.network g.state) r.one r.there in
            (r.one, from.0, same-is r.one.from k from.1, both.0, both.1)

        fed-after : (q : Key) → fed q ≡ true → Contains order q × (is_before k q ≡ true)
        fed-after q h =
            let r = fed-by q h in
            let to = same-is r.0.to q r.3 in
            let joins = All-contains (JoinsLive (events g.state)) (edges g.network g.state) r.0 (edges-join g.network g.state) r.1 in
            let goes = All-contains IsForward (edges g.network g.state) r.0 valid.forward r.1 in
            (subst (Contains order) to (live-ordered (events g.state) order is r.0.to joins.to_end), rw (r.2, to) at goes.later)

        fed-due : x ≢ y → (q : Key) → fed q ≡ true → is_due g first old q ≡ true
        fed-due differ q h =
            let r = fed-by q h in
            let may : may_change (stored_time old r.0.from) (event_time g.network g.state r.0.from) r.0 ≡ true = rw (r.2, x-old, y-time) r.4 in
            or-right (is_marked first q) (has_changed_feeder g old q)
            (any-from (λ (e : Edge). is_same e.to q && (another e.from && may_change (stored_time old e.from) (event_time g.network g.state e.from) e)) (edges g.network g.state) r.0 r.1
            (and_from _ _ r.3 (and_from _ _ (rw r.2 (counts differ)) may)))

        passes : filter another (part.passed ++ us) ≡ filter another part.passed
        passes =
            let none = settled-none us (λ u h. let there : Contains part.rest u = rw (cut-at part.rest k place) (Contains-append_left us (k ∷ vs) u h) in (there, time-before g valid is times k own u (in-order u there) (before-k u h))) in
            rw (filter-append another part.passed us, none) (append-nil (filter another part.passed))

        -- an edge to an event leaves one whose time stays, or this one
        origins : (q : Key) → All (λ (e : Edge). (stored_time new e.from ≡ stored_time times e.from) ⊎ (e.from ≡ k)) (incoming (edges g.network g.state) q)
        origins q = λ i d l.
            let e = get_or (incoming (edges g.network g.state) q) i d in
            let from = (All-contains (JoinsLive (events g.state)) (edges g.network g.state) e (edges-join g.network g.state) (incoming-are (edges g.network g.state) q i d l)).from_end in
            elim (one-or-other g valid is k e.from k-there (live-ordered (events g.state) order is e.from from)) [
              | inl own ↦ inr own
              | inr other ↦ inl (ap (λ o. unwrap_or o 0) (others-k (node_of e.from) other))
            ]

        abbrev IsCoveredAt : StoredTimes → Key → Asked → Type 0
        IsCoveredAt now q a = AreCovered (stored_time old) (stored_time now) (incoming (edges g.network g.state) q) a

        stays-covered : x ≡ y → (q : Key) (a : Asked) → IsCoveredAt times q a → IsCoveredAt new q a
        stays-covered e q a h = covered-same (edges g.network g.state) (stored_time old) (stored_time times) (stored_time new) k q x y x-old x-kept y-kept (origins q) e a h

        abbrev reaching : List Edge
        reaching = filter (may_change x y) (outgoing (edges g.network g.state) k)

        more-covered : x ≢ y → (q : Key) (c a : Asked) → IsCoveredAt times q c → IsRaised x y reaching q c a → IsCoveredAt new q a
        more-covered differ q c a h up = covered-raised (edges g.network g.state) (stored_time old) (stored_time times) (stored_time new) k q x y x-old x-kept y-kept (origins q) differ c a h up

        -- what is left, and not marked then, was not marked
        was-free : (q : Key) → is_before k q ≡ true → is_marked less q ≡ false → is_marked marks q ≡ false
        was-free q later free =
            let none = before-itself k in
            let apart = false_from_ne_true (is_same k q) (λ s. let e = same-is k q s in let no = rw (← e) at later in cc) in
            marked-now q ∙ rw (apart, free) refl

        quiet-now : (q : Key) → Contains part.rest q → is_before k q ≡ true → is_marked less q ≡ false → (x ≡ y) ⊎ (fed q ≡ false) → IsCoveredAt new q nothing
        quiet-now q there later free none =
            let before = part.asked.quiet q there (was-free q later free) in
            elim none [
              | inl e ↦ stays-covered e q nothing before
              | inr unfed ↦
                  elim (cases_Bool (nat_eq x y)) [
                    | inl e ↦ stays-covered (eqb-true x y e) q nothing before
                    | inr apart ↦
                        let quiet = raised-none x y reaching q nothing (leads-filter (may_change x y) (outgoing (edges g.network g.state) k) q ∙ unfed) in
                        more-covered (λ e. let same = eq-eqb x y e in absurd (cc)) q nothing nothing before quiet
                  ]
            ]

        -- what is asked of other events, where the table gives out what is asked of this one
        module _ (took : AskedTable) (gone : entry_of took k ≡ None) (rest_known : (q : Key) → is_same k q ≡ false → entry_of took q ≡ entry_of table q) where
          known-left : (q : Key) (a : Asked) → entry_of took q ≡ Some a → (is_marked less q ≡ true) × IsAsked g old first times marks q a
          known-left q a h =
              elim (cases_Bool (is_same k q)) [
                | inl same ↦ (let e = same-is k q same in let none = rw e at gone in absurd (cc))
                | inr apart ↦
                    let asks = part.asked.known q a (sym (rest_known q apart) ∙ h) in
                    (sym (marked-now q ∙ rw apart refl) ∙ asks.marked, asks)
              ]

          known-same : x ≡ y → (q : Key) (a : Asked) → entry_of took q ≡ Some a → IsAsked g old first new less q a
          known-same e q a h =
              let left = known-left q a h in
              record { marked = left.0; fresh = left.1.fresh; covered = stays-covered e q a left.1.covered }

          known-more : x ≢ y → (more : Marked) → ((q : Key) → is_marked more q ≡ (is_marked less q || fed q)) → (next : AskedTable) → AreRaised x y reaching less took next → (q : Key) (a : Asked) → entry_of next q ≡ Some a → IsAsked g old first new more q a
          known-more differ more now next raised q a h =
              let r = raised q a h in
              elim r.1 [
                | inl was ↦
                    let left = known-left q r.0 was in
                    record { marked = now q ∙ rw left.0 refl; fresh = left.1.fresh; covered = more-covered differ q r.0 a left.1.covered r.2 }
                | inr free ↦
                    let reached : fed q ≡ true = sym (leads-filter (may_change x y) (outgoing (edges g.network g.state) k) q) ∙ free.2 in
                    let after = fed-after q reached in
                    let unmarked = was-free q after.1 free.1 in
                    let there = in-rest q after.0 after.1 in
                    let up : IsRaised x y reaching q nothing a = rw (← free.0) r.2 in
                    record {
                      marked = now q ∙ or-right (is_marked less q) (fed q) reached;
                      fresh = false_from_ne_true (is_marked first q) (λ m. let marked = part.asked.kept q there m in absurd (cc));
                      covered = more-covered differ q nothing a (part.asked.quiet q there unmarked) up;
                    }
              ]

        module _ (more : Marked) (more_room : more.room ≡ less.room) (ins : (q : Key) → is_marked more q ≡ true → (is_marked less q ≡ true) ⊎ ((x ≢ y) × (fed q ≡ true))) (outs : (q : Key) → is_marked more q ≡ false → (is_marked less q ≡ false) × ((x ≡ y) ⊎ (fed q ≡ false))) (next : Vec TimeChange Global) (added : next.items ≡ changed.items ++ map at_time (filter another (k ∷ []))) (room : vec_len next + length vs ≤ vec_capacity next) (same : vec_capacity next ≡ vec_capacity changed) (known_table : AskedTable) (knows : (q : Key) (a : Asked) → entry_of known_table q ≡ Some a → IsAsked g old first new more q a) where
          asked-more : AreAsked g old first vs new more known_table
          asked-more =
              let after = each-after (events g.state) order is (part.passed ++ us) k vs whole in
              record {
                kept = λ q h marked.
                    let later = All-contains (λ b. is_before k b ≡ true) vs q after h in
                    true_from_ne_false (is_marked more q) (λ free.
                    let none = was-free q later (outs q free).0 in
                    let there = part.asked.kept q (left-over-there q h) marked in
                    cc);
                quiet = λ q h free.
                    let r = outs q free in
                    quiet-now q (left-over-there q h) (All-contains (λ b. is_before k b ≡ true) vs q after h) r.0 r.1;
                known = knows;
              }

          part-more : IsPart g order old first before start new more known_table next count
          part-more =
              record {
                passed = (part.passed ++ us) ++ k ∷ [];
                rest = vs;
                whole = whole ∙ sym (append_assoc (part.passed ++ us) (k ∷ []) vs);
                ahead = λ q h.
                    elim (ins q h) [
                      | inl stays ↦ stands-after (events g.state) order is (part.passed ++ us) k vs whole q (in-order q (part.ahead q (still-marked q stays))) (after-k q stays)
                      | inr comes ↦ (let r = fed-after q comes.1 in stands-after (events g.state) order is (part.passed ++ us) k vs whole q r.0 r.1)
                    ];
                due = λ q h. elim (ins q h) [ inl stays ↦ part.due q (still-marked q stays) | inr comes ↦ fed-due comes.0 q comes.1 ];
                held = λ i d l.
                    let q = get_or order i d in
                    elim (one-or-other g valid is k q k-there (All-contains_itself order i d l)) [
                      | inl e ↦ rw (e, ← name, later) refl
                      | inr other ↦ rw (others-k (node_of q) other) (part.held i d l)
                    ];
                values = λ q h unmarked.
                    let r = outs q unmarked in
                    elim (one-or-other g valid is k q k-there h) [
                      | inl e ↦ subst (FollowsRule g new) (sym e) (value-own g valid is times new k k-there others-k y (ap (local_at g times) (sym name) ∙ rule) (ap (time_of new) (sym name) ∙ later))
                      | inr other ↦
                          let apart = false_from_ne_true (is_same k q) (λ s. let e = same-is k q s in let own = same_node-itself (node_of k) in let no = rw (← e) at other in cc) in
                          let none : is_marked marks q ≡ false = marked-now q ∙ rw (apart, r.0) refl in
                          value-left g valid is times new k k-there others-k q h other (part.values q h none)
                          (elim r.1 [ inl e ↦ inl (x-kept ∙ e ∙ sym y-kept) | inr f ↦ inr (rw (x-kept, y-kept) f) ])
                    ];
                left = λ i d l.
                    let q = get_or vs i d in
                    let inside : Contains part.rest q = left-over-there q (All-contains_itself vs i d l) in
                    let after = each-after (events g.state) order is (part.passed ++ us) k vs whole i d l in
                    let none = before-itself k in
                    elim (one-or-other g valid is k q k-there (in-order q inside)) [
                      | inl e ↦ (let own = rw e at after in absurd (cc))
                      | inr other ↦ others-k (node_of q) other ∙ All-contains (λ k. time_of times (node_of k) ≡ time_of old (node_of k)) part.rest q part.left inside
                    ];
                asked = asked-more;
                listed = added ∙ ap (λ ns. ns ++ map at_time (filter another (k ∷ []))) part.listed ∙ rw (filter-append another (part.passed ++ us) (k ∷ []), passes, map-append at_time (filter another part.passed) (filter another (k ∷ [])), append_assoc before.items (map at_time (filter another part.passed)) (map at_time (filter another (k ∷ [])))) refl;
                room = room;
                limit = more_room ∙ same_room ∙ part.limit;
                capacity = same ∙ part.capacity;
                has_times = λ st h. sizes st (part.has_times st h);
                cost =
                    let cost = part.cost in
                    let here : reads_at g k ≡ 1 + length (edges_to g n) = rw (name, into g valid is k k-there) refl in
                    let sum = sum-more (reads_at g) (is_due g first old) part.passed us k (part.due k k-marked) in
                    omega (arith, here, sum, cost, reads);
              }

        left-over : length part.rest ≡ length us + suc (length vs)
        left-over = ap length (cut-at part.rest k place) ∙ length-append us (k ∷ vs)

        -- an event more whose time differs, and marks more
        pub part-differs : x ≢ y → (more : Marked) → more.room ≡ less.room → ((q : Key) → is_marked more q ≡ (is_marked less q || list_any (λ (e : Edge). is_same e.to q && may_change x y e) (edges_from g n)))
            → (next : Vec TimeChange Global) → next.items ≡ changed.items ++ record { key = k; was = x; is = y } ∷ [] → vec_len next ≡ vec_len changed + 1 → vec_capacity next ≡ vec_capacity changed
            → (took : AskedTable) → entry_of took k ≡ None → ((q : Key) → is_same k q ≡ false → entry_of took q ≡ entry_of table q) → (known_table : AskedTable) → AreRaised x y (filter (may_change x y) (edges_from g n)) less took known_table → IsPart g order old first before start new more known_table next count
        part-differs differ more more_room marked next pushed long same took gone rest_known known_table raised =
            let room = part.room in
            let raised_k : AreRaised x y reaching less took known_table = rw (name, out-of g valid is k k-there) at raised in
            let now : (q : Key) → is_marked more q ≡ (is_marked less q || fed q) = λ q. marked q ∙ rw (name, out-of g valid is k k-there) refl in
            part-more more more_room (λ q h. elim (or_cases (is_marked less q) (fed q) (sym (now q) ∙ h)) [ inl stays ↦ inl stays | inr comes ↦ inr (differ, comes) ])
            (λ q h. let both = or_parts (is_marked less q) (fed q) (sym (now q) ∙ h) in (both.0, inr both.1)) next (pushed ∙ rw (counts differ, x-old, y-time) refl) (omega (arith, left-over)) same
            known_table (known-more took gone rest_known differ more now known_table raised_k)

        -- or one whose time is as it was stored
        pub part-same : x ≡ y → (took : AskedTable) → entry_of took k ≡ None → ((q : Key) → is_same k q ≡ false → entry_of took q ≡ entry_of table q) → IsPart g order old first before start new less took changed count
        part-same e took gone rest_known =
            let room = part.room in
            part-more less refl (λ q h. inl h) (λ q h. (h, inl e)) changed (sym (append-nil changed.items) ∙ rw (counts-not e) refl) (omega (arith, left-over)) refl
            took (known-same took gone rest_known e)

        pub part-differs-smaller : (more : Marked) → ((q : Key) → is_marked more q ≡ (is_marked less q || list_any (λ (e : Edge). is_same e.to q && may_change x y e) (edges_from g n))) → ahead_by order more.keys < ahead_by order marks.keys
        part-differs-smaller more marked =
            rw taken (ahead-less order k less.keys more.keys k-there (λ q h.
            let now : is_marked more q ≡ (is_marked less q || fed q) = marked q ∙ rw (name, out-of g valid is k k-there) refl in
            elim (or_cases (is_marked less q) (fed q) (sym now ∙ h)) [ inl stays ↦ after-k q stays | inr comes ↦ (fed-after q comes).1 ]))
