-- Times taken over from a timetable that took the message before.
use Rattle.timetable.proofs.Words.{◌≡◌, ℕ, ◌≤◌, ◌⊎◌, ◌++◌, drop, length, length-append, map-map, changed_nodes, live_only, names_of, IsPrepared, true, false, List, [], ◌∷◌, Option, None, Some, map, filter, get_or, is_some, unwrap_or, refl, sym, ◌∙◌, ap, subst, arith, inl, inr, All, AllPairs, AllPairs-after, AllPairs-filter, AllPairs-tail, false_from_ne_true}
use Rattle.timetable.proofs.Words.{All-contains, All-contains_itself, All-head, All-tail, Contains, Contains-cases, Contains-filter, Contains-permutation, IsPermutation-sym, append_assoc, append-nil, cases_Bool, eqb-true, not-false, option_map}
use Rattle.timetable.proofs.Words.{Key, Node, is_before, is_same_node, node_of, same_node-is, same_node-itself, before-itself, Network, State, Event, IsValid, events, events-unique, event_named}
use Rattle.timetable.proofs.Words.{StoredTimes, has_time, stored_time, time_of, with_time, HasItsTime, HasTimesFor, has_another, key_order, live_keys, time_change_at, time_changes_of, TimeChange, event_time}
use Rattle.std.proofs.Math.Seq.{drop-append_seam}
use Rattle.std.specs.Bool.{if◌then◌else◌}
use Rattle.edge_rules.proofs.Neighbours.{named-there}
use Rattle.train_nodes.specs.Calls.{has_event}
use Rattle.propagate.proofs.{Named.event-found, Ordered.filtered, Ordered.keyed-live, Sized.write-fits, Sorted.keys-ordered}
use Rattle.timetable.proofs.{Prepared.names-are, TakenOut.named-event}

-- the live events for which another time than theirs is stored, in the order of their keys
abbrev pub others : Network → State → StoredTimes → List Key
others nw st old = filter (has_another nw st old) (key_order (events st))

-- of these events those of some names are left: the others are listed and have their times
pub record IsTakenTo (nw : Network) (st : State) (old : StoredTimes) (names : List Node) (now : StoredTimes) (before listed : List TimeChange) : Type 0 where
  pub left : List Key
  pub are : names ≡ map node_of left
  pub whole : listed ++ map (time_change_at nw st old) left ≡ before ++ time_changes_of nw st old
  pub live : All (Contains (live_keys (events st))) left
  pub apart : AllPairs (λ a b. is_before a b ≡ true) left
  pub ahead : All (λ k. time_of now (node_of k) ≡ time_of old (node_of k)) left
  pub times : All (λ k. Contains left k ⊎ HasItsTime nw st now k) (live_keys (events st))
  pub has_times : (s : State) → HasTimesFor s old → HasTimesFor s now

some-of : (o : Option ℕ) → is_some o ≡ true → o ≡ Some (unwrap_or o 0)
some-of None h = absurd (cc)
some-of (Some t) h = refl

split : (n : Node) (rest : List Node) (left : List Key) → n ∷ rest ≡ map node_of left → (k : Key) × (ks : List Key) × (left ≡ k ∷ ks) × (node_of k ≡ n) × (rest ≡ map node_of ks)
split n rest [] h = absurd (cc)
split n rest (k ∷ ks) h = (k, ks, refl, cc, cc)

none-left : (left : List Key) → [] ≡ map node_of left → left ≡ []
none-left [] h = refl
none-left (k ∷ ks) h = absurd (cc)

module _ {nw : Network} {st : State} (valid : IsValid nw st) (old other : StoredTimes) (held : All (λ k. has_time old (node_of k) ≡ true) (live_keys (events st))) (theirs : All (HasItsTime nw st other) (live_keys (events st))) where
  -- two live events of one name have one key
  one-name : (a b : Key) → Contains (live_keys (events st)) a → Contains (live_keys (events st)) b → node_of a ≡ node_of b → a ≡ b
  one-name a b ha hb same =
      let u = keyed-live (events st) a ha in
      let w = keyed-live (events st) b hb in
      let one = events-unique st valid.trains u.0 w.0 u.1 w.1 (ap node_of u.2 ∙ same ∙ sym (ap node_of w.2)) in
      sym u.2 ∙ ap (λ (v : Event). v.key) one ∙ w.2

  -- at first all are left
  pub taken-first : (before : List TimeChange) → IsTakenTo nw st old (map node_of (others nw st old)) old before before
  taken-first before =
      let order = keys-ordered st valid.trains in
      let another = has_another nw st old in
      record {
        left = others nw st old;
        are = refl;
        whole = refl;
        live = λ i d l.
            let k = get_or (others nw st old) i d in
            let own = filtered another (key_order (events st)) k (All-contains_itself (others nw st old) i d l) in
            Contains-permutation (key_order (events st)) (live_keys (events st)) k (IsPermutation-sym (live_keys (events st)) (key_order (events st)) order.moved) own.0;
        apart = AllPairs-filter (λ a b. is_before a b ≡ true) another (key_order (events st)) order.ascends;
        ahead = λ i d l. refl;
        times = λ i d l.
            let k = get_or (live_keys (events st)) i d in
            let there = All-contains_itself (live_keys (events st)) i d l in
            elim (cases_Bool (another k)) [
              | inl differs ↦ inl (Contains-filter another (key_order (events st)) k (Contains-permutation (live_keys (events st)) (key_order (events st)) k order.moved there) differs)
              | inr same ↦ inr (some-of (time_of old (node_of k)) (held i d l) ∙ ap Some (eqb-true (stored_time old k) (event_time nw st k) (not-false _ same)))
            ];
        has_times = λ s h. h;
      }

  module _ {n : Node} {rest : List Node} {now : StoredTimes} {before listed : List TimeChange} (part : IsTakenTo nw st old (n ∷ rest) now before listed) where
    abbrev cut : (k : Key) × (ks : List Key) × (part.left ≡ k ∷ ks) × (node_of k ≡ n) × (rest ≡ map node_of ks)
    cut = split n rest part.left part.are

    abbrev k : Key
    k = cut.0

    k-live : Contains (live_keys (events st)) k
    k-live = All-head (Contains (live_keys (events st))) k cut.1 (rw cut.2 at part.live)

    -- the next one is there, and a time is stored for it
    pub next-there : has_event st n ≡ true
    next-there =
        let v = keyed-live (events st) k k-live in
        named-there st n v.0 (subst (λ m. event_named st m ≡ Some v.0) (ap node_of v.2 ∙ cut.3) (event-found st v.0 valid.trains v.1))

    now-is : time_of now n ≡ time_of old n
    now-is = subst (λ m. time_of now m ≡ time_of old m) cut.3 (All-head (λ k. time_of now (node_of k) ≡ time_of old (node_of k)) k cut.1 (rw cut.2 at part.ahead))

    pub next-has : has_time now n ≡ true
    next-has = ap is_some now-is ∙ subst (λ m. has_time old m ≡ true) cut.3 (All-contains (λ k. has_time old (node_of k) ≡ true) (live_keys (events st)) k held k-live)

    their-time : time_of other n ≡ Some (event_time nw st k)
    their-time = subst (λ m. time_of other m ≡ Some (event_time nw st k)) cut.3 (All-contains (HasItsTime nw st other) (live_keys (events st)) k theirs k-live)

    pub next-other : has_time other n ≡ true
    next-other = ap is_some their-time

    -- the events after it have other names
    other-name : (q : Key) → Contains (live_keys (events st)) q → is_before k q ≡ true → is_same_node n (node_of q) ≡ false
    other-name q there later = false_from_ne_true _ (λ same.
        let is = one-name k q k-live there (cut.3 ∙ same_node-is n (node_of q) same) in
        let none = before-itself k in
        let own = rw (sym is) at later in absurd (cc))

    -- its time is taken over
    pub taken-next : {now_after : StoredTimes} {listed_after : List TimeChange} (r : TimeChange) → option_map (λ (v : Event). v.key) (event_named st n) ≡ Some r.key → time_of now n ≡ Some r.was → time_of other n ≡ Some r.is
        → now_after ≡ with_time n r.is now → ((m : Node) → time_of now_after m ≡ (if is_same_node n m then Some r.is else time_of now m)) → listed_after ≡ listed ++ r ∷ [] → IsTakenTo nw st old rest now_after before listed_after
    taken-next {now_after} {listed_after} r key was is stored time list =
        let ks = cut.1 in
        let live = rw cut.2 at part.live in
        let named = named-event st n r.key key in
        let u = keyed-live (events st) k k-live in
        let one = events-unique st valid.trains named.0 u.0 named.1 u.1 (named.2 ∙ sym cut.3 ∙ sym (ap node_of u.2)) in
        let key-is : r.key ≡ k = sym named.3 ∙ ap (λ (v : Event). v.key) one ∙ u.2 in
        let was-is : r.was ≡ stored_time old k = ap (λ o. unwrap_or o 0) (sym was ∙ now-is ∙ ap (time_of old) (sym cut.3)) in
        let is-is : r.is ≡ event_time nw st k = ap (λ o. unwrap_or o 0) (sym is ∙ their-time) in
        let change : r ≡ time_change_at nw st old k = grind arith in
        let after : (m : Node) → m ≡ n → time_of now_after m ≡ Some (event_time nw st k) = λ m same. rw (time m, same, same_node-itself n, is-is) refl in
        record {
          left = ks;
          are = cut.4;
          whole = rw (list, append_assoc, change) (rw cut.2 at part.whole);
          live = All-tail (Contains (live_keys (events st))) k ks live;
          apart = AllPairs-tail (λ a b. is_before a b ≡ true) k ks (rw cut.2 at part.apart);
          ahead = λ i d l.
              let q = get_or ks i d in
              let later = AllPairs-after (λ a b. is_before a b ≡ true) [] k ks (rw cut.2 at part.apart) in
              let other = other-name q (All-tail (Contains (live_keys (events st))) k ks live i d l) (later i d l) in
              rw (time (node_of q), other) (All-tail (λ k. time_of now (node_of k) ≡ time_of old (node_of k)) k ks (rw cut.2 at part.ahead) i d l);
          times = λ i d l.
              let q = get_or (live_keys (events st)) i d in
              let there = All-contains_itself (live_keys (events st)) i d l in
              elim (part.times i d l) [
                | inl c ↦ elim (Contains-cases k ks q (rw cut.2 at c)) [ inl is ↦ inr (subst (HasItsTime nw st now_after) is (after (node_of k) cut.3)) | inr more ↦ inl more ]
                | inr has ↦ elim (cases_Bool (is_same_node n (node_of q))) [
                  | inl same ↦ inr (subst (HasItsTime nw st now_after) (one-name k q k-live there (cut.3 ∙ same_node-is n (node_of q) same)) (after (node_of k) cut.3))
                  | inr differs ↦ inr (rw (time (node_of q), differs) has)
                ]
              ];
          has_times = λ s h. rw stored (write-fits s now n r.is (part.has_times s h));
        }

  -- at the end all are listed and have their times
  pub taken-all : {now : StoredTimes} {before listed : List TimeChange} → IsTakenTo nw st old [] now before listed → All (HasItsTime nw st now) (live_keys (events st)) × (listed ≡ before ++ time_changes_of nw st old)
  taken-all {now} {before} {listed} part =
      let none = none-left part.left part.are in (
        λ i d l. elim (part.times i d l) [ inl c ↦ absurd (let own = rw none at c in omega (arith, own.1)) | inr has ↦ has ],
        sym (append-nil listed) ∙ rw none at part.whole,
      )

-- ---- the timetable that took the message before, by what it is seen as

-- the events that it lists as changed are those that are taken away and those that get other times
pub taken-names : {nw : Network} {old new : State} {times : StoredTimes} → IsPrepared nw old new times → (listed : List Node) → listed ≡ changed_nodes nw old new → (first : ℕ) → first ≡ length (names_of (live_only (events old) (events new)))
    → (first ≤ length listed) × (drop first listed ≡ map node_of (others nw new times))
taken-names {nw} {old} {new} {times} p listed is first at =
    let gone = names_of (live_only (events old) (events new)) in
    let tail = map (λ (r : TimeChange). node_of r.key) (time_changes_of nw new times) in
    let whole : listed ≡ gone ++ tail = is ∙ sym (names-are p) in
    let long = length-append gone tail in (
      rw (whole, at) (omega (arith, long)),
      rw (whole, at, drop-append_seam gone tail) (map-map (λ (r : TimeChange). node_of r.key) (time_change_at nw new times) (others nw new times)),
    )
