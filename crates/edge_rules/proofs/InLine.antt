-- The edges along a list of events that differ by name: one before each event, and one after.
use Rattle.edge_rules.proofs.Words.{append-nil, false_from_ne_true, ◌≡◌, ◌≢◌, ℕ, ◌+◌, ◌-◌, ◌∙◌, Bool, true, false, cond, List, [], ◌∷◌, ◌++◌, length, suc, refl, sym, ap, arith, Option, Some, None, find, get_or, slice_get, option_map_or, All, AllPairs, filter, filter-append, nat_tests, All-nil, Opts, is_same, node_of, same-is, same-itself, same_node-is, same_node-itself, Train, Event, Edge, events_of, events_at-train, is_event, train_edges, edges_along, edge_on, AllPairs-tail, AllPairs-after, AreApart}
use Rattle.std.proofs.Common.{nat_lt}
use Rattle.std.proofs.lemmas.Grind.{elements}
use Rattle.delay_model.specs.Edges.{train_edge}

-- a filter keeps nothing where nothing passes
pub filter-none : {X : Type 0} (p : X → Bool) (xs : List X) → All (λ x. p x ≡ false) xs → filter p xs ≡ []
filter-none p [] h = refl
filter-none p (x ∷ xs) h = rw (h 0 x (omega arith)) (filter-none p xs (λ k d l. h (suc k) d (omega arith)))

-- what relates each two elements relates those before one to it
pub AllPairs-before : {X : Type 0} (R : X → X → Type 0) (xs : List X) (x : X) (ys : List X) → AllPairs R (xs ++ x ∷ ys) → All (λ w. R w x) xs
AllPairs-before R xs x ys h = λ k d l. grind (arith, elements, h k (length xs) d)

-- the key is not that of the event
pub apart-left : (u v : Event) → AreApart u v → is_same u.key v.key ≡ false
apart-left u v h = false_from_ne_true (is_same u.key v.key) (λ e. h (ap node_of (same-is u.key v.key e)))

-- the last
abbrev pub last_of : {X : Type 0} → List X → Option X
last_of [] = None
last_of (x ∷ []) = Some x
last_of (x ∷ y ∷ xs) = last_of (y ∷ xs)

-- where no edge between such events passes, none along them does
pub along-none : (o : Opts) (p : Edge → Bool) (A : Event → Type 0) → ((u v : Event) → A u → A v → p (train_edge o u v) ≡ false) → (vs : List Event) → All A vs → filter p (edges_along o vs) ≡ []
along-none o p A none [] h = refl
along-none o p A none (u ∷ vs) h = grind (arith, none u, h 0 u, h 1 u, along-none o p A none vs (λ k d l. h (suc k) d (omega arith)))

-- to an event leads the edge from the event just before it, and from it the edge to the one just after it
pub beside-at : (o : Opts) (v : Event) (xs ys : List Event) → AllPairs AreApart (xs ++ v ∷ ys) → (filter (λ e. is_same e.to v.key) (edges_along o (xs ++ v ∷ ys)) ≡ option_map_or (λ u. edge_on o u (v ∷ [])) (last_of xs) []) × (filter (λ e. is_same e.from v.key) (edges_along o (xs ++ v ∷ ys)) ≡ option_map_or (λ u. edge_on o v (u ∷ [])) (slice_get ys 0) [])
beside-at o v [] ys h =
    let other : All (λ w. is_same w.key v.key ≡ false) ys = λ k d l. apart-left (get_or ys k d) v (λ same. AllPairs-after AreApart [] v ys h k d l (sym same)) in
    let none = λ (p : Edge → Bool). along-none o p (λ w. is_same w.key v.key ≡ false) in
    grind (arith, other 0 v, same-itself v.key, none (λ e. is_same e.to v.key) (λ u w a b. b) ys other, none (λ e. is_same e.from v.key) (λ u w a b. a) ys other)
beside-at o v (x ∷ []) ys h = grind (arith, same-itself v.key, apart-left x v (AllPairs-before AreApart (x ∷ []) v ys h 0 x (omega arith)), beside-at o v [] ys (AllPairs-tail AreApart x (v ∷ ys) h))
beside-at o v (x ∷ y ∷ xs) ys h =
    let earlier = AllPairs-before AreApart (x ∷ y ∷ xs) v ys h in
    grind (arith, apart-left x v (earlier 0 x (omega arith)), apart-left y v (earlier 1 x (omega arith)), beside-at o v (y ∷ xs) ys (AllPairs-tail AreApart x (y ∷ xs ++ v ∷ ys) h))

-- where of the edges between events of one train only those of train n pass a test, this keeps of the edges along the trains some of that train's
pub own-train : (o : Opts) (n : ℕ) (p : Edge → Bool) → ((u v : Event) → u.key.train ≡ v.key.train → p (train_edge o u v) ≡ true → u.key.train ≡ n) → (first : ℕ) (ts : List Train) → filter p (train_edges o first ts) ≡ cond (nat_lt n first) [] (option_map_or (λ t. filter p (edges_along o (events_of n t))) (slice_get ts (n - first)) [])
own-train o n p only first [] = grind arith
own-train o n p only first (t ∷ ts) =
    let others = λ (differ : first ≢ n). along-none o p (λ v. v.key.train ≡ first) (λ u v a b. false_from_ne_true (p (train_edge o u v)) (λ y. differ (sym a ∙ only u v (a ∙ sym b) y))) (events_of first t) (events_at-train first t.route t.calls) in
    grind (arith, nat_tests, filter-append p, others, own-train o n p only (first + 1) ts, append-nil)

-- events that differ by name are found by their names
pub self-found : (es : List Event) → AllPairs AreApart es → All (λ v. find (is_event (node_of v.key)) es ≡ Some v) es
self-found [] h = All-nil (λ (v : Event). find (is_event (node_of v.key)) [] ≡ Some v)
self-found (e ∷ es) h =
    grind (arith, elements, same_node-itself (node_of e.key), same_node-is (node_of e.key), AllPairs-after AreApart [] e es h, self-found es (AllPairs-tail AreApart e es h))
