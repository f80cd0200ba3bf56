-- Evaluation in the order of keys.
use Rattle.std.proofs.Common.{◌≡◌, ℕ, zero, suc, ◌+◌, ◌^◌, ◌<◌, ◌≤◌, Bool, true, false, cond, List, [], ◌∷◌, ◌++◌, ◌-◌, length, get_or, take, map, refl, sym, ◌∙◌, ap, subst, arith, inl, inr}
use Rattle.std.specs.List.{All, Contains}
use Rattle.std.specs.List.Sorted.{IsPermutation, IsSortedByKey}
use Rattle.std.specs.Ordering.{is_lt, is_gt, ordering_reverse}
use Rattle.std.specs.declared.cmp.Ordering.{Ordering}
use Rattle.std.specs.declared.cmp.Ordering.TheVariants.{Less, Equal, Greater}
use Rattle.std.proofs.lemmas.List.{get_or-take, length-take, map_more, take_all}
use Rattle.std.proofs.lemmas.Bool.{cases_lt, cases_Bool}
use Rattle.std.proofs.lemmas.Cmp.{upto}
use Rattle.std.proofs.lemmas.List.Elements.{All-weaker, Contains-get_or}
use Rattle.std.proofs.lemmas.List.Sorted.{Contains-permutation, IsPermutation-sym}
use Rattle.mt_base.specs.declared.keys.Key.{Key}
use Rattle.mt_base.specs.Order.{key_cmp, is_before, is_same}
use Rattle.mt_base.proofs.KeyLemmas.{keys_total, before-itself, same-is, same-itself}
use Rattle.delay_model.specs.declared.network.Network.{Network}
use Rattle.delay_model.specs.declared.state.State.{State}
use Rattle.delay_model.specs.declared.state.Event.{Event}
use Rattle.delay_model.specs.declared.state.Edge.{Edge}
use Rattle.delay_model.specs.declared.state.Timed.{Timed}
use Rattle.delay_model.specs.Events.{events, live_events}
use Rattle.delay_model.specs.Edges.{edges}
use Rattle.delay_model.specs.Timing.{incoming, local, time, event_time, timed_by, live_times, time_at}
use Rattle.delay_model.proofs.Lists.{Contains-there}
use Rattle.delay_model.specs.Valid.{IsSmall, IsValid}
use Rattle.delay_model.proofs.Solve.{IsGraph, valid-graph, LeadsTo, incoming-leads, incoming-each, local-agree, time-local}
use Rattle.delay_model.proofs.Bounds.{incoming-fit, time-small}

gt-reverse : (o : Ordering) → is_gt (ordering_reverse o) ≡ is_lt o
gt-reverse Less = refl
gt-reverse Equal = refl
gt-reverse Greater = refl

gt-before : (a b : Key) → is_gt (key_cmp a b) ≡ is_before b a
unfolding is_before
gt-before a b = ap is_gt (keys_total.antisymm a b) ∙ gt-reverse (key_cmp b a)

not_before-trans : (a b c : Key) → is_before b a ≡ false → is_before c b ≡ false → is_before c a ≡ false
not_before-trans a b c h k = sym (gt-before a c) ∙ upto keys_total a b c (gt-before a b ∙ h) (gt-before b c ∙ k)

adjacent : (xs : List Event) → IsSortedByKey (λ v. v.key) key_cmp xs → (k : ℕ) (d : Event) → k + 1 < length xs → is_before (get_or xs (k + 1) d).key (get_or xs k d).key ≡ false
unfolding is_before
adjacent xs sorted k d l = sorted k d (omega arith) l

-- no later element stands before an earlier one
rises : (xs : List Event) → IsSortedByKey (λ v. v.key) key_cmp xs → (d : Event) (i n : ℕ) → i + n < length xs → is_before (get_or xs (i + n) d).key (get_or xs i d).key ≡ false
rises xs sorted d i zero l =
    let e : i + 0 ≡ i = omega arith in
    ap (λ k. is_before (get_or xs k d).key (get_or xs i d).key) e ∙ before-itself (get_or xs i d).key
rises xs sorted d i (suc n) l =
    let e : i + suc n ≡ i + n + 1 = omega arith in
    ap (λ k. is_before (get_or xs k d).key (get_or xs i d).key) e
    ∙ not_before-trans (get_or xs i d).key (get_or xs (i + n) d).key (get_or xs (i + n + 1) d).key (rises xs sorted d i n (omega arith)) (adjacent xs sorted (i + n) d (omega arith))

get_or-same : {X : Type 0} (xs : List X) (i : ℕ) (d e : X) → i < length xs → get_or xs i d ≡ get_or xs i e
get_or-same [] i d e l = absurd (omega arith)
get_or-same (x ∷ xs) zero d e l = refl
get_or-same (x ∷ xs) (suc i) d e l = get_or-same xs i d e (omega arith)

too_late : (xs : List Event) → IsSortedByKey (λ v. v.key) key_cmp xs → (i : ℕ) (d : Event) (u : Event) (h : Contains xs u) → is_before u.key (get_or xs i d).key ≡ true → i ≤ h.0 → ⊥
too_late xs sorted i d u h before le =
    let lt = h.1 in
    let e : i + (h.0 - i) ≡ h.0 = omega arith in
    let inside : i + (h.0 - i) < length xs = omega arith in
    let no_fall = rises xs sorted u i (h.0 - i) inside in
    let a : is_before (get_or xs (i + (h.0 - i)) u).key (get_or xs i u).key ≡ is_before u.key (get_or xs i d).key =
    ap (λ k. is_before (get_or xs k u).key (get_or xs i u).key) e
    ∙ ap (λ w. is_before w.key (get_or xs i u).key) h.2
    ∙ ap (λ w. is_before u.key w.key) (get_or-same xs i u d (omega arith))
    in
    let both : true ≡ false = sym before ∙ sym a ∙ no_fall in
    cc

-- the times that are kept for events are theirs
time_at-rows : (t : Key → ℕ) (vs : List Event) (u : Event) (k : ℕ) → k < length vs → get_or vs k u ≡ u → time_at (map (timed_by t) vs) u.key ≡ t u.key
time_at-rows t [] u k l at = absurd (omega arith)
time_at-rows t (v ∷ vs) u zero l at =
    ap (λ x. cond (is_same x.key u.key) (t x.key) (time_at (map (timed_by t) vs) u.key)) at
    ∙ ap (λ b. cond b (t u.key) (time_at (map (timed_by t) vs) u.key)) (same-itself u.key)
time_at-rows t (v ∷ vs) u (suc k) l at =
    let rest : time_at (map (timed_by t) vs) u.key ≡ t u.key = time_at-rows t vs u k (omega arith) at in
    elim (cases_Bool (is_same v.key u.key)) [
      | inl alike ↦ ap (λ b. cond b (t v.key) (time_at (map (timed_by t) vs) u.key)) alike ∙ ap t (same-is v.key u.key alike)
      | inr differs ↦ ap (λ b. cond b (t v.key) (time_at (map (timed_by t) vs) u.key)) differs ∙ rest
    ]

module _ (es : List Event) (gs : List Edge) (graph : IsGraph es gs) (small : All IsSmall es) (order : List Event) (moved : IsPermutation es order) (sorted : IsSortedByKey (λ v. v.key) key_cmp order) (i : ℕ) (d : Event) (l : i < length order) where
  here : Contains es (get_or order i d)
  here = Contains-permutation order es (get_or order i d) (IsPermutation-sym es order moved) (Contains-get_or order i d l)

  -- an event before the i-th stands among the first i
  stands : (u : Event) → Contains order u → is_before u.key (get_or order i d).key ≡ true → Contains (take i order) u
  stands u h before =
      let t = length-take i order in
      let inside = h.1 in
      elim (cases_lt h.0 i) [
        | inl lt ↦ (h.0, omega arith, get_or-take i order h.0 u lt ∙ h.2)
        | inr le ↦ absurd (too_late order sorted i d u h before le)
      ]

  kept-is : All (λ e. time_at (map (timed_by (time es gs)) (take i order)) e.from ≡ time es gs e.from) (incoming gs (get_or order i d).key)
  kept-is =
      All-weaker (LeadsTo es (get_or order i d).key) (λ e. time_at (map (timed_by (time es gs)) (take i order)) e.from ≡ time es gs e.from) (λ e le.
      let end = le.from_end in
      let among = stands end.0 (Contains-permutation es order end.0 moved end.1) (ap (λ a. is_before a (get_or order i d).key) end.2 ∙ le.up) in
      ap (time_at (map (timed_by (time es gs)) (take i order))) (sym end.2)
      ∙ time_at-rows (time es gs) (take i order) end.0 among.0 among.1 among.2
      ∙ ap (time es gs) end.2) (incoming gs (get_or order i d).key) (incoming-leads es gs graph (get_or order i d).key)

  -- the local rule gives the i-th event its time
  local-is : local es gs (time_at (map (timed_by (time es gs)) (take i order))) (get_or order i d) ≡ time es gs (get_or order i d).key
  local-is =
      local-agree es gs (time_at (map (timed_by (time es gs)) (take i order))) (time es gs) (get_or order i d) kept-is
      ∙ sym (time-local es gs graph (get_or order i d) here)

  fits : All (λ e. is_same e.to (get_or order i d).key ≡ true → time_at (map (timed_by (time es gs)) (take i order)) e.from + e.weight < 2 ^ 25) gs
  fits =
      incoming-each (λ (e : Edge). time_at (map (timed_by (time es gs)) (take i order)) e.from + e.weight < 2 ^ 25) gs (get_or order i d).key
      (incoming-fit es gs graph small (time_at (map (timed_by (time es gs)) (take i order))) (get_or order i d) here kept-is)

  small-here : time es gs (get_or order i d).key < 2 ^ 25
  small-here = omega (arith, time-small es gs graph small (get_or order i d) here)

abbrev row_of : Key → ℕ → Timed
row_of k x = record { key = k; time = x }

live-or : (t u : Key → ℕ) (b : Bool) (v : Event) (xs ys : List Timed) → t v.key ≡ u v.key → xs ≡ ys → cond b (timed_by t v ∷ xs) xs ≡ cond b (timed_by u v ∷ ys) ys
live-or t u true v xs ys h e = ap (λ (x : ℕ). row_of v.key x ∷ xs) h ∙ ap (λ zs. timed_by u v ∷ zs) e
live-or t u false v xs ys h e = e

map-cond : (t : Key → ℕ) (b : Bool) (v : Event) (vs : List Event) → map (timed_by t) (cond b (v ∷ vs) vs) ≡ cond b (timed_by t v ∷ map (timed_by t) vs) (map (timed_by t) vs)
map-cond t true v vs = refl
map-cond t false v vs = refl

same-live : (t u : Key → ℕ) (es : List Event) → ((v : Event) → Contains es v → t v.key ≡ u v.key) → map (timed_by t) (live_events es) ≡ map (timed_by u) (live_events es)
same-live t u [] h = refl
same-live t u (v ∷ vs) h =
    map-cond t v.live v (live_events vs)
    ∙ live-or t u v.live v (map (timed_by t) (live_events vs)) (map (timed_by u) (live_events vs)) (h v (0, omega arith, refl)) (same-live t u vs (λ w i. h w (Contains-there v vs w i)))
    ∙ sym (map-cond u v.live v (live_events vs))

-- part of an evaluation: `rows` keep the times of the first events of `order`
pub record Keeps (nw : Network) (st : State) (es : List Event) (gs : List Edge) (order : List Event) (i : ℕ) (rows : List Timed) : Type 0 where
  pub all_events : es ≡ events st
  pub all_edges : gs ≡ edges nw st
  pub moved : IsPermutation es order
  pub sorted : IsSortedByKey (λ (v : Event). v.key) key_cmp order
  pub kept : rows ≡ map (timed_by (event_time nw st)) (take i order)

asked_fits : List Edge → List Timed → Event → Type 0
asked_fits gs rows v = All (λ e. is_same e.to v.key ≡ true → time_at rows e.from + e.weight < 2 ^ 25) gs

-- what the next event's edges ask for is small enough
pub keeps-fits : (nw : Network) (st : State) → IsValid nw st → (es : List Event) (gs : List Edge) (order : List Event) (i : ℕ) (rows : List Timed) → Keeps nw st es gs order i rows → (v : Event) → i < length order → v ≡ get_or order i v → All (λ e. is_same e.to v.key ≡ true → time_at rows e.from + e.weight < 2 ^ 25) gs
unfolding event_time asked_fits
keeps-fits nw st valid es gs order i rows k v l is =
    let moved = subst (λ (xs : List Event). IsPermutation xs order) k.all_events k.moved in
    let all : asked_fits (edges nw st) (map (timed_by (event_time nw st)) (take i order)) (get_or order i v) =
    fits (events st) (edges nw st) (valid-graph nw st valid) valid.small order moved k.sorted i v l
    in
    subst (λ (hs : List Edge). asked_fits hs rows v) (sym k.all_edges)
    (subst (λ (rs : List Timed). asked_fits (edges nw st) rs v) (sym k.kept)
    (subst (λ (w : Event). asked_fits (edges nw st) (map (timed_by (event_time nw st)) (take i order)) w) (sym is) all))

-- the local rule gives the next event its time
pub keeps-local : (nw : Network) (st : State) → IsValid nw st → (es : List Event) (gs : List Edge) (order : List Event) (i : ℕ) (rows : List Timed) → Keeps nw st es gs order i rows → (v : Event) → i < length order → v ≡ get_or order i v → local es gs (time_at rows) v ≡ event_time nw st v.key
unfolding event_time
keeps-local nw st valid es gs order i rows k v l is =
    let moved = subst (λ (xs : List Event). IsPermutation xs order) k.all_events k.moved in
    ap (λ (xs : List Event). local xs gs (time_at rows) v) k.all_events
    ∙ ap (λ (hs : List Edge). local (events st) hs (time_at rows) v) k.all_edges
    ∙ ap (λ (rs : List Timed). local (events st) (edges nw st) (time_at rs) v) k.kept
    ∙ ap (λ (w : Event). local (events st) (edges nw st) (time_at (map (timed_by (event_time nw st)) (take i order))) w) is
    ∙ local-is (events st) (edges nw st) (valid-graph nw st valid) valid.small order moved k.sorted i v l
    ∙ ap (λ (w : Event). event_time nw st w.key) (sym is)

lt-along : (a b n : ℕ) → a ≡ b → b < n → a < n
lt-along a b n e h = omega arith

-- and it is small enough
pub keeps-small : (nw : Network) (st : State) → IsValid nw st → (es : List Event) (gs : List Edge) (order : List Event) (i : ℕ) (rows : List Timed) → Keeps nw st es gs order i rows → (v : Event) → i < length order → v ≡ get_or order i v → local es gs (time_at rows) v < 2 ^ 25
unfolding event_time
keeps-small nw st valid es gs order i rows k v l is =
    let moved = subst (λ (xs : List Event). IsPermutation xs order) k.all_events k.moved in
    let small = small-here (events st) (edges nw st) (valid-graph nw st valid) valid.small order moved k.sorted i v l in
    lt-along _ _ _ (keeps-local nw st valid es gs order i rows k v l is ∙ ap (λ (w : Event). event_time nw st w.key) is) small

-- one more event is kept
pub keeps-more : (nw : Network) (st : State) → IsValid nw st → (es : List Event) (gs : List Edge) (order : List Event) (i : ℕ) (rows next : List Timed) → Keeps nw st es gs order i rows → (v : Event) (t : ℕ) → i < length order → v ≡ get_or order i v → t ≡ local es gs (time_at rows) v → next ≡ rows ++ record { key = v.key; time = t } ∷ [] → next ≡ map (timed_by (event_time nw st)) (take (i + 1) order)
keeps-more nw st valid es gs order i rows next k v t l is t_is added =
    added
    ∙ ap (λ (rs : List Timed). rs ++ record { key = v.key; time = t } ∷ []) k.kept
    ∙ ap (λ (x : ℕ). map (timed_by (event_time nw st)) (take i order) ++ record { key = v.key; time = x } ∷ []) (t_is ∙ keeps-local nw st valid es gs order i rows k v l is)
    ∙ ap (λ (w : Event). map (timed_by (event_time nw st)) (take i order) ++ timed_by (event_time nw st) w ∷ []) is
    ∙ sym (map_more (timed_by (event_time nw st)) order i v l)

-- in the end every event's time is kept
pub keeps-all : (nw : Network) (st : State) (es : List Event) (gs : List Edge) (order : List Event) (i : ℕ) (rows : List Timed) → Keeps nw st es gs order i rows → length order ≤ i → (v : Event) → Contains (events st) v → time_at rows v.key ≡ event_time nw st v.key
keeps-all nw st es gs order i rows k l v h =
    let moved = subst (λ (xs : List Event). IsPermutation xs order) k.all_events k.moved in
    let among = Contains-permutation (events st) order v moved h in
    ap (λ (rs : List Timed). time_at rs v.key) k.kept
    ∙ ap (λ (vs : List Event). time_at (map (timed_by (event_time nw st)) vs) v.key) (take_all i order l)
    ∙ time_at-rows (event_time nw st) order v among.0 among.1 among.2

-- kept times that are those of a state are shown as those of the state
pub live_times-kept : (nw : Network) (st : State) (rows : List Timed) → ((v : Event) → Contains (events st) v → time_at rows v.key ≡ event_time nw st v.key) → map (timed_by (time_at rows)) (live_events (events st)) ≡ live_times nw st
live_times-kept nw st rows h = same-live (time_at rows) (event_time nw st) (events st) (λ v i. h v i)

-- the parts of an evaluation, as a loop knows them
pub keeps-by : (nw : Network) (st : State) (es : List Event) (gs gs' : List Edge) (order order' : List Event) (i : ℕ) (rows rows' : List Timed) → es ≡ events st → gs ≡ gs' → gs' ≡ edges nw st → IsPermutation es order' → IsSortedByKey (λ (v : Event). v.key) key_cmp order' → order ≡ order' → rows ≡ rows' → rows' ≡ map (timed_by (event_time nw st)) (take i order) → Keeps nw st es gs order i rows
keeps-by nw st es gs gs' order order' i rows rows' e g h moved sorted o r k =
    record {
      all_events = e;
      all_edges = g ∙ h;
      moved = subst (λ (xs : List Event). IsPermutation es xs) (sym o) moved;
      sorted = subst (λ (xs : List Event). IsSortedByKey (λ (v : Event). v.key) key_cmp xs) (sym o) sorted;
      kept = r ∙ k;
    }
