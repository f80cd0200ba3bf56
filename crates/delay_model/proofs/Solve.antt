-- Over a graph the time of each event is the local rule's, and nothing else is.
use Rattle.std.proofs.Common.{◌≡◌, ℕ, zero, suc, ◌+◌, ◌<◌, ◌≤◌, Bool, true, List, [], ◌∷◌, Some, length, unwrap_or, refl, sym, ◌∙◌, ap, subst, arith, inl, inr}
use Rattle.std.proofs.lemmas.Bool.{cond_both}
use Rattle.std.specs.Option.{option_map_or}
use Rattle.std.specs.List.{All, AllByRecursion, Contains, fold, count_by}
use Rattle.std.proofs.lemmas.List.Sums.{count_by-le-length}
use Rattle.std.proofs.lemmas.List.Elements.{All-weaker, All-contains, All-filter, Contains-get_or, filter_passes, recursion_from_All}
use Rattle.mt_base.specs.declared.keys.Key.{Key}
use Rattle.mt_base.specs.Order.{is_before, is_same, node_of}
use Rattle.mt_base.proofs.KeyLemmas.{before-trans, before-itself, before-same, same-is, same-itself}
use Rattle.delay_model.specs.declared.network.Network.{Network}
use Rattle.delay_model.specs.declared.state.State.{State}
use Rattle.delay_model.specs.declared.state.Event.{Event}
use Rattle.delay_model.specs.declared.state.Edge.{Edge}
use Rattle.delay_model.specs.Events.{events}
use Rattle.delay_model.specs.Edges.{edges}
use Rattle.delay_model.specs.Timing.{incoming, cap, floor_of, later, later_of, capped, local, event_with, time_within, time, event_time}
use Rattle.delay_model.specs.Valid.{IsForward, IsValid}
use Rattle.delay_model.proofs.Lists.{count_by-lt, Contains-cases, Contains-there, Contains-filter}
use Rattle.delay_model.proofs.Apart.{events-unique}
use Rattle.delay_model.proofs.Ends.{IsLiveAt, JoinsLive, edges-join}

-- events that are known by their keys, and edges between live ones of them that go up
pub record IsGraph (es : List Event) (gs : List Edge) : Type 0 where
  pub one : (u v : Event) → Contains es u → Contains es v → u.key ≡ v.key → u ≡ v
  pub joins : All (JoinsLive es) gs
  pub forward : All IsForward gs

-- the events and edges of a valid state are a graph
pub valid-graph : (nw : Network) (st : State) → IsValid nw st → IsGraph (events st) (edges nw st)
valid-graph nw st valid =
    record {
      one = λ u v hu hv e. events-unique st valid.trains u v hu hv (ap node_of e);
      joins = edges-join nw st;
      forward = valid.forward;
    }

-- the event times of a state are the times over its events and edges
pub event_time-is : (nw : Network) (st : State) → event_time nw st ≡ time (events st) (edges nw st)
unfolding event_time
event_time-is nw st = refl

-- times that agree at the edges' origins leave the same latest time
fold-agree : (t u : Key → ℕ) (gs : List Edge) (a : ℕ) → AllByRecursion (λ e. t e.from ≡ u e.from) gs → fold (later t) a gs ≡ fold (later u) a gs
fold-agree t u [] a h = refl
fold-agree t u (e ∷ gs) a h = fold-agree t u gs (later t a e) h.1 ∙ ap (λ x. fold (later u) (later_of e a (x + e.weight)) gs) h.0

-- the local rule reads the times of the origins of the edges that lead to v, and no others
pub local-agree : (es : List Event) (gs : List Edge) (t u : Key → ℕ) (v : Event) → All (λ e. t e.from ≡ u e.from) (incoming gs v.key) → local es gs t v ≡ local es gs u v
unfolding local
local-agree es gs t u v h =
    ap (λ x. unwrap_or v.report (capped (cap es v) x))
    (fold-agree t u (incoming gs v.key) (floor_of v) (recursion_from_All (λ e. t e.from ≡ u e.from) (incoming gs v.key) h))

-- how many events stand before a key
pub rank : List Event → Key → ℕ
rank es k = count_by (λ u. is_before u.key k) es

rank-lt : (es : List Event) (u : Event) (k : Key) → Contains es u → is_before u.key k ≡ true → rank es u.key < rank es k
unfolding rank
rank-lt es u k h lt =
    count_by-lt (λ w. is_before w.key u.key) (λ w. is_before w.key k) es u (λ w b. before-trans w.key u.key k b lt) h.0 h.1 h.2 (before-itself u.key) lt

-- fewer events than there are stand before one of them
pub rank-lt-length : (es : List Event) (v : Event) → Contains es v → rank es v.key < length es
unfolding rank
rank-lt-length es v h =
    let a : count_by (λ u. is_before u.key v.key) es < count_by (λ _. true) es =
    count_by-lt (λ w. is_before w.key v.key) (λ _. true) es v (λ _ _. refl) h.0 h.1 h.2 (before-itself v.key) refl
    in
    let b = count_by-le-length (λ (_ : Event). true) es in
    omega arith

-- what is known of an edge that leads to a key
pub record LeadsTo (es : List Event) (k : Key) (e : Edge) : Type 0 where
  pub from_end : IsLiveAt es e.from
  pub to_same : e.to ≡ k
  pub up : is_before e.from k ≡ true
  pub lower : rank es e.from < rank es k
  pub room : e.from.time + e.weight ≤ k.time

leads-by : (es : List Event) (k : Key) (e : Edge) → JoinsLive es e → IsForward e → is_same e.to k ≡ true → LeadsTo es k e
leads-by es k e joins goes same =
    let end = joins.from_end in
    let to = same-is e.to k same in
    let up : is_before e.from k ≡ true = sym (before-same e.from e.to k same) ∙ goes.later in
    let less = rank-lt es end.0 k end.1 (ap (λ a. is_before a k) end.2 ∙ up) in
    let at : rank es end.0.key ≡ rank es e.from = ap (rank es) end.2 in
    let until : e.to.time ≡ k.time = ap (λ (x : Key). x.time) to in
    let room = goes.room in
    record { from_end = end; to_same = to; up = up; lower = omega arith; room = omega arith }

-- the edges that lead to a key lead from earlier live events, and leave time enough
pub incoming-leads : (es : List Event) (gs : List Edge) → IsGraph es gs → (k : Key) → All (LeadsTo es k) (incoming gs k)
unfolding incoming
incoming-leads es gs graph k = λ i d h.
    leads-by es k _ (All-filter (λ e. is_same e.to k) (JoinsLive es) gs graph.joins i d h) (All-filter (λ e. is_same e.to k) IsForward gs graph.forward i d h)
    (filter_passes (λ e. is_same e.to k) gs i d h)

-- what each live event's key has, if the origins of the edges to it have it
abbrev pub IsPassedOn : List Event → List Edge → (Key → Type 0) → Type 0
IsPassedOn es gs P = (v : Event) → Contains es v → v.live ≡ true → All (λ e. P e.from) (incoming gs v.key) → P v.key

spread-within : (es : List Event) (gs : List Edge) → IsGraph es gs → (P : Key → Type 0) → IsPassedOn es gs P → (n : ℕ) (k : Key) → rank es k < n → IsLiveAt es k → P k
spread-within es gs graph P step zero k r at = absurd (omega arith)
spread-within es gs graph P step (suc n) k r at =
    let rest = All-weaker (LeadsTo es k) (λ e. P e.from) (λ e le. let lower = le.lower in spread-within es gs graph P step n e.from (omega arith) le.from_end) (incoming gs k) (incoming-leads es gs graph k) in
    subst P at.2 (step at.0 at.1 at.3 (subst (λ a. All (λ e. P e.from) (incoming gs a)) (sym at.2) rest))

-- induction along the edges: what is passed on has the key of each live event
pub spread : (es : List Event) (gs : List Edge) → IsGraph es gs → (P : Key → Type 0) → IsPassedOn es gs P → (k : Key) → IsLiveAt es k → P k
spread es gs graph P step k at = spread-within es gs graph P step (suc (rank es k)) k (omega arith) at

-- an edge that leads to a key is among those that do
pub incoming-there : (gs : List Edge) (k : Key) (e : Edge) → Contains gs e → is_same e.to k ≡ true → Contains (incoming gs k) e
unfolding incoming
incoming-there gs k e h same = Contains-filter (λ e. is_same e.to k) gs e h same

-- what holds of the edges that lead to a key holds of each edge that is found to lead there
pub incoming-each : (P : Edge → Type 0) (gs : List Edge) (k : Key) → All P (incoming gs k) → All (λ e. is_same e.to k ≡ true → P e) gs
incoming-each P gs k h = λ i d l same. All-contains P (incoming gs k) _ h (incoming-there gs k _ (Contains-get_or gs i d l) same)

with-agree : (f g : Event → ℕ) (vs : List Event) (k : Key) → ((v : Event) → v.key ≡ k → f v ≡ g v) → option_map_or f (event_with vs k) 0 ≡ option_map_or g (event_with vs k) 0
with-agree f g [] k h = refl
with-agree f g (v ∷ vs) k h =
    cond_both (is_same v.key k) (Some v) (event_with vs k) (λ o. option_map_or f o 0 ≡ option_map_or g o 0) (λ alike. h v (same-is v.key k alike)) (λ _. with-agree f g vs k h)

-- once it is deep enough, a deeper recursion gives the same
within-agree : (es : List Event) (gs : List Edge) → IsGraph es gs → (m n : ℕ) (k : Key) → rank es k < m → rank es k < n → time_within es gs m k ≡ time_within es gs n k
unfolding time_within
within-agree es gs graph zero n k l r = absurd (omega arith)
within-agree es gs graph (suc m) zero k l r = absurd (omega arith)
within-agree es gs graph (suc m) (suc n) k l r =
    with-agree (local es gs (time_within es gs m)) (local es gs (time_within es gs n)) es k (λ u at.
    local-agree es gs (time_within es gs m) (time_within es gs n) u
    (All-weaker (LeadsTo es u.key) (λ e. time_within es gs m e.from ≡ time_within es gs n e.from) (λ e le.
    let lower = le.lower in
    let same : rank es u.key ≡ rank es k = ap (rank es) at in
    within-agree es gs graph m n e.from (omega arith) (omega arith)) (incoming gs u.key) (incoming-leads es gs graph u.key)))

-- an event that is known by its key is the one with that key
pub event_with-own : (vs : List Event) (u : Event) → ((v : Event) → Contains vs v → v.key ≡ u.key → v ≡ u) → Contains vs u → event_with vs u.key ≡ Some u
event_with-own [] u one h = let l = h.1 in absurd (omega arith)
event_with-own (v ∷ vs) u one h =
    let own = λ (alike : is_same v.key u.key ≡ true). ap Some (one v (0, omega arith, refl) (same-is v.key u.key alike)) in
    cond_both (is_same v.key u.key) (Some v) (event_with vs u.key) (λ o. o ≡ Some u) own (λ differs.
    elim (Contains-cases v vs u h) [
      | inl at ↦ let alike : is_same v.key u.key ≡ true = ap (λ x. is_same x.key u.key) at ∙ same-itself u.key in absurd (cc)
      | inr later ↦ event_with-own vs u (λ w there e. one w (Contains-there v vs w there) e) later
    ])

one-more : (es : List Event) (gs : List Edge) → IsGraph es gs → (n : ℕ) (v : Event) → Contains es v → time_within es gs (suc n) v.key ≡ local es gs (time_within es gs n) v
unfolding time_within
one-more es gs graph n v h = ap (λ o. option_map_or (local es gs (time_within es gs n)) o 0) (event_with-own es v (λ u i e. graph.one u v i h e) h)

-- the time of an event of a graph is the local rule's, from the times themselves
pub time-local : (es : List Event) (gs : List Edge) → IsGraph es gs → (v : Event) → Contains es v → time es gs v.key ≡ local es gs (time es gs) v
unfolding time
time-local es gs graph v h =
    let n = length es in
    let lt = rank-lt-length es v h in
    within-agree es gs graph n (suc n) v.key lt (omega arith) ∙ one-more es gs graph n v h

-- equal events and equal edges give equal times
pub time-same : (es fs : List Event) (gs hs : List Edge) → es ≡ fs → gs ≡ hs → time es gs ≡ time fs hs
time-same es fs gs hs p q = ap (λ xs. time xs gs) p ∙ ap (time fs) q

-- a live event whose key passes the test has the local rule's time
abbrev pub IsTimingWhere : (Key → Bool) → List Event → List Edge → (Key → ℕ) → Type 0
IsTimingWhere test es gs t = (v : Event) → Contains es v → v.live ≡ true → test v.key ≡ true → t v.key ≡ local es gs t v

-- such times are the times there, if the test passes each key before one that it passes
pub unique-where : (es : List Event) (gs : List Edge) → IsGraph es gs → (test : Key → Bool) → ((a b : Key) → is_before a b ≡ true → test b ≡ true → test a ≡ true) → (t : Key → ℕ) → IsTimingWhere test es gs t → (v : Event) → Contains es v → v.live ≡ true → test v.key ≡ true → t v.key ≡ time es gs v.key
unique-where es gs graph test down t follows v h live passes =
    spread es gs graph (λ k. test k ≡ true → t k ≡ time es gs k) (λ u there is_live same b.
    follows u there is_live b
    ∙ local-agree es gs t (time es gs) u (λ i d l. same i d l (down _ u.key (incoming-leads es gs graph u.key i d l).up b))
    ∙ sym (time-local es gs graph u there)) v.key (v, h, refl, live) passes

-- times that follow the local rule at each live event before a key are the times there
pub unique-below : (es : List Event) (gs : List Edge) → IsGraph es gs → (t : Key → ℕ) (k : Key) → IsTimingWhere (λ a. is_before a k) es gs t → (v : Event) → Contains es v → v.live ≡ true → is_before v.key k ≡ true → t v.key ≡ time es gs v.key
unique-below es gs graph t k follows v h live b = unique-where es gs graph (λ a. is_before a k) (λ a c l r. before-trans a c k l r) t follows v h live b

-- times that follow the local rule at each live event are the times
pub timing-unique : (es : List Event) (gs : List Edge) → IsGraph es gs → (t : Key → ℕ) → ((v : Event) → Contains es v → v.live ≡ true → t v.key ≡ local es gs t v) → (v : Event) → Contains es v → v.live ≡ true → t v.key ≡ time es gs v.key
timing-unique es gs graph t follows v h live = unique-where es gs graph (λ _. true) (λ _ _ _ _. refl) t (λ v h live _. follows v h live) v h live refl
