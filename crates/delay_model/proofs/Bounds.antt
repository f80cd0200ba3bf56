-- The latest of what the edges to an event ask for, and how late an event can be.
use Rattle.std.proofs.Common.{◌≡◌, ℕ, ◌+◌, ◌-◌, ◌^◌, ◌<◌, ◌≤◌, true, List, [], ◌∷◌, Option, max, unwrap_or, sym, ◌∙◌, ap, arith}
use Rattle.std.specs.Option.{IfSome}
use Rattle.std.specs.List.{All, Contains, fold}
use Rattle.std.proofs.lemmas.Bool.{cond_both}
use Rattle.std.proofs.lemmas.List.Elements.{All-cons, All-nil, All-head, All-tail, All-weaker, All-contains, All-contains_itself}
use Rattle.mt_base.specs.declared.keys.Key.{Key}
use Rattle.delay_model.specs.declared.network.Network.{Network}
use Rattle.delay_model.specs.declared.state.State.{State}
use Rattle.delay_model.specs.declared.state.Event.{Event}
use Rattle.delay_model.specs.declared.state.Edge.{Edge}
use Rattle.delay_model.specs.Events.{events}
use Rattle.delay_model.specs.Edges.{edges}
use Rattle.delay_model.specs.Timing.{incoming, cap, floor_of, counts, later, capped, local, time, event_time}
use Rattle.delay_model.specs.Valid.{IsSmall, IsValid}
use Rattle.delay_model.proofs.Ends.{IsLiveAt}
use Rattle.delay_model.proofs.Solve.{IsGraph, valid-graph, incoming-leads, local-agree, spread, time-local}

-- if the edge counts, it asks for no more than m
abbrev pub AsksUpTo : (Key → ℕ) → ℕ → Edge → Type 0
AsksUpTo t m e = counts e.kind e.to.time (t e.from + e.weight) ≡ true → t e.from + e.weight ≤ m

-- the latest of a time and of what edges ask for is no more than a bound of all these
pub fold-le : (t : Key → ℕ) (m : ℕ) (gs : List Edge) (a : ℕ) → a ≤ m → All (AsksUpTo t m) gs → fold (later t) a gs ≤ m
fold-le t m [] a h k = h
fold-le t m (e ∷ gs) a h k =
    let asked = t e.from + e.weight in
    let first = All-head (AsksUpTo t m) e gs k in
    fold-le t m gs (later t a e) (cond_both (counts e.kind e.to.time asked) (max a asked) a (λ x. x ≤ m) (λ c. let l = first c in omega arith) (λ _. h)) (All-tail (AsksUpTo t m) e gs k)

-- it is no less than the time
pub fold-up : (t : Key → ℕ) (gs : List Edge) (a : ℕ) → a ≤ fold (later t) a gs
fold-up t [] a = omega arith
fold-up t (e ∷ gs) a =
    let asked = t e.from + e.weight in
    let here : a ≤ later t a e = cond_both (counts e.kind e.to.time asked) (max a asked) a (λ x. a ≤ x) (λ _. omega arith) (λ _. omega arith) in
    let rest = fold-up t gs (later t a e) in
    omega arith

-- and no less than what each of the edges asks for
pub fold-asks : (t : Key → ℕ) (gs : List Edge) (a : ℕ) → All (AsksUpTo t (fold (later t) a gs)) gs
fold-asks t [] a = All-nil (AsksUpTo t a)
fold-asks t (e ∷ gs) a =
    let asked = t e.from + e.weight in
    let first : AsksUpTo t (fold (later t) (later t a e) gs) e =
    λ c.
    let here : asked ≤ later t a e = cond_both (counts e.kind e.to.time asked) (max a asked) a (λ x. asked ≤ x) (λ _. omega arith) (λ fails. absurd (cc)) in
    let rest = fold-up t gs (later t a e) in
    omega arith
    in
    All-cons (AsksUpTo t (fold (later t) (later t a e) gs)) e gs first (fold-asks t gs (later t a e))

fold-among : (t : Key → ℕ) (a : ℕ) (gs hs : List Edge) → All (Contains hs) gs → fold (later t) a gs ≤ fold (later t) a hs
fold-among t a gs hs h =
    let m = fold (later t) a hs in
    fold-le t m gs a (fold-up t hs a) (All-weaker (Contains hs) (AsksUpTo t m) (λ e there. All-contains (AsksUpTo t m) hs e (fold-asks t hs a) there) gs h)

-- it depends on which edges there are, and not on their order
pub fold-same : (t : Key → ℕ) (a : ℕ) (gs hs : List Edge) → All (Contains hs) gs → All (Contains gs) hs → fold (later t) a gs ≡ fold (later t) a hs
fold-same t a gs hs h k = let x = fold-among t a gs hs h in let y = fold-among t a hs gs k in omega arith

-- events with the same report, cap and floor and the same incoming edges have the same local rule
pub local-same : (es fs : List Event) (gs hs : List Edge) (t : Key → ℕ) (v w : Event) → v.report ≡ w.report → floor_of v ≡ floor_of w → cap es v ≡ cap fs w → All (Contains (incoming hs w.key)) (incoming gs v.key) → All (Contains (incoming gs v.key)) (incoming hs w.key) → local es gs t v ≡ local fs hs t w
unfolding local
local-same es fs gs hs t v w report floor cap_same there back =
    ap (λ r. unwrap_or r (capped (cap es v) (fold (later t) (floor_of v) (incoming gs v.key)))) report
    ∙ ap (λ c. unwrap_or w.report (capped c (fold (later t) (floor_of v) (incoming gs v.key)))) cap_same
    ∙ ap (λ f. unwrap_or w.report (capped (cap fs w) (fold (later t) f (incoming gs v.key)))) floor
    ∙ ap (λ x. unwrap_or w.report (capped (cap fs w) x)) (fold-same t (floor_of w) (incoming gs v.key) (incoming hs w.key) there back)

-- and the same time, where the times at the edges' origins are the same
pub time-kept : (es fs : List Event) (gs hs : List Edge) → IsGraph es gs → IsGraph fs hs → (v w : Event) → Contains es v → Contains fs w → v.report ≡ w.report → floor_of v ≡ floor_of w → cap es v ≡ cap fs w → All (Contains (incoming hs w.key)) (incoming gs v.key) → All (Contains (incoming gs v.key)) (incoming hs w.key) → All (λ e. time es gs e.from ≡ time fs hs e.from) (incoming gs v.key) → time es gs v.key ≡ time fs hs w.key
time-kept es fs gs hs g h v w hv hw report floor cap_same there back times =
    time-local es gs g v hv
    ∙ local-agree es gs (time es gs) (time fs hs) v times
    ∙ local-same es fs gs hs (time fs hs) v w report floor cap_same there back
    ∙ sym (time-local fs hs h w hw)

small-or : (o : Option ℕ) (x m : ℕ) → IfSome o (λ t. t < 2 ^ 24) → 2 ^ 24 ≤ m + 1 → x ≤ m → unwrap_or o x ≤ m
small-or o x m h k l = grind arith

capped-le : (o : Option ℕ) (x m : ℕ) → x ≤ m → capped o x ≤ m
capped-le o x m h = grind arith

floor-le : (v : Event) (m : ℕ) → IsSmall v → v.key.time + 2 ^ 24 ≡ m + 1 → floor_of v ≤ m
floor-le v m h e = grind (arith, h.forecast, h.scheduled, small-or v.forecast 0 m h.forecast, small-or v.forecast v.key.time m h.forecast)

local-le : (es : List Event) (gs : List Edge) (t : Key → ℕ) (v : Event) (m : ℕ) → IsSmall v → v.key.time + 2 ^ 24 ≡ m + 1 → All (λ e. t e.from + e.weight ≤ m) (incoming gs v.key) → local es gs t v ≤ m
unfolding local
local-le es gs t v m small e h =
    small-or v.report _ m small.report (omega arith)
    (capped-le (cap es v) _ m (fold-le t m (incoming gs v.key) (floor_of v) (floor-le v m small e) (λ i d l _. h i d l)))

module _ (es : List Event) (gs : List Edge) (graph : IsGraph es gs) (small : All IsSmall es) where
  late-by : (v : Event) → Contains es v → All (λ e. time es gs e.from < e.from.time + 2 ^ 24) (incoming gs v.key) → time es gs v.key < v.key.time + 2 ^ 24
  late-by v h before =
      let rule = time-local es gs graph v h in
      let most = local-le es gs (time es gs) v (v.key.time + 16777215) (All-contains IsSmall es v small h) (omega arith) (λ k d l.
      let room = (incoming-leads es gs graph v.key k d l).room in let late = before k d l in omega arith)
      in
      omega arith

  -- the event with a live event's key is later than its schedule by less than 2^24 seconds
  pub live-late : (k : Key) → IsLiveAt es k → time es gs k < k.time + 2 ^ 24
  live-late k at = spread es gs graph (λ k. time es gs k < k.time + 2 ^ 24) (λ v h _ before. late-by v h before) k at

  -- so is each event
  pub time-late : (v : Event) → Contains es v → time es gs v.key < v.key.time + 2 ^ 24
  time-late v h = late-by v h (λ k d l. live-late _ (incoming-leads es gs graph v.key k d l).from_end)

  -- each event's time is below 2^25 - 1
  pub time-small : (v : Event) → Contains es v → time es gs v.key < 2 ^ 25 - 1
  time-small v h =
      let late = time-late v h in
      let scheduled : v.key.time < 2 ^ 24 = (All-contains IsSmall es v small h).scheduled in
      omega arith

  -- and so is what an edge to an event asks for, by times that are these at its origin
  pub incoming-fit : (t : Key → ℕ) (v : Event) → Contains es v → All (λ e. t e.from ≡ time es gs e.from) (incoming gs v.key) → All (λ e. t e.from + e.weight < 2 ^ 25) (incoming gs v.key)
  incoming-fit t v h same = λ k d l.
      let eq = same k d l in
      let le = incoming-leads es gs graph v.key k d l in
      let room = le.room in
      let late = live-late _ le.from_end in
      let scheduled : v.key.time < 2 ^ 24 = (All-contains IsSmall es v small h).scheduled in
      omega arith

greatest-below : (f : Event → ℕ) (m : ℕ) (vs : List Event) (a : ℕ) → a < m → All (λ v. f v < m) vs → fold (λ b v. max b (f v)) a vs < m
greatest-below f m [] a h k = h
greatest-below f m (v ∷ vs) a h k =
    let l = All-head (λ v. f v < m) v vs k in greatest-below f m vs (max a (f v)) (omega arith) (All-tail (λ v. f v < m) v vs k)

-- the greatest time of all events is below 2^25
pub greatest-small : (es : List Event) (gs : List Edge) → IsGraph es gs → All IsSmall es → fold (λ b v. max b (time es gs v.key)) 0 es < 2 ^ 25
greatest-small es gs graph small =
    let Small : Event → Type 0 = λ v. time es gs v.key < 2 ^ 25 in
    greatest-below (λ v. time es gs v.key) (2 ^ 25) es 0 (omega arith) (All-weaker (Contains es) Small (λ v h. let less = time-small es gs graph small v h in omega arith) es (All-contains_itself es))

-- the time of an event of a valid state is below 2^25 - 1
pub event_time-small : (nw : Network) (st : State) → IsValid nw st → (v : Event) → Contains (events st) v → event_time nw st v.key < 2 ^ 25 - 1
unfolding event_time
event_time-small nw st valid v h = time-small (events st) (edges nw st) (valid-graph nw st valid) valid.small v h
