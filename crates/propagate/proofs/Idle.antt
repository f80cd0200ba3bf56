-- Edges that leave the rule's value at an event as it is, whatever times their origins have.
use Rattle.propagate.proofs.Words.{◌≡◌, ℕ, ◌+◌, ◌≤◌, ◌||◌, ◌⊎◌, Bool, true, false, cond, max, List, [], ◌∷◌, Option, unwrap_or, refl, sym, ◌∙◌, ap, arith, inl, inr, fold, All, All-contains, get_or, same-is}
use Rattle.propagate.proofs.Words.{All-head, All-tail, All-append, All-nil, All-cons, cond_both, or_parts, Key, Event, Edge, Network, State}
use Rattle.propagate.proofs.Words.{events, edges, incoming, cap, floor_of, later, capped, local, train_edges, transfer_edges, transfer, override_of, AlongTrain, Planned}
use Rattle.propagate.proofs.Words.{may_change, may_decide, transfers-each}
use Rattle.delay_model.specs.Timing.{counts, later_of}
use Rattle.delay_model.specs.declared.state.EdgeKind.{EdgeKind}
use Rattle.delay_model.specs.declared.state.EdgeKind.TheVariants.{Kept as KeptEdge}
use Rattle.delay_model.specs.declared.overrides.Override.{Override}
use Rattle.delay_model.proofs.Ends.{train_edges-each}
use Rattle.state_laws.proofs.Untouched.{incoming-are, incoming-ends}

-- what decides nothing leaves a time that is not before the schedule as it is
pub later-idle : (kind : EdgeKind) (s so_far asked : ℕ) → may_decide kind s asked ≡ false → s ≤ so_far → cond (counts kind s asked) (max so_far asked) so_far ≡ so_far
later-idle AlongTrain s so_far asked h l = absurd (cc)
later-idle KeptEdge s so_far asked h l = absurd (cc)
later-idle (Planned wait) s so_far asked h l = grind arith

-- the second of two
pub or-right : (a b : Bool) → b ≡ true → (a || b) ≡ true
or-right true b h = refl
or-right false b h = h

-- the times of the origin are the same, or the edge may not change what is not before the schedule
abbrev pub LeavesAt : ℕ → (Key → ℕ) → (Key → ℕ) → Edge → Type 0
LeavesAt floor t u e = (t e.from ≡ u e.from) ⊎ ((may_change (t e.from) (u e.from) e ≡ false) × (e.to.time ≤ floor))

pub later-up : (t : Key → ℕ) (e : Edge) (a : ℕ) → a ≤ later t a e
later-up t e a =
    let asked = t e.from + e.weight in
    cond_both (counts e.kind e.to.time asked) (max a asked) a (λ x. a ≤ x) (λ _. omega arith) (λ _. omega arith)

fold-leaves : (t u : Key → ℕ) (floor : ℕ) (gs : List Edge) (a : ℕ) → floor ≤ a → All (LeavesAt floor t u) gs → fold (later t) a gs ≡ fold (later u) a gs
fold-leaves t u floor [] a l h = refl
fold-leaves t u floor (e ∷ gs) a l h =
    let rest = All-tail (LeavesAt floor t u) e gs h in
    let up = later-up u e a in
    let more = fold-leaves t u floor gs (later u a e) (omega arith) rest in
    let same : later t a e ≡ later u a e =
    elim (All-head (LeavesAt floor t u) e gs h) [
      | inl p ↦ ap (λ x. later_of e a (x + e.weight)) p
      | inr q ↦
          let both = or_parts (may_decide e.kind e.to.time (t e.from + e.weight)) (may_decide e.kind e.to.time (u e.from + e.weight)) q.0 in
          let until = q.1 in
          later-idle e.kind e.to.time a (t e.from + e.weight) both.0 (omega arith) ∙ sym (later-idle e.kind e.to.time a (u e.from + e.weight) both.1 (omega arith))
    ]
    in
    ap (λ x. fold (later t) x gs) same ∙ more

-- the rule's value stays where each edge leaves it
pub local-leaves : (es : List Event) (gs : List Edge) (t u : Key → ℕ) (v : Event) → All (LeavesAt (floor_of v) t u) (incoming gs v.key) → local es gs t v ≡ local es gs u v
unfolding local
local-leaves es gs t u v h = ap (λ x. unwrap_or v.report (capped (cap es v) x)) (fold-leaves t u (floor_of v) (incoming gs v.key) (floor_of v) (omega arith) h)

-- an edge that can ask for a time that decides nothing leads to a departure
abbrev pub LeadsToDeparture : Edge → Type 0
LeadsToDeparture e = (asked : ℕ) → may_decide e.kind e.to.time asked ≡ false → e.to.dep ≡ true

transfer-departs : (nw : Network) (choice : Option Override) (u v : Event) → All LeadsToDeparture (transfer nw choice u v)
unfolding transfer
transfer-departs nw choice u v = grind (arith, All-nil, All-cons)

pub edges-depart : (nw : Network) (st : State) → All LeadsToDeparture (edges nw st)
unfolding edges
edges-depart nw st =
    All-append LeadsToDeparture (train_edges nw.opts 0 st.trains) (transfer_edges nw (override_of st) (events st))
    (train_edges-each nw.opts st LeadsToDeparture (λ u v h asked none. absurd (cc)))
    (transfers-each nw (override_of st) (events st) LeadsToDeparture (λ u v hu hv. transfer-departs nw (override_of st u v) u v))

-- a departure's floor is not before its schedule
pub floor-departs : (v : Event) → v.key.dep ≡ true → v.key.time ≤ floor_of v
floor-departs v h = rw h (omega arith)

-- what may not decide asks for no more than the schedule, where it counts
pub idle : (kind : EdgeKind) (s asked : ℕ) → may_decide kind s asked ≡ false → counts kind s asked ≡ true → asked ≤ s
idle AlongTrain s asked h c = absurd (cc)
idle KeptEdge s asked h c = absurd (cc)
idle (Planned wait) s asked h c = grind arith

-- the edge may decide the time of the event to which it leads
abbrev pub decides : (Key → ℕ) → Edge → Bool
decides t e = may_decide e.kind e.to.time (t e.from + e.weight)

-- the floor of an event is not before its schedule, where an edge leads to it that may not decide
pub floors : (nw : Network) (st : State) (t : Key → ℕ) (w : Event) → All (λ e. decides t e ≡ false → e.to.time ≤ floor_of w) (incoming (edges nw st) w.key)
floors nw st t w = λ i d l fails.
    let e = get_or (incoming (edges nw st) w.key) i d in
    let to = same-is e.to w.key (incoming-ends (edges nw st) w.key i d l) in
    let departs = All-contains LeadsToDeparture (edges nw st) e (edges-depart nw st) (incoming-are (edges nw st) w.key i d l) _ fails in
    let floor = floor-departs w (ap (λ (a : Key). a.dep) (sym to) ∙ departs) in
    let at : e.to.time ≡ w.key.time = ap (λ (a : Key). a.time) to in
    omega arith
