-- An event that a message does not touch keeps its time, where all that its local rule reads stays.
use Rattle.state_laws.proofs.Words.{◌≡◌, ℕ, Bool, true, false, ◌&&◌, ◌||◌, not, nat_eq, List, [], ◌∷◌, ◌++◌, Option, Some, None, refl, sym, ◌∙◌, ◌≢◌, arith, true_from_ne_false, and_parts}
use Rattle.state_laws.proofs.Words.{or_parts, eqb-true, false_from_ne_true, All-cons, All-nil, All-contains, All-contains_itself, All-filter, filter_passes, Contains-append_left}
use Rattle.state_laws.proofs.Words.{Contains-append_right, All, Contains, list_any, is_same, node_of, is_same_node, Key, edges, effect, events, live_events, incoming, cap, local, time}
use Rattle.state_laws.proofs.Words.{event_time, is_live_key, live_only, time_changes, changed, named, is_fed_by, touched, IsValid, Message, Network, Edge, Event, State, IsLiveAt, Contains-filter}
use Rattle.state_laws.proofs.Words.{valid-graph, incoming-leads, incoming-there, time-local, same-is, same-itself, same_node-itself}
use Rattle.delay_model.proofs.Bounds.{time-kept}
use Rattle.state_laws.proofs.Values.{any-there}

-- where no element passes, each fails
pub none-passes : {X : Type 0} (p : X → Bool) (xs : List X) → list_any p xs ≡ false → All (λ x. p x ≡ false) xs
none-passes p [] h = All-nil (λ x. p x ≡ false)
none-passes p (x ∷ xs) h = grind (arith, All-cons (λ x. p x ≡ false), none-passes p xs)

-- a message does not name this event, and no edge leads to it from a changed one
pub record IsUntouched (nw : Network) (st : State) (m : Message) (w : Event) : Type 0 where
  pub unnamed : All (λ n. n ≢ node_of w.key) (named st m)
  pub unfed : is_fed_by (edges nw st ++ edges nw (effect st m)) (changed nw st (effect st m)) w.key ≡ false

pub untouched-by : (nw : Network) (st : State) (m : Message) (w : Event) → Contains (events (effect st m)) w → w.live ≡ true → (Contains (touched nw st m) w → ⊥) → IsUntouched nw st m w
unfolding touched
untouched-by nw st m w h live free =
    let names : Event → Bool = λ v. list_any (is_same_node (node_of v.key)) (named st m) in
    let fed : Event → Bool = λ v. is_fed_by (edges nw st ++ edges nw (effect st m)) (changed nw st (effect st m)) v.key in
    let fs = events (effect st m) in
    let there = Contains-filter (λ v. names v || fed v) (live_events fs) w (Contains-filter (λ (v : Event). v.live) fs w h live) in
    let parts = or_parts (names w) (fed w) (false_from_ne_true _ (λ passes. free (there passes))) in
    let others = none-passes (is_same_node (node_of w.key)) (named st m) parts.0 in
    record { unnamed = λ k d l e. let own = same_node-itself (node_of w.key) in let other = rw e at (others k d l) in absurd (cc); unfed = parts.1 }

-- what a message leaves of an event that is live after it: the event itself was there, and its cap and the edges to it from
-- events that are live both before and after are the same
pub record IsLeft (nw : Network) (old new : State) (w : Event) : Type 0 where
  pub there : Contains (events old) w
  pub caps : w.report ≡ None → cap (events old) w ≡ cap (events new) w
  pub stays : (e : Edge) → Contains (edges nw old) e → e.to ≡ w.key → IsLiveAt (events new) e.from → Contains (edges nw new) e
  pub comes : (e : Edge) → Contains (edges nw new) e → e.to ≡ w.key → IsLiveAt (events old) e.from → Contains (edges nw old) e

live-at : (es : List Event) (k : Key) → is_live_key es k ≡ true → IsLiveAt es k
live-at es k h =
    let found = any-there (λ v. v.live && is_same v.key k) es h in
    let both = and_parts found.0.live (is_same found.0.key k) found.2 in
    (found.0, found.1, same-is found.0.key k both.1, both.0)

module _ (nw : Network) (old new : State) (k : Key) (free : All (λ x. is_same k x.key ≡ false) (changed nw old new)) where
  unchanged : (x : Event) → x.key ≡ k → Contains (changed nw old new) x → ⊥
  unchanged x at h =
      let other = rw at at (All-contains (λ x. is_same k x.key ≡ false) (changed nw old new) x free h) in let own = same-itself k in absurd (cc)

  known : (es fs : List Event) → ((x : Event) → Contains (live_only fs es) x → Contains (changed nw old new) x) → (at : IsLiveAt fs k) → is_live_key es at.0.key ≡ true
  known es fs within at =
      let x = at.0 in
      let here = Contains-filter (λ (v : Event). v.live) fs x at.1 at.3 in
      true_from_ne_false (is_live_key es x.key) (λ not_live. unchanged x at.2 (within x (Contains-filter (λ v. not (is_live_key es v.key)) (live_events fs) x here (rw not_live))))

  -- the key of an event that is live after a message, and of no changed event, is that of a live event before it, at the same time
  known-before : IsLiveAt (events new) k → IsLiveAt (events old) k × (event_time nw old k ≡ event_time nw new k)
  unfolding changed
  known-before at =
      let es = events old in
      let fs = events new in
      let t = event_time nw old in
      let u = event_time nw new in
      let x = at.0 in
      let later = λ (x : Event). Contains-append_right (live_only es fs) (live_only fs es ++ time_changes t u es fs) x in
      let is = known es fs (λ x c. later x (Contains-append_left (live_only fs es) _ x c)) at in
      let same = true_from_ne_false (nat_eq (t x.key) (u x.key)) (λ differ.
      unchanged x at.2 (later x (Contains-append_right (live_only fs es) _ x
      (Contains-filter (λ v. is_live_key es v.key && not (nat_eq (t v.key) (u v.key))) (live_events fs) x (Contains-filter (λ (v : Event). v.live) fs x at.1 at.3) (rw (is, differ))))))
      in
      (rw at.2 at (live-at es x.key is), rw at.2 at (eqb-true (t x.key) (u x.key) same))

  known-after : IsLiveAt (events old) k → IsLiveAt (events new) k
  unfolding changed
  known-after at = rw at.2 at (live-at (events new) at.0.key (known (events new) (events old) (λ x. Contains-append_left (live_only (events old) (events new)) _ x) at))

local-reported : (es : List Event) (gs : List Edge) (t : Key → ℕ) (v : Event) (r : ℕ) → v.report ≡ Some r → local es gs t v ≡ r
unfolding local
local-reported es gs t v r h = rw h

-- the edges to an event are edges
pub incoming-are : (gs : List Edge) (k : Key) → All (Contains gs) (incoming gs k)
unfolding incoming
incoming-are gs k = All-filter (λ e. is_same e.to k) (Contains gs) gs (All-contains_itself gs)

pub incoming-ends : (gs : List Edge) (k : Key) → All (λ e. is_same e.to k ≡ true) (incoming gs k)
unfolding incoming
incoming-ends gs k = filter_passes (λ e. is_same e.to k) gs

module _ (nw : Network) (old new : State) (w : Event) (before : IsValid nw old) (after : IsValid nw new) (hw : Contains (events new) w) (left : IsLeft nw old new w) (unfed : is_fed_by (edges nw old ++ edges nw new) (changed nw old new) w.key ≡ false) where
  -- the origin of an edge to the event is no changed event
  origin-free : (e : Edge) → Contains (edges nw old ++ edges nw new) e → is_same e.to w.key ≡ true → All (λ x. is_same e.from x.key ≡ false) (changed nw old new)
  origin-free e h to =
      let gs = edges nw old ++ edges nw new in
      let test : Edge → Bool = λ e. is_same e.to w.key && list_any (λ (v : Event). is_same e.from v.key) (changed nw old new) in
      let fails = All-contains (λ e. test e ≡ false) gs e (none-passes test gs unfed) h in
      none-passes (λ (v : Event). is_same e.from v.key) (changed nw old new) (rw to at fails)

  time-settled : (r : Option ℕ) → w.report ≡ r → event_time nw new w.key ≡ event_time nw old w.key
  unfolding event_time
  time-settled (Some r) is =
      let es = events old in
      let fs = events new in
      let gs = edges nw old in
      let hs = edges nw new in
      time-local fs hs (valid-graph nw new after) w hw ∙ local-reported fs hs (time fs hs) w r is
      ∙ sym (time-local es gs (valid-graph nw old before) w left.there ∙ local-reported es gs (time es gs) w r is)
  time-settled None is =
      let es = events old in
      let fs = events new in
      let gs = edges nw old in
      let hs = edges nw new in
      let k = w.key in
      let g = valid-graph nw old before in
      let h = valid-graph nw new after in
      sym (time-kept es fs gs hs g h w w left.there hw refl refl (left.caps is)
      (λ i d l.
      let c = incoming-are gs k i d l in
      let to = incoming-ends gs k i d l in
      let free = origin-free _ (Contains-append_left gs hs _ c) to in
      incoming-there hs k _ (left.stays _ c (same-is _ k to) (known-after nw old new _ free (incoming-leads es gs g k i d l).from_end)) to)
      (λ i d l.
      let c = incoming-are hs k i d l in
      let to = incoming-ends hs k i d l in
      let free = origin-free _ (Contains-append_right gs hs _ c) to in
      incoming-there gs k _ (left.comes _ c (same-is _ k to) (known-before nw old new _ free (incoming-leads fs hs h k i d l).from_end).0) to)
      (λ i d l.
      let free = origin-free _ (Contains-append_left gs hs _ (incoming-are gs k i d l)) (incoming-ends gs k i d l) in
      (known-before nw old new _ free (known-after nw old new _ free (incoming-leads es gs g k i d l).from_end)).1))

  -- an event that is left, and to which no edge leads from a changed one, keeps its time
  pub time-left : event_time nw new w.key ≡ event_time nw old w.key
  time-left = time-settled w.report refl
