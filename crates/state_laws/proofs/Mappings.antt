-- The edges to an event stay where the values of one train's events change.
use Rattle.state_laws.proofs.Words.{get_or, map_fixed, ◌≡◌, ℕ, zero, suc, ◌+◌, ◌≤◌, true, List, [], ◌∷◌, map, refl, sym, ◌∙◌, ap, arith, inl, inr, ◌⊎◌, ◌≢◌, All-nil, All-cons, map-append}
use Rattle.state_laws.proofs.Words.{All-head, All-map, All-tail, All-weaker, All-contains, All-contains_itself, Contains-append_left, Contains-append_right, Contains-append_cases, All}
use Rattle.state_laws.proofs.Words.{Contains, Key, Opts, edges_along, edge_on, train_edge, change_train, change_calls, events, events_of, events_from, IsValid, Network, Call, Edge, Event}
use Rattle.state_laws.proofs.Words.{State, Train, events_at-train, IsLiveAt, valid-graph}
use Rattle.std.proofs.lemmas.List.Elements.{Contains-get_or}
use Rattle.state_laws.proofs.Parts.{events-each}
use Rattle.state_laws.proofs.Changed.{IsMapped, events_at-mapped, later-trains, along-mapped}
use Rattle.state_laws.proofs.Values.{with_values}
use Rattle.state_laws.proofs.Joined.{AreAlike, IsJoined, choice_at, along-change, along-back}

-- what a mapped list contains is what an element is mapped to
pub contains-unmap : {X Y : Type 0} (f : X → Y) (xs : List X) (y : Y) → Contains (map f xs) y → (x : X) × Contains xs x × (f x ≡ y)
contains-unmap {X} {Y} f xs y h =
    let P : Y → Type 0 = λ y. (x : X) × Contains xs x × (f x ≡ y) in All-contains P (map f xs) y (All-map P f xs (λ k d l. (get_or xs k d, Contains-get_or xs k d l, refl))) h

-- the events of a state are changed as those of one train are
pub events-mapped : (n : ℕ) (g : Call → Call) (h : Event → Event) → IsMapped n g h → ((v : Event) → v.key.train ≢ n → h v ≡ v) → (first k : ℕ) (ts : List Train) → n ≡ first + k → events_from first (change_train k (change_calls (map g)) ts) ≡ map h (events_from first ts)
events-mapped n g h m others first k [] at = refl
events-mapped n g h m others first zero (t ∷ ts) at =
    let own : first ≡ n = omega arith in
    let same = map_fixed h _ (All-weaker (λ v. first + 1 ≤ v.key.train) (λ v. h v ≡ v) (λ v le. others v (λ e. absurd (omega arith))) _ (later-trains (first + 1) ts)) in
    rw (map-append h (events_of first t), same, own, events_at-mapped n g h t.route t.calls m)
events-mapped n g h m others first (suc k) (t ∷ ts) at =
    let same = map_fixed h _ (All-weaker (λ v. v.key.train ≡ first) (λ v. h v ≡ v) (λ v is. others v (λ e. absurd (omega arith))) _ (events_at-train first t.route t.calls)) in
    rw (map-append h (events_of first t), same, events-mapped n g h m others (first + 1) k ts (omega arith))

-- the edge from an event is that to the next
pub only-edge : (o : Opts) (u v : Event) (vs : List Event) (e : Edge) → Contains (edge_on o u (v ∷ vs)) e → train_edge o u v ≡ e
only-edge o u v vs e c = All-contains (λ g. train_edge o u v ≡ g) (edge_on o u (v ∷ vs)) e (grind (arith, All-nil, All-cons)) c

-- an edge along a train stays, where its ends stay live
along-live : (o : Opts) (h : Event → Event) (e : Edge) → ((v : Event) → (h v).key ≡ v.key) → (es : List Event) → All (λ v. (v.key ≡ e.from) ⊎ (v.key ≡ e.to) → (h v).live ≡ true) es → Contains (edges_along o es) e → Contains (edges_along o (map h es)) e
along-live o h e keys [] live c = c
along-live o h e keys (u ∷ []) live c = c
along-live o h e keys (u ∷ v ∷ vs) live c =
    let P : Event → Type 0 = λ v. (v.key ≡ e.from) ⊎ (v.key ≡ e.to) → (h v).live ≡ true in
    let rest = All-tail P u (v ∷ vs) live in
    let here = edge_on o (h u) (h v ∷ map h vs) in
    let later = edges_along o (h v ∷ map h vs) in
    elim (Contains-append_cases (edge_on o u (v ∷ vs)) (edges_along o (v ∷ vs)) e c) [
      | inl first ↦
          let is = only-edge o u v vs e first in
          let lu = All-head P u (v ∷ vs) live (inl (ap (λ (e : Edge). e.from) is)) in
          let lv = All-head P v vs rest (inr (ap (λ (e : Edge). e.to) is)) in
          Contains-append_left here later e (rw (lu, lv) (0, omega arith, rw (keys u, keys v) is))
      | inr there ↦ Contains-append_right here later e (along-live o h e keys (v ∷ vs) rest there)
    ]

-- the state after is that before, but that the values of one train's events are changed
pub record IsMapping (old new : State) (n : ℕ) (g : Call → Call) (h : Event → Event) : Type 0 where
  pub mapped : IsMapped n g h
  pub others : (v : Event) → v.key.train ≢ n → h v ≡ v
  pub shape : (v : Event) → (h v).live ≡ true → h v ≡ with_values v (h v).forecast (h v).report
  pub trains : new.trains ≡ change_train n (change_calls (map g)) old.trains

pub mapping-events : (old new : State) (n : ℕ) (g : Call → Call) (h : Event → Event) → IsMapping old new n g h → events new ≡ map h (events old)
unfolding events
mapping-events old new n g h m = rw m.trains (events-mapped n g h m.mapped m.others 0 n old.trains (omega arith))

module _ (nw : Network) (old new : State) (n : ℕ) (g : Call → Call) (h : Event → Event) (m : IsMapping old new n g h) (before : IsValid nw old) where
  -- an event after with the key of one before is that one, changed
  changed-is : (v y : Event) → Contains (events old) v → Contains (events new) y → y.key ≡ v.key → h v ≡ y
  changed-is v y hv hy key =
      let r = contains-unmap h (events old) y (rw (mapping-events old new n g h m) at hy) in
      let same = (valid-graph nw old before).one r.0 v r.1 hv (sym (m.mapped.keys r.0) ∙ ap (λ (y : Event). y.key) r.2 ∙ key) in
      rw same at r.2

  -- an event whose key is that of a live event after the message stays live
  pub stays-live : (v : Event) → Contains (events old) v → IsLiveAt (events new) v.key → (h v).live ≡ true
  stays-live v hv at = rw (changed-is v at.0 hv at.1 at.2) at.3

  mapping-alike : AreAlike (events old) (events new)
  mapping-alike u v hu hv key lu lv =
      let is = changed-is u v hu hv (sym key) in rw is at (m.shape u (rw is lv))

  pub mapping-joined : (w : Event) → Contains (events new) w → w.live ≡ true → ((k : Key) → IsLiveAt (events old) k → IsLiveAt (events new) k → choice_at old k w ≡ choice_at new k w) → IsJoined nw old new w
  unfolding events
  mapping-joined w hw lw choices =
      let f = change_calls (map g) in
      let of : (at : ℕ) (t : Train) → at ≡ 0 + n → events_of at (f t) ≡ map h (events_of at t) =
      λ at t e. let same : at ≡ n = omega arith in rw same (events_at-mapped n g h t.route t.calls m.mapped)
      in
      let own = events-each (Contains (events old)) 0 old.trains (All-contains_itself (events old)) in
      record {
        trains_stay = λ e c to at.
            rw m.trains (along-change nw.opts e f 0 n old.trains (λ i t eq got c.
            rw (of i t eq) (along-live nw.opts h e m.mapped.keys (events_of i t) (All-weaker (Contains (events old)) (λ v. (v.key ≡ e.from) ⊎ (v.key ≡ e.to) → (h v).live ≡ true) (λ v hv end.
            stays-live v hv (elim end [
              | inl from ↦ rw from at
              | inr is_to ↦ (w, hw, sym (is_to ∙ to), lw)
            ])) (events_of i t) (own n i t eq got)) c)) c);
        trains_come = λ e c to at.
            along-back nw.opts e f 0 n old.trains (λ i t eq got c.
            let same : n ≡ i = omega arith in
            let es = events_of i t in
            All-contains (Contains (edges_along nw.opts es)) (edges_along nw.opts (map h es)) e (along-mapped n g h m.mapped nw.opts (Contains (edges_along nw.opts es)) es (All-contains_itself _))
            (rw (of i t eq) at c)) (rw m.trains at c);
        alike = mapping-alike;
        choices = choices;
      }
