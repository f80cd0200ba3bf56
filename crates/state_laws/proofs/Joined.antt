-- The edges to an event stay, where the trains' edges to it and what was chosen for its connections do.
use Rattle.state_laws.proofs.Words.{◌≡◌, ℕ, zero, suc, ◌+◌, true, List, [], ◌∷◌, Option, Some, None, refl, sym, ◌∙◌, arith, inl, inr, All-cons, All-nil, All-weaker, All-contains}
use Rattle.state_laws.proofs.Words.{All-contains_itself, Contains-append_left, Contains-append_right, Contains-append_cases, get, All, Contains, slice_get, node_of, Key, Opts, edges}
use Rattle.state_laws.proofs.Words.{edges_along, train_edges, transfer, transfer_edges, override_of, change_train, events, events_of, connection, cap, IsValid, Network, Override, Edge}
use Rattle.state_laws.proofs.Words.{Event, State, Train, IsLiveAt, IsGraph, valid-graph}
use Rattle.state_laws.proofs.Parts.{transfers-each, each-transfer}
use Rattle.state_laws.proofs.Values.{with_values}
use Rattle.state_laws.proofs.Untouched.{IsLeft}

-- an edge leads from the one live event to the other
pub record IsBetween (u v : Event) (e : Edge) : Type 0 where
  pub from_key : e.from ≡ u.key
  pub to_key : e.to ≡ v.key
  pub from_live : u.live ≡ true
  pub to_live : v.live ≡ true

transfer-between : (nw : Network) (choice : Option Override) (u v : Event) → All (IsBetween u v) (transfer nw choice u v)
unfolding transfer
transfer-between nw choice u v = grind (arith, All-nil, All-cons)

transfers-there : (nw : Network) (choices : Event → Event → Option Override) (es : List Event) (u v : Event) (e : Edge) → Contains es u → Contains es v → Contains (transfer nw (choices u v) u v) e → Contains (transfer_edges nw choices es) e
transfers-there nw choices es u v e hu hv h =
    let gs = transfer_edges nw choices es in
    All-contains (Contains gs) (transfer nw (choices u v) u v) e (each-transfer nw choices es (Contains gs) (All-contains_itself gs) u v hu hv) h

-- what was chosen for the connection from the event with a key
abbrev pub choice_at : State → Key → Event → Option Override
choice_at st k w = get st.overrides (connection (node_of k) (node_of w.key))

-- of each two events with one key, live in both lists, the second is the first but for its values
abbrev pub AreAlike : List Event → List Event → Type 0
AreAlike es fs = (u v : Event) → Contains es u → Contains fs v → u.key ≡ v.key → u.live ≡ true → v.live ≡ true → v ≡ with_values u v.forecast v.report

transfers-stay : (nw : Network) (old new : State) (w : Event) → IsGraph (events old) (edges nw old) → Contains (events old) w → Contains (events new) w → AreAlike (events old) (events new) → ((k : Key) → IsLiveAt (events old) k → IsLiveAt (events new) k → choice_at old k w ≡ choice_at new k w) → (e : Edge) → Contains (transfer_edges nw (override_of old) (events old)) e → e.to ≡ w.key → IsLiveAt (events new) e.from → Contains (transfer_edges nw (override_of new) (events new)) e
unfolding transfer
transfers-stay nw old new w graph hw kw alike same e h =
    let es = events old in
    let fs = events new in
    let P : Edge → Type 0 = λ e. e.to ≡ w.key → IsLiveAt fs e.from → Contains (transfer_edges nw (override_of new) fs) e in
    All-contains P (transfer_edges nw (override_of old) es) e (transfers-each nw (override_of old) es P (λ u v hu hv.
    let ts = transfer nw (override_of old u v) u v in
    All-weaker (Contains ts) P (λ e c to at.
    let b = All-contains (IsBetween u v) ts e (transfer-between nw (override_of old u v) u v) c in
    let x = at.0 in
    let key : u.key ≡ x.key = sym b.from_key ∙ sym at.2 in
    let is_w = graph.one v w hv hw (sym b.to_key ∙ to) in
    let shape = alike u x hu at.1 key b.from_live at.3 in
    let chosen = same u.key (u, hu, refl, b.from_live) (x, at.1, sym key, at.3) in
    transfers-there nw (override_of new) fs x w e at.1 kw (rw (shape, ← chosen) (rw is_w at c))) ts (All-contains_itself ts))) h

alike-back : (es fs : List Event) → AreAlike es fs → AreAlike fs es
alike-back es fs alike u v hu hv key lu lv = rw (alike v u hv hu (sym key) lv lu)

-- the edges to an event along its train, and the choices for its connections, are the same in both states
pub record IsJoined (nw : Network) (old new : State) (w : Event) : Type 0 where
  pub trains_stay : (e : Edge) → Contains (train_edges nw.opts 0 old.trains) e → e.to ≡ w.key → IsLiveAt (events new) e.from → Contains (train_edges nw.opts 0 new.trains) e
  pub trains_come : (e : Edge) → Contains (train_edges nw.opts 0 new.trains) e → e.to ≡ w.key → IsLiveAt (events old) e.from → Contains (train_edges nw.opts 0 old.trains) e
  pub alike : AreAlike (events old) (events new)
  pub choices : (k : Key) → IsLiveAt (events old) k → IsLiveAt (events new) k → choice_at old k w ≡ choice_at new k w

-- so all edges to it are the same
pub left-by : (nw : Network) (old new : State) (w : Event) → IsValid nw old → IsValid nw new → Contains (events old) w → Contains (events new) w → (w.report ≡ None → cap (events old) w ≡ cap (events new) w) → IsJoined nw old new w → IsLeft nw old new w
unfolding edges
left-by nw old new w before after hw kw caps j =
    let gs = train_edges nw.opts 0 old.trains in
    let hs = train_edges nw.opts 0 new.trains in
    let xs = transfer_edges nw (override_of old) (events old) in
    let ys = transfer_edges nw (override_of new) (events new) in
    record {
      there = hw;
      caps = caps;
      stays = λ e h to at.
          elim (Contains-append_cases gs xs e h) [
            | inl along ↦ Contains-append_left hs ys e (j.trains_stay e along to at)
            | inr across ↦ Contains-append_right hs ys e (transfers-stay nw old new w (valid-graph nw old before) hw kw j.alike j.choices e across to at)
          ];
      comes = λ e h to at.
          elim (Contains-append_cases hs ys e h) [
            | inl along ↦ Contains-append_left gs xs e (j.trains_come e along to at)
            | inr across ↦
                Contains-append_right gs xs e
                (transfers-stay nw new old w (valid-graph nw new after) kw hw (alike-back (events old) (events new) j.alike) (λ k a b. sym (j.choices k b a)) e across to at)
          ];
    }

change-none : (n : ℕ) (ts : List Train) → change_train n (λ t. t) ts ≡ ts
change-none n [] = refl
change-none zero (t ∷ ts) = refl
change-none (suc n) (t ∷ ts) = rw (change-none n ts)

-- an edge along a train stays where one train is changed, if it stays along that train
along-both : (o : Opts) (e : Edge) (f g : Train → Train) (first n : ℕ) (ts : List Train) → ((at : ℕ) (t : Train) → at ≡ first + n → slice_get ts n ≡ Some t → Contains (edges_along o (events_of at (f t))) e → Contains (edges_along o (events_of at (g t))) e) → Contains (train_edges o first (change_train n f ts)) e → Contains (train_edges o first (change_train n g ts)) e
along-both o e f g first n [] k h = h
along-both o e f g first zero (t ∷ ts) k h =
    let here = edges_along o (events_of first (g t)) in
    elim (Contains-append_cases (edges_along o (events_of first (f t))) _ e h) [
      | inl own ↦ Contains-append_left here _ e (k first t (omega arith) refl own)
      | inr there ↦ Contains-append_right here _ e there
    ]
along-both o e f g first (suc n) (t ∷ ts) k h =
    let here = edges_along o (events_of first t) in
    elim (Contains-append_cases here (train_edges o (first + 1) (change_train n f ts)) e h) [
      | inl own ↦ Contains-append_left here _ e own
      | inr there ↦ Contains-append_right here _ e (along-both o e f g (first + 1) n ts (λ at u eq s c. k at u (omega arith) s c) there)
    ]

pub along-change : (o : Opts) (e : Edge) (f : Train → Train) (first n : ℕ) (ts : List Train) → ((at : ℕ) (t : Train) → at ≡ first + n → slice_get ts n ≡ Some t → Contains (edges_along o (events_of at t)) e → Contains (edges_along o (events_of at (f t))) e) → Contains (train_edges o first ts) e → Contains (train_edges o first (change_train n f ts)) e
along-change o e f first n ts k h = along-both o e (λ t. t) f first n ts k (rw change-none h)

-- and the other way round
pub along-back : (o : Opts) (e : Edge) (f : Train → Train) (first n : ℕ) (ts : List Train) → ((at : ℕ) (t : Train) → at ≡ first + n → slice_get ts n ≡ Some t → Contains (edges_along o (events_of at (f t))) e → Contains (edges_along o (events_of at t)) e) → Contains (train_edges o first (change_train n f ts)) e → Contains (train_edges o first ts) e
along-back o e f first n ts k h = rw change-none at (along-both o e f (λ t. t) first n ts k h)
