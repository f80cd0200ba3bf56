-- A rerouting that changes no event of its train leaves its calls: there is none between the two, and none is new.
use Rattle.state_laws.proofs.Words.{◌≡◌, ◌≢◌, ℕ, Bool, ◌+◌, ◌<◌, true, false, List, [], ◌∷◌, ◌++◌, Some, None, length, refl, sym, ◌∙◌, ap, subst, arith, append-nil}
use Rattle.state_laws.proofs.Words.{and_parts, not-false, All, AllPairs, All-append, All-contains, All-weaker, All-contains_itself, Contains, Contains-append_left, Contains-append_right, slice_get}
use Rattle.state_laws.proofs.Words.{NewCall, Key, Network, State, Train, Call, Event, is_call, is_live, stands_before, are_at_stops, Reroute, effect, new_calls, new_call, rerouted, node_at}
use Rattle.state_laws.proofs.Words.{same_Some}
use Rattle.state_laws.proofs.Words.{arrival_of, departure_of, events, events_of, calls_of, IsSmallCall, refusal, IsValid, IsTrain, IsRun}
use Rattle.state_laws.proofs.Parts.{All-left, All-right, valid-good}
use Rattle.state_laws.proofs.Accepted.{accepted-by}
use Rattle.state_laws.proofs.Stretches.{and-true, events_at-each}
use Rattle.state_laws.proofs.Values.{live-named, named-at, pairs-right}
use Rattle.state_laws.proofs.Extras.{IsFreshCall, new-fresh}
use Rattle.state_laws.proofs.Splits.{Differ, distinct-pairs, pairs-across}
use Rattle.state_laws.proofs.Reroutes.{IsCut, cut-of}
use Rattle.state_laws.proofs.Changed.{get-own}
use Rattle.standing_laws.proofs.Unchanged.{AreEvents, IsUnchanged, call-events, of-train, stays, was}

-- an event of a train is of one of its calls
label-each : (P : ℕ → Type 0) (st : State) (t : Train) (v : Event) → Contains (events st) v → slice_get st.trains v.key.train ≡ Some t → All (λ c. P c.label) t.calls → P v.key.label
label-each P st t v h got all =
    let own = of-train st v h in
    let same : own.train ≡ t = same_Some own.train t (sym own.got ∙ got) in
    let n = v.key.train in
    All-contains (λ (w : Event). P w.key.label) (events_of n t) v (events_at-each (λ w. P w.key.label) (λ c. P c.label) n t.route (λ c p. (p, p)) t.calls all)
    (subst (λ u. Contains (events_of n u) v) same own.there)

-- what stands behind a departure that is live is reached
run-behind : (live : Bool) (xs : List Call) (c : Call) (ys : List Call) → IsRun live ((xs ++ c ∷ []) ++ ys) → IsRun c.departure.live ys
run-behind live [] c ys h = h.1
run-behind live (x ∷ xs) c ys h = run-behind x.departure.live xs c ys h.1

none-between : (mid rest : List Call) (last : Call) → IsRun true (mid ++ last ∷ rest) → All (λ m. m.arrival.live ≡ true → ⊥) mid → mid ≡ []
none-between [] rest last run dead = refl
none-between (m ∷ mid) rest last run dead = absurd (dead 0 m (omega arith) run.0)

module _ (nw : Network) (st : State) (n from to : ℕ) (via : List NewCall) (valid : IsValid nw st) (small : All IsSmallCall via) (accepted : refusal nw st (Reroute n from to via) ≡ None)
    (free : IsUnchanged nw st (effect st (Reroute n from to via)) n) (t : Train) (got : slice_get st.trains n ≡ Some t) where
  abbrev new : State
  new = effect st (Reroute n from to via)

  abbrev after : Train
  after = rerouted from to via t

  good : IsTrain t
  good = (valid-good nw st valid n n t (omega arith) got).train

  got-after : slice_get new.trains n ≡ Some after
  unfolding effect
  got-after = get-own (rerouted from to via) n st.trains t got

  module _ (c : IsCut from to t.calls) where
    abbrev head : List Call
    head = c.before ++ c.first ∷ []

    abbrev tail : List Call
    tail = c.last ∷ c.rest

    calls-after : after.calls ≡ (head ++ new_calls t.next_label via) ++ tail
    calls-after = rw (c.head, c.tail) refl

    departs : c.first.departure.live ≡ true
    departs =
        let known = and_parts (stands_before from to (calls_of st n)) _ (not-false _ (accepted-by nw st (Reroute n from to via) accepted).known) in
        let alive = and_parts (is_live st (node_at n from true)) (is_live st (node_at n to false)) (and_parts _ (are_at_stops nw via) known.1).0 in
        let each = subst (All (AreEvents st n t)) c.parts (call-events st n t got) in
        let there = All-contains (AreEvents st n t) (head ++ (c.mid ++ tail)) c.first each
        (Contains-append_left head _ c.first (Contains-append_right c.before (c.first ∷ []) c.first (0, omega arith, refl))) in
        live-named st (node_at n from true) valid.trains alive.0 (departure_of n t.route c.first) there.1
        (named-at (node_at n from true) c.first.label true ∙ and-true (is_call from c.first) ∙ c.at_first)

    -- a call between the two is not there after the message
    gone : (m : Call) → Contains c.mid m → All (λ d. d.label ≢ m.label) after.calls
    gone m between =
        let P : Call → Type 0 = λ d. d.label ≢ m.label in
        let pairs = subst (AllPairs Differ) c.parts (distinct-pairs t.calls good.labels) in
        let used = subst (All (λ d. d.label < t.next_label)) c.parts good.used in
        let low : m.label < t.next_label = All-contains (λ d. d.label < t.next_label) c.mid m
        (All-left (λ d. d.label < t.next_label) c.mid tail (All-right (λ d. d.label < t.next_label) head (c.mid ++ tail) used)) between in
        let before = All-weaker (λ d. All (Differ d) (c.mid ++ tail)) P (λ d all. All-contains (Differ d) (c.mid ++ tail) m all (Contains-append_left c.mid tail m between)) head
        (pairs-across Differ head (c.mid ++ tail) pairs) in
        let apart = All-contains (λ d. All (Differ d) tail) c.mid m (pairs-across Differ c.mid tail (pairs-right Differ head (c.mid ++ tail) pairs)) between in
        let behind = All-weaker (Differ m) P (λ d differ same. differ (sym same)) tail apart in
        let fresh = All-weaker (IsFreshCall t.next_label (t.next_label + length via)) P (λ d f same. let high = f.from in absurd (omega arith)) (new_calls t.next_label via)
        (new-fresh t.next_label (t.next_label + length via) via (omega arith) small) in
        rw calls-after (All-append P (head ++ new_calls t.next_label via) tail (All-append P head (new_calls t.next_label via) before fresh) behind)

    -- so it is not reached before it
    dead : All (λ m. m.arrival.live ≡ true → ⊥) c.mid
    dead =
        All-weaker (Contains c.mid) (λ m. m.arrival.live ≡ true → ⊥) (λ m between live.
        let each = All-left (AreEvents st n t) c.mid tail (All-right (AreEvents st n t) head (c.mid ++ tail) (subst (All (AreEvents st n t)) c.parts (call-events st n t got))) in
        let v = arrival_of n t.route m in
        let w = stays nw st new n free v (All-contains (AreEvents st n t) c.mid m each between).0 live refl in
        let own : w.0.key.train ≡ n = ap (λ (k : Key). k.train) w.2 in
        label-each (λ l. l ≢ m.label) new after w.0 w.1 (ap (slice_get new.trains) own ∙ got-after) (gone m between) (ap (λ (k : Key). k.label) w.2)) c.mid (All-contains_itself c.mid)

    none-mid : c.mid ≡ []
    none-mid = none-between c.mid c.rest c.last (rw departs at (run-behind false c.before c.first (c.mid ++ tail) (subst (IsRun false) c.parts good.run))) dead

    -- nor is a call new
    none-new : (xs : List NewCall) → via ≡ xs → xs ≡ []
    none-new [] is = refl
    none-new (x ∷ xs) is =
        let m = new_call t.next_label x in
        let made : Contains (new_calls t.next_label via) m = rw is (0, omega arith, refl) in
        let there : Contains after.calls m = rw calls-after (Contains-append_left (head ++ new_calls t.next_label via) tail m (Contains-append_right head (new_calls t.next_label via) m made)) in
        let v = arrival_of n after.route m in
        let w = was nw st new n free v (All-contains (AreEvents new n after) after.calls m (call-events new n after got-after) there).0 refl refl in
        let own : w.0.key.train ≡ n = ap (λ (k : Key). k.train) w.2 in
        let low = label-each (λ l. l < t.next_label) st t w.0 w.1 (ap (slice_get st.trains) own ∙ got) good.used in
        let same : w.0.key.label ≡ t.next_label = ap (λ (k : Key). k.label) w.2 in
        absurd (omega arith)

    kept-by : after.calls ≡ t.calls
    kept-by =
        let mid = none-mid in
        let none = none-new via refl in
        calls-after ∙ ap (λ xs. (head ++ new_calls t.next_label xs) ++ tail) none ∙ ap (λ xs. xs ++ tail) (append-nil head) ∙ ap (λ xs. head ++ (xs ++ tail)) (sym mid) ∙ sym c.parts

  -- the calls are as they were
  pub kept : after.calls ≡ t.calls
  kept = kept-by (cut-of nw st n from to via valid accepted t got)
