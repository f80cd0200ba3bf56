-- Which entries a message takes out of the index of events, and which it puts in.
use Rattle.edge_rules.proofs.Words.{◌≡◌, ℕ, ◌-◌, ◌<◌, ◌≤◌, Bool, true, false, List, [], ◌∷◌, ◌++◌, Some, option_map, length, map, refl, sym, ap, subst, arith, ◌≢◌, All-map, get_or, slice_get_within, All, AllPairs, append_assoc, slice_get, option_map_or, node_of, NewCall, effect, node_at, stretch, is_event, kill_in, new_calls, rerouted, events_between, events, events_at, events_of, calls_of, live_events, up_to, before, after, Cancel, Reroute, Event, State, Train, AreApart, same_node-itself, filter-append, AllPairs-filter, AllPairs-nil, labels-apart, All-left, Entry, HasOwnLabels, entries_of, entry_of}
use Rattle.state_laws.proofs.Words.{map-append, map_fixed, list_any_at, list_any_none, stands_before}
use Rattle.delay_model.specs.Cuts as Cuts
use Rattle.delay_model.proofs.Lists.{AllPairs-after, AllPairs-cons, AllPairs-tail}
use Rattle.state_laws.proofs.Changed.{get-own}
use Rattle.state_laws.proofs.Cancels.{kill_at}
use Rattle.state_laws.proofs.Cancelled.{cancel-mapping}
use Rattle.state_laws.proofs.Mappings.{mapping-events}
use Rattle.state_laws.proofs.Values.{other-event, pairs-right}
use Rattle.state_laws.proofs.Placed.{placed}
use Rattle.state_laws.proofs.Splits.{pairs-across}
use Rattle.state_laws.proofs.Reroutes.{cut, old-events, new-events, head, tail, fresh}
use Rattle.edge_rules.proofs.InLine.{filter-none}
use Rattle.edge_rules.proofs.Neighbours.{own-labels}

pub entries-append : (us vs : List Event) → entries_of (us ++ vs) ≡ entries_of us ++ entries_of vs
entries-append us vs = simp (filter-append, map-append)

pub AllPairs-map : {X Y : Type 0} (R : Y → Y → Type 0) (f : X → Y) (xs : List X) → AllPairs (λ a b. R (f a) (f b)) xs → AllPairs R (map f xs)
AllPairs-map R f [] h = AllPairs-nil R
AllPairs-map R f (x ∷ xs) h =
    AllPairs-cons R _ _ (All-map (R (f x)) f xs (AllPairs-after (λ a b. R (f a) (f b)) [] x xs h)) (AllPairs-map R f xs (AllPairs-tail (λ a b. R (f a) (f b)) x xs h))

-- the entries of a state's live events are distinct
pub entries-distinct : (st : State) → All HasOwnLabels st.trains → AllPairs (λ a b. a ≢ b) (entries_of (events st))
entries-distinct st labels =
    AllPairs-map (λ a b. a ≢ b) entry_of (live_events (events st))
    (AllPairs-filter (λ u v. entry_of u ≢ entry_of v) (λ (v : Event). v.live) (events st) (λ i j d l m same. labels-apart st labels i j d l m (ap (λ (e : Entry). e.node) same)))

-- of these events some are taken out, and others put in their place
pub record IsExchange (old new out put : List Event) : Type 0 where
  pub front : List Event
  pub back : List Event
  pub before : old ≡ front ++ (out ++ back)
  pub after : new ≡ front ++ (put ++ back)

-- a train that two calls name is there
train-of : (st : State) (n from to : ℕ) → stands_before from to (calls_of st n) ≡ true → (t : Train) × (slice_get st.trains n ≡ Some t)
train-of st n from to h = grind arith

cut-up_to : {X : Type 0} (p : X → Bool) (xs : List X) → xs ≡ up_to p xs ++ after p xs
cut-up_to p [] = refl
cut-up_to p (x ∷ xs) = grind (arith, cut-up_to p xs)

-- a list from the first that passes one test up to the next that passes another
cut-both : {X : Type 0} (p q : X → Bool) (xs : List X) → xs ≡ before p xs ++ (up_to q (Cuts.from p xs) ++ after q (Cuts.from p xs))
cut-both p q [] = refl
cut-both p q (x ∷ xs) = grind (arith, cut-up_to q (x ∷ xs), cut-both p q xs)

-- where some events are cancelled, the others stay
kept-out : (es us : List Event) → All (λ v. All (AreApart v) es) us → map (kill_at es) us ≡ us
kept-out es us h = map_fixed (kill_at es) us (λ i d l.
    let v = get_or us i d in rw (list_any_none (is_event (node_of v.key)) es (λ j e m. other-event (node_of v.key) v (get_or es j e) (same_node-itself (node_of v.key)) (h i d l j e m))) refl)

-- none of those that are cancelled has an entry
pub killed-entries : (es : List Event) → entries_of (map (kill_at es) es) ≡ []
killed-entries es =
    ap (map entry_of) (filter-none _ _ (All-map (λ (v : Event). v.live ≡ false) (kill_at es) es (λ i d l. rw (list_any_at (is_event (node_of (get_or es i d).key)) es i d l (same_node-itself (node_of (get_or es i d).key))) refl)))

killed-between : (us es vs : List Event) → AllPairs AreApart (us ++ (es ++ vs)) → map (kill_at es) (us ++ (es ++ vs)) ≡ us ++ (map (kill_at es) es ++ vs)
killed-between us es vs apart =
    simp (map-append, kept-out es us (λ i d l. All-left (AreApart (get_or us i d)) es vs (pairs-across AreApart us (es ++ vs) apart i d l)), kept-out es vs (λ i d l j f m same. pairs-across AreApart es vs (pairs-right AreApart us (es ++ vs) apart) j f m i d l (sym same)))

pub cancel-exchange : (st : State) (n from to : ℕ) → All HasOwnLabels st.trains → stands_before from to (calls_of st n) ≡ true → let es = stretch st n from to in IsExchange (events st) (events (effect st (Cancel n from to))) es (map (kill_at es) es)
unfolding events
cancel-exchange st n from to labels stands =
    let t = train-of st n from to stands in
    let p = placed (λ t. t) 0 n n st.trains t.0 (omega arith) t.1 in
    let leaves = is_event (node_at n from true) in
    let arrives = is_event (node_at n to false) in
    let line = events_of n t.0 in
    let es = stretch st n from to in
    let us = p.before ++ before leaves line in
    let vs = after arrives (Cuts.from leaves line) ++ p.after in
    let whole : events st ≡ us ++ (es ++ vs) = grind (arith, p.old, t.1, cut-both leaves arrives line, append_assoc) in
    record {
      front = us;
      back = vs;
      before = whole;
      after = rw (mapping-events st (effect st (Cancel n from to)) n (kill_in es n) (kill_at es) (cancel-mapping st n from to), whole) (killed-between us es vs (subst (AllPairs AreApart) whole (labels-apart st labels)));
    }

-- the label of a train's next call
abbrev pub IsNextLabel : State → ℕ → ℕ → Type 0
IsNextLabel st n label = option_map (λ (t : Train). t.next_label) (slice_get st.trains n) ≡ Some label

-- the events of the new calls
abbrev pub made : State → ℕ → List NewCall → List Event
made st n via = option_map_or (λ (t : Train). events_at n t.route (new_calls t.next_label via)) (slice_get st.trains n) []

pub reroute-exchange : (st : State) (n from to : ℕ) (via : List NewCall) → All HasOwnLabels st.trains → stands_before from to (calls_of st n) ≡ true → IsExchange (events st) (events (effect st (Reroute n from to via))) (events_between st n from to) (made st n via)
unfolding effect events fresh
reroute-exchange st n from to via labels stands =
    let t = train-of st n from to stands in
    let c = cut from to t.0.calls (rw t.1 at stands) (own-labels st.trains n t.0 labels t.1) in
    let p = placed (rerouted from to via) 0 n n st.trains t.0 (omega arith) t.1 in
    record {
      front = p.before ++ events_at n t.0.route (head from to t.0 c via);
      back = events_at n t.0.route (tail from to t.0 c via) ++ p.after;
      before = grind (arith, p.old, t.1, c.inner, old-events from to t.0 c via n, append_assoc);
      after = grind (arith, p.new, t.1, new-events from to t.0 c via n, append_assoc);
    }

-- the train is there afterwards, with labels for so many calls more
pub reroute-there : (st : State) (n from to : ℕ) (via : List NewCall) → stands_before from to (calls_of st n) ≡ true → n < length (effect st (Reroute n from to via)).trains
unfolding effect
reroute-there st n from to via stands = slice_get_within _ n _ (get-own (rerouted from to via) n st.trains _ (train-of st n from to stands).1)

pub reroute-next : (st : State) (n from to next : ℕ) (via : List NewCall) → stands_before from to (calls_of st n) ≡ true → IsNextLabel (effect st (Reroute n from to via)) n next → (length via ≤ next) × IsNextLabel st n (next - length via)
unfolding effect
reroute-next st n from to next via stands h =
    let t = train-of st n from to stands in
    grind (arith, t.1, get-own (rerouted from to via) n st.trains t.0 t.1)
