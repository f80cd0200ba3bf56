-- A rerouted train is good: what was reported stays, the new calls have labels of their own, and the edges were tested.
use Rattle.state_laws.proofs.Words.{◌≡◌, ℕ, ◌+◌, ◌<◌, true, false, List, [], ◌∷◌, ◌++◌, Some, None, length, refl, sym, ◌∙◌, ap, subst, arith, append_assoc, and_parts, not-false}
use Rattle.state_laws.proofs.Words.{false_from_ne_true, eqb-true, All-head, All-weaker, list_any_at, All, AllPairs, Contains, slice_get, node_of, NewCall, edges_along, effect, node_at}
use Rattle.state_laws.proofs.Words.{is_call, is_among, new_calls, rerouted, calls_between, events_between, events, events_at, events_of, train_events, calls_of, arrival_of, departure_of}
use Rattle.state_laws.proofs.Words.{live_report, is_event, is_live, IsSmallCall, refusal, stands_before, has_call, are_at_stops, first_against_rank, IsForward, IsSmall, IsRun}
use Rattle.state_laws.proofs.Words.{HasDistinctLabels, HasReportsInOrder, IsValid, Reroute, Network, Call, Event, State, Train, same_node-itself}
use Rattle.state_laws.proofs.Parts.{All-left, All-right, IsGood, IsUnreported, valid-from, valid-good, valid-carried}
use Rattle.state_laws.proofs.Changed.{get-own, good-change, contains-change, ordered-number, train_events-there}
use Rattle.state_laws.proofs.Accepted.{accepted-by}
use Rattle.state_laws.proofs.Values.{carried-over, live-named, named-at}
use Rattle.state_laws.proofs.Choices.{none-against}
use Rattle.state_laws.proofs.Cancels.{override-left}
use Rattle.state_laws.proofs.Stretches.{and-true, each-events_at}
use Rattle.state_laws.proofs.Extras.{IsFreshCall, new-fresh, new-distinct, none-live, fresh-each, fresh-small}
use Rattle.state_laws.proofs.Splits.{split-at, from-skip, pairs-across, Differ, distinct-pairs, pairs-distinct, events_at-append, All-swap, order-swap, around, pairs-swap, beside, run-swap}
use Rattle.state_laws.proofs.Splits.{run-new}
use Rattle.delay_model.specs.Cuts as Cuts

-- the calls of a train at two of them, of which the one stands before the other
pub record IsCut (from to : ℕ) (cs : List Call) : Type 0 where
  pub before : List Call
  pub first : Call
  pub mid : List Call
  pub last : Call
  pub rest : List Call
  pub parts : cs ≡ (before ++ first ∷ []) ++ (mid ++ last ∷ rest)
  pub at_first : is_call from first ≡ true
  pub at_last : is_call to last ≡ true
  pub head : Cuts.up_to (is_call from) cs ≡ before ++ first ∷ []
  pub tail : Cuts.from (is_call to) cs ≡ last ∷ rest
  pub inner : calls_between from to cs ≡ mid

pub cut : (from to : ℕ) (cs : List Call) → stands_before from to cs ≡ true → HasDistinctLabels cs → IsCut from to cs
cut from to cs stands labels =
    let both = and_parts (has_call from cs) _ stands in
    let a = split-at Call (is_call from) cs both.0 in
    let b = split-at Call (is_call to) a.back (rw a.is_after at both.1) in
    let head = a.front ++ a.here ∷ [] in
    let parts : cs ≡ head ++ a.back = a.parts ∙ sym (append_assoc a.front (a.here ∷ []) a.back) in
    let across = pairs-across Differ head a.back (subst (AllPairs Differ) parts (distinct-pairs cs labels)) in
    let others = All-weaker (λ c. All (Differ c) a.back) (λ c. is_call to c ≡ false) (λ c all. false_from_ne_true (is_call to c) (λ same.
    All-head (Differ c) b.here b.back (All-right (Differ c) b.front _ (subst (All (Differ c)) b.parts all)) (eqb-true _ _ same ∙ sym (eqb-true _ _ b.passes)))) head across
    in
    record {
      before = a.front;
      first = a.here;
      mid = b.front;
      last = b.here;
      rest = b.back;
      parts = parts ∙ ap (λ xs. head ++ xs) b.parts;
      at_first = a.passes;
      at_last = b.passes;
      head = a.is_up_to;
      tail = ap (Cuts.from (is_call to)) parts ∙ from-skip (is_call to) head a.back others ∙ b.is_from;
      inner = ap (Cuts.before (is_call to)) a.is_after ∙ b.is_before;
    }

-- an event that is there is among the events by its name
among-there : (es : List Event) (v : Event) → Contains es v → is_among es (node_of v.key) ≡ true
among-there es v h = list_any_at (is_event (node_of v.key)) es h.0 v h.1 (rw h.2 (same_node-itself (node_of v.key)))

module _ (from to : ℕ) (t : Train) (c : IsCut from to t.calls) (via : List NewCall) where
  unfoldable pub head : List Call
  head = c.before ++ c.first ∷ []

  unfoldable pub tail : List Call
  tail = c.last ∷ c.rest

  unfoldable pub fresh : List Call
  fresh = new_calls t.next_label via

  -- the events before, between and after
  pub old-events : (n : ℕ) → events_of n t ≡ events_at n t.route head ++ (events_at n t.route c.mid ++ events_at n t.route tail)
  unfolding head tail
  old-events n = ap (events_at n t.route) c.parts ∙ rw (events_at-append n t.route head, events_at-append n t.route c.mid)

  new-calls : (rerouted from to via t).calls ≡ head ++ (fresh ++ tail)
  unfolding head tail fresh
  new-calls = rw (c.head, c.tail) (append_assoc head fresh tail)

  pub new-events : (n : ℕ) → events_of n (rerouted from to via t) ≡ events_at n t.route head ++ (events_at n t.route fresh ++ events_at n t.route tail)
  new-events n = ap (events_at n t.route) new-calls ∙ rw (events_at-append n t.route head, events_at-append n t.route fresh)

  -- what holds of the old events and of the new ones holds of all
  new-each : (P : Event → Type 0) (n : ℕ) → All P (events_of n t) → All P (events_at n t.route fresh) → All P (events_of n (rerouted from to via t))
  new-each P n old new = rw (new-events n) (All-swap P _ (events_at n t.route c.mid) _ _ (rw (old-events n) at old) new)

  -- an event that is not between them stays
  stays : (n : ℕ) (v : Event) → Contains (events_of n t) v → is_among (events_at n t.route c.mid) (node_of v.key) ≡ false → Contains (events_of n (rerouted from to via t)) v
  stays n v h apart =
      let m = events_at n t.route c.mid in
      let out : Contains m v → ⊥ = λ between. let is = among-there m v between in absurd (cc) in
      rw (new-events n) (around _ _ _ v (beside (events_at n t.route head) m (events_at n t.route tail) v (rw (old-events n) at h) out))

  -- what holds of the events of the train holds of the departure of the first call and of the arrival of the last
  at-ends : (n : ℕ) (P : Event → Type 0) → All P (events_of n t) → P (departure_of n t.route c.first) × P (arrival_of n t.route c.last)
  at-ends n P all =
      let Q : Call → Type 0 = λ d. P (arrival_of n t.route d) × P (departure_of n t.route d) in
      let first = c.before ++ c.first ∷ [] in
      let parts = subst (All Q) c.parts (each-events_at P n t.route t.calls all) in
      ((All-head Q c.first [] (All-right Q c.before _ (All-left Q first _ parts))).1, (All-head Q c.last c.rest (All-right Q c.mid _ (All-right Q first _ parts))).0)

  rerouted-good : (nw : Network) (n : ℕ) → IsGood nw n t → All IsSmallCall via → c.first.departure.live ≡ true → c.last.arrival.live ≡ true → All IsForward (edges_along nw.opts (events_of n (rerouted from to via t))) → IsGood nw n (rerouted from to via t)
  unfolding head fresh tail
  rerouted-good nw n good small leaves arrives forward =
      let r = t.route in
      let low = t.next_label in
      let high = low + length via in
      let Used : Call → Type 0 = λ d. d.label < low in
      let new = new-fresh low high via (omega arith) small in
      let used = subst (All Used) c.parts good.train.used in
      let used_head = All-left Used head _ used in
      let used_tail = All-right Used c.mid tail (All-right Used head _ used) in
      let silent = fresh-each (λ v. live_report v ≡ None) (λ v _ _ none. none-live v none) low high n r fresh new in
      let order = order-swap (events_at n r head) (events_at n r c.mid) _ (events_at n r tail) silent (subst HasReportsInOrder (old-events n) (good.train.reports n)) in
      record {
        train = record {
          labels = subst HasDistinctLabels (sym new-calls) (pairs-distinct _ (pairs-swap Differ head c.mid fresh tail
              (subst (AllPairs Differ) c.parts (distinct-pairs t.calls good.train.labels)) (distinct-pairs fresh (new-distinct low via small))
              (λ i d l j e m same. let old = used_head i d l in let later = (new j e m).from in absurd (omega arith))
              (λ i d l j e m same. let later = (new i d l).from in let old = used_tail j e m in absurd (omega arith))));
          used = subst (All (λ d. d.label < high)) (sym new-calls)
              (All-swap (λ d. d.label < high) head c.mid fresh tail (All-weaker Used (λ d. d.label < high) (λ d less. omega arith) _ used) (All-weaker (IsFreshCall low high) (λ d. d.label < high) (λ d f. f.below) fresh new));
          run = subst (IsRun false) (sym new-calls) (run-swap false c.before c.first c.mid fresh c.last c.rest leaves arrives (run-new low via) (subst (IsRun false) c.parts good.train.run));
          reports = λ number. ordered-number n number r _ (subst HasReportsInOrder (sym (new-events n)) order);
        };
        forward = forward;
        unreported = new-each IsUnreported n good.unreported (fresh-each IsUnreported (λ v _ _ none _. none) low high n r fresh new);
        small = new-each IsSmall n good.small (fresh-each IsSmall fresh-small low high n r fresh new);
      }

-- the two calls that an accepted message names
pub cut-of : (nw : Network) (st : State) (n from to : ℕ) (via : List NewCall) → IsValid nw st → refusal nw st (Reroute n from to via) ≡ None → (t : Train) → slice_get st.trains n ≡ Some t → IsCut from to t.calls
cut-of nw st n from to via valid h t got =
    let known = not-false _ (accepted-by nw st (Reroute n from to via) h).known in
    cut from to t.calls (rw got at (and_parts (stands_before from to (calls_of st n)) _ known).0) (valid-good nw st valid n n t (omega arith) got).train.labels

pub reroute-valid : (nw : Network) (st : State) (n from to : ℕ) (via : List NewCall) → IsValid nw st → All IsSmallCall via → refusal nw st (Reroute n from to via) ≡ None → IsValid nw (effect st (Reroute n from to via))
unfolding effect events
reroute-valid nw st n from to via valid small h =
    let a = accepted-by nw st (Reroute n from to via) h in
    let known = and_parts (stands_before from to (calls_of st n)) _ (not-false _ a.known) in
    let alive = and_parts (is_live st (node_at n from true)) (is_live st (node_at n to false)) (and_parts _ (are_at_stops nw via) known.1).0 in
    let new = effect st (Reroute n from to via) in
    let es = events_between st n from to in
    let f = rerouted from to via in
    valid-from nw new valid.options
    (good-change nw st n f valid (λ t got good.
    let c = cut-of nw st n from to via valid h t got in
    let own : train_events st n ≡ events_of n t = rw got in
    let there = at-ends from to t c via n (Contains (events st)) (rw own at (train_events-there st n)) in
    let in_rank : first_against_rank (edges_along nw.opts (events_of n (f t))) ≡ None = rw (get-own f n st.trains t got) at a.in_rank in
    rerouted-good from to t c via nw n good small
    (live-named st (node_at n from true) valid.trains alive.0 (departure_of n t.route c.first) there.0 (named-at (node_at n from true) c.first.label true ∙ and-true (is_call from c.first) ∙ c.at_first))
    (live-named st (node_at n to false) valid.trains alive.1 (arrival_of n t.route c.last) there.1 (named-at (node_at n to false) c.last.label false ∙ and-true (is_call to c.last) ∙ c.at_last))
    (none-against _ in_rank)))
    (λ p o got.
    let left = override-left st.overrides es p o got in
    let d = valid-carried nw st valid p o left.0 in
    let u = d.joins.arrival in
    let v = d.joins.departure in
    let carried : (w : Event) → Contains (events st) w → is_among es (node_of w.key) ≡ false → Contains (events new) w =
    λ w hw miss. contains-change f 0 n st.trains w w hw (λ _. refl) (λ at t e got here.
    let same : at ≡ n = omega arith in
    let c = cut-of nw st n from to via valid h t got in
    let between : es ≡ events_at n t.route c.mid = rw (got, c.inner) in
    rw same (stays from to t c via n w (rw same at here) (rw between at miss)))
    in
    carried-over nw (events st) (events new) p o d u.forecast u.report v.forecast v.report
    (carried u d.joins.arrival_there (rw d.joins.is_arrival left.1)) (carried v d.joins.departure_there (rw d.joins.is_departure left.2)))
