-- A cancelled train has fewer live events, none of which was reported, and no override of them is left.
use Rattle.state_laws.proofs.Words.{◌≡◌, ℕ, Bool, true, false, not, cond, List, Option, Some, None, map, sym, ◌∙◌, ap, subst, ◌≢◌, cond_both, arith, not-false, All-weaker, All-contains}
use Rattle.state_laws.proofs.Words.{list_any_none, FinMap, get, retain_keys, get-retain_keys, All, Contains, IfSome, node_of, effect, node_at, stretch, is_among, names_one_of, kill_in}
use Rattle.state_laws.proofs.Words.{change_calls, events, events_of, train_events, calls_of, live_report, is_event, connection_cmp, refusal, IsSmall, IsValid, Cancel, Network, Connection}
use Rattle.state_laws.proofs.Words.{Override, Event, State, events-unique, events_at-train, exact_connections, same_node-is}
use Rattle.state_laws.proofs.Parts.{IsUnreported, valid-from, valid-carried}
use Rattle.state_laws.proofs.Changed.{IsMapped, good-mapped, good-change, contains-mapped, order-fewer, train_events-each, train_events-there}
use Rattle.state_laws.proofs.Accepted.{accepted-by, none-reported}
use Rattle.state_laws.proofs.Values.{any-there, carried-over, other-train}
use Rattle.state_laws.proofs.Stretches.{All-from, All-up_to, between, run-cancelled}

-- an override that is left names none of the events, and was there before
pub override-left : (m : FinMap connection_cmp Override) (es : List Event) (p : Connection) (o : Override) → get (retain_keys m (λ p. not (names_one_of es p))) p ≡ Some o → (get m p ≡ Some o) × (is_among es p.arrival ≡ false) × (is_among es p.departure ≡ false)
override-left m es p o h =
    let test : Connection → Bool = λ p. not (names_one_of es p) in
    let now = get-retain_keys m test p (λ x same. ap test (sym (exact_connections p x same))) in grind arith

abbrev pub no_more : Event → Event
no_more v = record v { live = false }

abbrev pub kill_at : List Event → Event → Event
kill_at es v = cond (is_among es (node_of v.key)) (no_more v) v

pub kill-mapped : (n : ℕ) (es : List Event) → IsMapped n (kill_in es n) (kill_at es)
kill-mapped n es = grind arith

pub no-report : (o : Option ℕ) → IfSome o (λ r. true ≡ false) → o ≡ None
no-report o h = grind arith

-- no event among these, live or not, has a report
free-report : (v : Event) → IfSome (live_report v) (λ r. true ≡ false) → IsUnreported v → v.report ≡ None
free-report v h dead = grind arith

-- what holds of a train's events holds of those of a stretch
pub stretch-each : (P : Event → Type 0) (st : State) (n from to : ℕ) → All P (train_events st n) → All P (stretch st n from to)
stretch-each P st n from to all = All-up_to P (is_event (node_at n to false)) _ (All-from P (is_event (node_at n from true)) (train_events st n) all)

-- an event of another train is not cancelled
pub kill-other : (st : State) (n from to : ℕ) (v : Event) → v.key.train ≢ n → kill_at (stretch st n from to) v ≡ v
kill-other st n from to v ne =
    let own = stretch-each (λ v. v.key.train ≡ n) st n from to (train_events-each st n (λ v. v.key.train ≡ n) (λ t got. events_at-train n t.route t.calls)) in
    rw (list_any_none (is_event (node_of v.key)) (stretch st n from to) (All-weaker (λ w. w.key.train ≡ n) (λ w. is_event (node_of v.key) w ≡ false) (λ w at.
    other-train (node_of v.key) w (λ e. ne (sym e ∙ at))) _ own))

-- none of the events that are cancelled was reported
pub stretch-free : (nw : Network) (st : State) (n from to : ℕ) → IsValid nw st → refusal nw st (Cancel n from to) ≡ None → (v : Event) → Contains (events st) v → is_among (stretch st n from to) (node_of v.key) ≡ true → IfSome (live_report v) (λ r. true ≡ false)
stretch-free nw st n from to valid h v hv hit =
    let es = stretch st n from to in
    let Free : Event → Type 0 = λ v. IfSome (live_report v) (λ r. true ≡ false) in
    let free = none-reported (λ r. true) es (accepted-by nw st (Cancel n from to) h).agrees in
    let found = any-there (is_event (node_of v.key)) es hit in
    let u = found.0 in
    let there = All-contains (Contains (events st)) es u (stretch-each (Contains (events st)) st n from to (train_events-there st n)) found.1 in
    subst Free (events-unique st valid.trains u v there hv (same_node-is (node_of u.key) (node_of v.key) found.2)) (All-contains Free es u free found.1)

pub cancel-valid : (nw : Network) (st : State) (n from to : ℕ) → IsValid nw st → refusal nw st (Cancel n from to) ≡ None → IsValid nw (effect st (Cancel n from to))
unfolding effect events
cancel-valid nw st n from to valid h =
    let a = accepted-by nw st (Cancel n from to) h in
    let es = stretch st n from to in
    let g = kill_in es n in
    let k = kill_at es in
    let m = kill-mapped n es in
    let among : Event → Bool = λ v. is_among es (node_of v.key) in
    let unreported : (v : Event) → Contains (events st) v → IsUnreported (k v) =
    λ v hv.
    let old = All-contains IsUnreported (events st) v valid.unreported hv in
    cond_both (among v) (no_more v) v IsUnreported (λ hit _. free-report v (stretch-free nw st n from to valid h v hv hit) old) (λ _. old)
    in
    let new = effect st (Cancel n from to) in
    valid-from nw new valid.options
    (good-change nw st n (change_calls (map g)) valid (λ t got good.
    let own : train_events st n ≡ events_of n t = rw got in
    let calls : calls_of st n ≡ t.calls = rw got in
    let same : es ≡ between n t.route from to t.calls = rw got in
    good-mapped nw n g k t m good
    (run-cancelled n t.route (is_among es) from to false t.calls good.train.labels (rw calls at (not-false _ a.known)) (λ i d l dep. rw same) good.train.run)
    (order-fewer k (λ v P none p. cond_both (among v) (no_more v) v (λ w. P (live_report w)) (λ _. none) (λ _. p)) (events_of n t) (good.train.reports n))
    (All-weaker (Contains (events st)) (λ v. IsUnreported (k v)) unreported (events_of n t) (rw own at (train_events-there st n)))
    (All-weaker IsSmall (λ v. IsSmall (k v)) (λ v s. grind arith) (events_of n t) good.small)))
    (λ p o got.
    let left = override-left st.overrides es p o got in
    let c = valid-carried nw st valid p o left.0 in
    let u = c.joins.arrival in
    let v = c.joins.departure in
    let carried : (w : Event) → Contains (events st) w → among w ≡ false → Contains (events new) w =
    λ w hw miss. rw miss at (contains-mapped st n g k m (kill-other st n from to) w hw)
    in
    carried-over nw (events st) (events new) p o c u.forecast u.report v.forecast v.report
    (carried u c.joins.arrival_there (rw c.joins.is_arrival left.1)) (carried v c.joins.departure_there (rw c.joins.is_departure left.2)))
