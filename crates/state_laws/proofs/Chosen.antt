-- A choice for one connection changes no edge to another event.
use Rattle.state_laws.proofs.Words.{◌≡◌, ℕ, Bool, true, false, not, List, [], None, refl, sym, ap, ◌≢◌, false_from_ne_true, arith, ◌∷◌, All-head, FinMap, get, retain_keys, get-insert}
use Rattle.state_laws.proofs.Words.{get-remove, get-retain_keys, All, Contains, eq_by_cmp, node_of, Node, effect, with_override, is_among, names_one_of, events, connection, connection_cmp}
use Rattle.state_laws.proofs.Words.{refusal, named, IsValid, Keep, Drop, Rule, Network, Connection, Override, Kept, Dropped, Event, State, connections_total, exact_connections, valid-graph}
use Rattle.state_laws.proofs.Values.{with_values}
use Rattle.state_laws.proofs.Choices.{eq-Equal, keep-valid, drop-valid, free-valid}
use Rattle.state_laws.proofs.Untouched.{IsLeft}
use Rattle.state_laws.proofs.Joined.{left-by}

-- one event is alike to itself
pub alike-itself : (u v : Event) → u ≡ v → v ≡ with_values u v.forecast v.report
alike-itself u v e = rw e

-- connections to other departures are others
differ-there : (p q : Connection) (k : Node) → p.departure ≢ k → q.departure ≡ k → eq_by_cmp connection_cmp q p ≡ false
differ-there p q k ne at =
    false_from_ne_true (eq_by_cmp connection_cmp q p) (λ same. ne (rw (exact_connections q p (eq-Equal (connection_cmp q p) same)) at at))

-- what is left, where overrides change, but none of a connection to the event
overridden-left : (nw : Network) (st : State) (m : FinMap connection_cmp Override) (spare : ℕ) (w : Event) → IsValid nw st → IsValid nw (record st { overrides = m; spare_overrides = spare }) → Contains (events st) w → ((q : Connection) → q.departure ≡ node_of w.key → get st.overrides q ≡ get m q) → IsLeft nw st (record st { overrides = m; spare_overrides = spare }) w
unfolding events
overridden-left nw st m spare w before after hw same =
    let new = record st { overrides = m; spare_overrides = spare } in
    left-by nw st new w before after hw hw (λ _. refl) (record {
      trains_stay = λ e c _ _. c;
      trains_come = λ e c _ _. c;
      alike = λ u v hu hv key _ _. alike-itself u v ((valid-graph nw st before).one u v hu hv key);
      choices = λ k _ _. same (connection (node_of k) (node_of w.key)) refl;
    })

chosen-left : (nw : Network) (st : State) (p : Connection) (o : Override) → IsValid nw st → IsValid nw (with_override p o st) → (w : Event) → Contains (events st) w → All (λ k. k ≢ node_of w.key) (p.departure ∷ []) → IsLeft nw st (with_override p o st) w
chosen-left nw st p o before after w hw free =
    let ne = All-head (λ k. k ≢ node_of w.key) p.departure [] free in
    overridden-left nw st _ _ w before after hw (λ q at. sym (rw (differ-there p q (node_of w.key) ne at) at (get-insert connections_total st.overrides p o q)))

pub keep-left : (nw : Network) (st : State) (feeder train : Node) → IsValid nw st → (feeder.dep ≡ false) × (train.dep ≡ true) → refusal nw st (Keep feeder train) ≡ None → (w : Event) → Contains (events (effect st (Keep feeder train))) w → All (λ k. k ≢ node_of w.key) (named st (Keep feeder train)) → IsLeft nw st (effect st (Keep feeder train)) w
unfolding effect events
keep-left nw st feeder train valid kinds h = chosen-left nw st (connection feeder train) Kept valid (keep-valid nw st feeder train valid kinds h)

pub drop-left : (nw : Network) (st : State) (feeder train : Node) → IsValid nw st → (feeder.dep ≡ false) × (train.dep ≡ true) → refusal nw st (Drop feeder train) ≡ None → (w : Event) → Contains (events (effect st (Drop feeder train))) w → All (λ k. k ≢ node_of w.key) (named st (Drop feeder train)) → IsLeft nw st (effect st (Drop feeder train)) w
unfolding effect events
drop-left nw st feeder train valid kinds h = chosen-left nw st (connection feeder train) Dropped valid (drop-valid nw st feeder train valid kinds h)

pub rule-left : (nw : Network) (st : State) (feeder train : Node) → IsValid nw st → (w : Event) → Contains (events (effect st (Rule feeder train))) w → All (λ k. k ≢ node_of w.key) (named st (Rule feeder train)) → IsLeft nw st (effect st (Rule feeder train)) w
unfolding effect events
rule-left nw st feeder train valid w hw free =
    let p = connection feeder train in
    let ne = All-head (λ k. k ≢ node_of w.key) train [] free in
    overridden-left nw st _ _ w valid (free-valid nw st feeder train valid) hw (λ q at.
    sym (rw (differ-there p q (node_of w.key) ne at) at (get-remove connections_total st.overrides p q)))

-- an override that names none of the events stays
pub override-stays : (m : FinMap connection_cmp Override) (es : List Event) (p : Connection) → is_among es p.arrival ≡ false → is_among es p.departure ≡ false → get m p ≡ get (retain_keys m (λ p. not (names_one_of es p))) p
override-stays m es p arrival departure =
    let test : Connection → Bool = λ p. not (names_one_of es p) in
    let now = get-retain_keys m test p (λ x same. ap test (sym (exact_connections p x same))) in grind arith
