-- Connections are kept, dropped, or left to the rules.
use Rattle.state_laws.proofs.Words.{◌≡◌, ℕ, Bool, true, false, ◌&&◌, not, nat_eq, List, [], ◌∷◌, Option, Some, None, Ordering, sym, ◌∙◌, arith, inl, inr, cond_both, same_Some, and_parts}
use Rattle.state_laws.proofs.Words.{or_parts, cases_Bool, not-false, All-cons, All-nil, All-contains, get, get-insert, get-remove, All, Contains, find, IsSome, is_none, option_and_then}
use Rattle.state_laws.proofs.Words.{is_eq, eq_by_cmp, Equal, node_of, Node, transfer, change_between, effect, with_override, without_override, events, train_events, is_event, is_live}
use Rattle.state_laws.proofs.Words.{event_named, connection, connection_cmp, refusal, first_against_rank, kept_edge, is_no_connection, has_no_change, IsForward, IsValid, Keep, Drop, Rule}
use Rattle.state_laws.proofs.Words.{Network, Connection, Override, Kept, Dropped, Edge, Event, State, connections_total, exact_connections, Contains-there, same_node-is}
use Rattle.state_laws.proofs.Parts.{IsCarried, valid-from, valid-good, valid-carried}
use Rattle.state_laws.proofs.Changed.{train_events-there}
use Rattle.state_laws.proofs.Accepted.{accepted-by}
use Rattle.state_laws.proofs.Values.{live-named}

-- edges of which none is against rank lead forward
pub none-against : (gs : List Edge) → first_against_rank gs ≡ None → All IsForward gs
none-against [] h = All-nil IsForward
none-against (e ∷ es) h = grind (arith, All-cons IsForward, none-against es)

-- what is found is there, and passes
pub found-there : {X : Type 0} (p : X → Bool) (xs : List X) (x : X) → find p xs ≡ Some x → Contains xs x × (p x ≡ true)
found-there p [] x h = absurd (cc)
found-there p (y ∷ ys) x h =
    elim (cases_Bool (p y)) [
      | inl hit ↦ let at : y ≡ x = same_Some y x (rw hit at h) in ((0, omega arith, at), rw at at hit)
      | inr miss ↦ let r = found-there p ys x (rw miss at h) in (Contains-there y ys x r.0, r.1)
    ]

-- both are there, and f has a value for them
some-both : (o p : Option Event) (f : Event → Event → Option ℕ) → is_none (option_and_then (λ u. option_and_then (λ v. f u v) p) o) ≡ false → (u : Event) × (v : Event) × (o ≡ Some u) × (p ≡ Some v) × IsSome (f u v)
some-both o p f h = grind arith

-- the override of two events that a message names, if what their edge is tested for holds where they are kept
pair-carried : (nw : Network) (st : State) (feeder train : Node) (o : Override) → IsValid nw st → (feeder.dep ≡ false) × (train.dep ≡ true) → not (is_live st feeder && is_live st train) ≡ false → is_no_connection nw st feeder train ≡ false → (o ≡ Kept → first_against_rank (kept_edge nw st feeder train) ≡ None) → IsCarried nw (events st) (connection feeder train) o
pair-carried nw st feeder train o valid kinds known connects in_rank =
    let alive = and_parts _ _ (not-false _ known) in
    let parts = or_parts (nat_eq feeder.train train.train) (has_no_change nw st feeder train) connects in
    let b = some-both (event_named st feeder) (event_named st train) (change_between nw) parts.1 in
    let u = b.0 in
    let v = b.1 in
    let fu = found-there (is_event feeder) (train_events st feeder.train) u b.2 in
    let fv = found-there (is_event train) (train_events st train.train) v b.3 in
    let hu = All-contains (Contains (events st)) _ u (train_events-there st feeder.train) fu.0 in
    let hv = All-contains (Contains (events st)) _ v (train_events-there st train.train) fv.0 in
    let nu = same_node-is (node_of u.key) feeder fu.1 in
    let nv = same_node-is (node_of v.key) train fv.1 in
    let lu = live-named st feeder valid.trains alive.0 u hu fu.1 in
    let lv = live-named st train valid.trains alive.1 v hv fv.1 in
    record {
      joins = record {
        arrival = u;
        departure = v;
        arrival_there = hu;
        departure_there = hv;
        is_arrival = nu;
        is_departure = nv;
        connects = grind (arith, parts.0, kinds, nu, nv);
        change = b.4;
      };
      forward = λ kept. let edge : kept_edge nw st feeder train ≡ transfer nw (Some Kept) u v = cc (b.2, b.3) in rw edge at (none-against (kept_edge nw st feeder train) (in_rank kept));
    }

pub eq-Equal : (o : Ordering) → is_eq o ≡ true → o ≡ Equal
eq-Equal o h = grind arith

override-valid : (nw : Network) (st : State) (p : Connection) (o : Override) → IsValid nw st → IsCarried nw (events st) p o → IsValid nw (with_override p o st)
unfolding events
override-valid nw st p o valid new =
    valid-from nw (with_override p o st) valid.options (valid-good nw st valid) (λ q c got.
    cond_both (eq_by_cmp connection_cmp q p) (Some o) (get st.overrides q) (λ d. d ≡ Some c → IsCarried nw (events st) q c)
    (λ hit e. rw (exact_connections q p (eq-Equal (connection_cmp q p) hit), ← same_Some o c e) new) (λ _. valid-carried nw st valid q c)
    (sym (get-insert connections_total st.overrides p o q) ∙ got))

rule-valid : (nw : Network) (st : State) (p : Connection) → IsValid nw st → IsValid nw (without_override p st)
unfolding events
rule-valid nw st p valid =
    valid-from nw (without_override p st) valid.options (valid-good nw st valid) (λ q c got.
    cond_both (eq_by_cmp connection_cmp q p) None (get st.overrides q) (λ o. o ≡ Some c → IsCarried nw (events st) q c) (λ _ none. absurd (cc))
    (λ _. valid-carried nw st valid q c) (sym (get-remove connections_total st.overrides p q) ∙ got))

pub keep-valid : (nw : Network) (st : State) (feeder train : Node) → IsValid nw st → (feeder.dep ≡ false) × (train.dep ≡ true) → refusal nw st (Keep feeder train) ≡ None → IsValid nw (effect st (Keep feeder train))
unfolding effect
keep-valid nw st feeder train valid kinds h =
    let a = accepted-by nw st (Keep feeder train) h in
    override-valid nw st (connection feeder train) Kept valid (pair-carried nw st feeder train Kept valid kinds a.known a.connection (λ _. a.in_rank))

pub drop-valid : (nw : Network) (st : State) (feeder train : Node) → IsValid nw st → (feeder.dep ≡ false) × (train.dep ≡ true) → refusal nw st (Drop feeder train) ≡ None → IsValid nw (effect st (Drop feeder train))
unfolding effect
drop-valid nw st feeder train valid kinds h =
    let a = accepted-by nw st (Drop feeder train) h in
    override-valid nw st (connection feeder train) Dropped valid (pair-carried nw st feeder train Dropped valid kinds a.known a.connection (λ kept. absurd (cc)))

pub free-valid : (nw : Network) (st : State) (feeder train : Node) → IsValid nw st → IsValid nw (effect st (Rule feeder train))
unfolding effect
free-valid nw st feeder train valid = rule-valid nw st (connection feeder train) valid
