-- A message is against rank where it makes an edge against rank.
use Rattle.state_laws.proofs.Words.{◌≡◌, ℕ, true, false, List, [], ◌∷◌, Option, Some, None, length, refl, sym, ◌∙◌, arith, inl, inr, is_some, cases_Bool, list_any_at, list_any_none, list_any}
use Rattle.state_laws.proofs.Words.{All-nil, All-weaker, All-contains, All-contains_itself, Contains-append_left, Contains-append_right, All, Contains, slice_get, get-insert, option_map_or, eq_by_cmp}
use Rattle.state_laws.proofs.Words.{node_of, Node, edges, edges_along, train_edges, transfer, transfer_edges, override_of, effect, with_override, events, event_named, train_events, events_of, is_event, IsWellFormed, connection, connection_cmp}
use Rattle.state_laws.proofs.Words.{refusal, against_rank, against_rank_by, first_against_rank, is_against_rank, has_nothing, kept_edge, shortage, IsForward, IsValid, Message, Report, Forecast, Correct, Withdraw, Cancel, Reroute}
use Rattle.state_laws.proofs.Words.{Extra, Keep, Drop, Rule, Network, Kept, Edge, Event, State, Train, connections_total, same_node-is, suc}
use Rattle.std.proofs.lemmas.Cmp.{eq_by_cmp_equiv}
use Rattle.delay_model.specs.declared.messages.Refusal.{Refusal}
use Rattle.delay_model.specs.Refusals.{ComesToRank}
use Rattle.state_laws.proofs.Parts.{edges-each, each-transfer}
use Rattle.state_laws.proofs.Changed.{train_events-there}
use Rattle.state_laws.proofs.Choices.{found-there}
use Rattle.state_laws.proofs.Stays.{stays-valid}
use Rattle.state_laws.proofs.Values.{corrected-valid, forecast-valid}

pub not-against : (e : Edge) → IsForward e → is_against_rank e ≡ false
not-against e h = grind (arith, h.later, h.room)

pub forward-of : (e : Edge) → is_against_rank e ≡ false → IsForward e
forward-of e h = grind arith

-- the calls that a message makes
calls_in : Message → ℕ
calls_in (Reroute n from to via) = length via
calls_in (Extra n day route cs) = length cs
calls_in _ = 0

-- the state, with enough spare for the message
abbrev roomy : State → Message → State
roomy st m = record st { spare_trains = 1; spare_calls = calls_in m; spare_overrides = 1 }

roomy-valid : (nw : Network) (st : State) (m : Message) → IsValid nw st → IsValid nw (roomy st m)
unfolding edges events
roomy-valid nw st m v =
    record { options = v.options; forward = v.forward; trains = v.trains; unreported = v.unreported; connections = v.connections; small = v.small }

-- the causes but the last are what they are, and there is no shortage
record IsAlike (nw : Network) (st : State) (m : Message) : Type 0 where
  comes : ComesToRank nw st m → ComesToRank nw (roomy st m) m
  rank : against_rank nw (roomy st m) m ≡ against_rank nw st m
  enough : shortage (roomy st m) m ≡ None
  same : edges nw (effect (roomy st m) m) ≡ edges nw (effect st m)
  lacking : has_nothing (roomy st m) m ≡ has_nothing st m

roomy-alike : (nw : Network) (st : State) (m : Message) → IsAlike nw st m
unfolding edges effect events calls_in
roomy-alike nw st (Report n t) = record { comes = λ c. record { known = c.known; new = c.new; connection = c.connection; agrees = c.agrees }; rank = refl; enough = refl; same = refl; lacking = refl }
roomy-alike nw st (Forecast n t) = record { comes = λ c. record { known = c.known; new = c.new; connection = c.connection; agrees = c.agrees }; rank = refl; enough = refl; same = refl; lacking = refl }
roomy-alike nw st (Correct n o) = record { comes = λ c. record { known = c.known; new = c.new; connection = c.connection; agrees = c.agrees }; rank = refl; enough = refl; same = refl; lacking = refl }
roomy-alike nw st (Withdraw n) = record { comes = λ c. record { known = c.known; new = c.new; connection = c.connection; agrees = c.agrees }; rank = refl; enough = refl; same = refl; lacking = refl }
roomy-alike nw st (Cancel n from to) = record { comes = λ c. record { known = c.known; new = c.new; connection = c.connection; agrees = c.agrees }; rank = refl; enough = refl; same = refl; lacking = refl }
roomy-alike nw st (Reroute n from to via) = record { comes = λ c. record { known = c.known; new = c.new; connection = c.connection; agrees = c.agrees }; rank = refl; enough = grind arith; same = refl; lacking = refl }
roomy-alike nw st (Extra n day route cs) = record { comes = λ c. record { known = c.known; new = c.new; connection = c.connection; agrees = c.agrees }; rank = refl; enough = grind arith; same = refl; lacking = refl }
roomy-alike nw st (Keep feeder train) = record { comes = λ c. record { known = c.known; new = c.new; connection = c.connection; agrees = c.agrees }; rank = refl; enough = grind arith; same = refl; lacking = refl }
roomy-alike nw st (Drop feeder train) = record { comes = λ c. record { known = c.known; new = c.new; connection = c.connection; agrees = c.agrees }; rank = refl; enough = grind arith; same = refl; lacking = refl }
roomy-alike nw st (Rule feeder train) = record { comes = λ c. record { known = c.known; new = c.new; connection = c.connection; agrees = c.agrees }; rank = refl; enough = refl; same = refl; lacking = refl }

accepts : (nw : Network) (st : State) (m : Message) → ComesToRank nw st m → against_rank nw st m ≡ None → shortage st m ≡ None → has_nothing st m ≡ false → refusal nw st m ≡ None
unfolding refusal
accepts nw st m c in_rank enough some = rw (c.known, c.new, c.connection, c.agrees, in_rank, enough, some) refl

abbrev MakesNone : Network → State → Message → Type 0
MakesNone nw st m = IsValid nw st → IsWellFormed m → ComesToRank nw st m → against_rank nw st m ≡ None → All IsForward (edges nw (effect st m))

-- a message that only too little of what is spare can refuse
others-make : (nw : Network) (st : State) (m : Message) → has_nothing st m ≡ false → MakesNone nw st m
others-make nw st m some valid well comes in_rank =
    let a = roomy-alike nw st m in
    rw a.same at (stays-valid nw (roomy st m) m (roomy-valid nw st m valid) well (accepts nw (roomy st m) m (a.comes comes) (a.rank ∙ in_rank) a.enough (a.lacking ∙ some))).forward

-- what is not against rank makes no edge against rank
none-made : (nw : Network) (st : State) (m : Message) → MakesNone nw st m
unfolding effect
none-made nw st (Report n t) = others-make nw st (Report n t) refl
none-made nw st (Forecast n t) = others-make nw st (Forecast n t) refl
none-made nw st (Correct n o) = λ valid well comes in_rank. (corrected-valid nw st n o valid well comes.known comes.agrees).forward
none-made nw st (Withdraw n) = λ valid well comes in_rank. (forecast-valid nw st n None valid tt).forward
none-made nw st (Cancel n from to) = others-make nw st (Cancel n from to) refl
none-made nw st (Reroute n from to via) = others-make nw st (Reroute n from to via) refl
none-made nw st (Extra n day route cs) = others-make nw st (Extra n day route cs) refl
none-made nw st (Keep feeder train) = others-make nw st (Keep feeder train) refl
none-made nw st (Drop feeder train) = others-make nw st (Drop feeder train) refl
none-made nw st (Rule feeder train) = others-make nw st (Rule feeder train) refl

-- an edge against rank that a refusal shows
abbrev IsShown : List Edge → Refusal → Type 0
IsShown gs r = (e : Edge) × Contains gs e × (is_against_rank e ≡ true) × (r ≡ against_rank_by e)

first-shown : (gs es : List Edge) (r : Refusal) → All (Contains gs) es → first_against_rank es ≡ Some r → IsShown gs r
first-shown gs [] r h e = absurd (cc)
first-shown gs (g ∷ es) r h e =
    elim (cases_Bool (is_against_rank g)) [
      | inl hit ↦ (g, h 0 g (omega arith), hit, grind (arith, hit, e))
      | inr miss ↦ first-shown gs es r (λ k d l. h (suc k) d (omega arith)) (grind (arith, miss, e))
    ]

along-each : (nw : Network) (st : State) (n : ℕ) (P : Edge → Type 0) → ((t : Train) → slice_get st.trains n ≡ Some t → All P (edges_along nw.opts (events_of n t))) → All P (edges_along nw.opts (train_events st n))
along-each nw st n P h = grind (arith, All-nil P)

-- the edges along a train are edges of the state
along-there : (nw : Network) (st : State) (n : ℕ) → All (Contains (edges nw st)) (edges_along nw.opts (train_events st n))
unfolding edges
along-there nw st n =
    let own = train_edges nw.opts 0 st.trains in
    along-each nw st n (Contains (edges nw st)) (λ t e.
    All-weaker (Contains own) (Contains (edges nw st)) (λ g c. Contains-append_left own _ g c) _
    (edges-each nw.opts (Contains own) 0 st.trains (All-contains_itself own) n n t (omega arith) e))

both-there : (nw : Network) (o p : Option Event) (P : Edge → Type 0) → ((u v : Event) → o ≡ Some u → p ≡ Some v → All P (transfer nw (Some Kept) u v)) → All P (option_map_or (λ u. option_map_or (λ v. transfer nw (Some Kept) u v) p []) o [])
both-there nw o p P h = grind (arith, All-nil P)

-- the edge of a connection is an edge of the state in which it is kept
kept-there : (nw : Network) (st : State) (feeder train : Node) → All (Contains (edges nw (with_override (connection feeder train) Kept st))) (kept_edge nw st feeder train)
unfolding edges events
kept-there nw st feeder train =
    let p = connection feeder train in
    let new = with_override p Kept st in
    let others = transfer_edges nw (override_of new) (events st) in
    both-there nw (event_named st feeder) (event_named st train) (Contains (edges nw new)) (λ u v is_u is_v.
    let fu = found-there (is_event feeder) (train_events st feeder.train) u is_u in
    let fv = found-there (is_event train) (train_events st train.train) v is_v in
    let hu = All-contains (Contains (events st)) _ u (train_events-there st feeder.train) fu.0 in
    let hv = All-contains (Contains (events st)) _ v (train_events-there st train.train) fv.0 in
    let own : eq_by_cmp connection_cmp p p ≡ true = (eq_by_cmp_equiv connections_total).refl p in
    let chosen : override_of new u v ≡ Some Kept = rw (same_node-is (node_of u.key) feeder fu.1, same_node-is (node_of v.key) train fv.1) (rw own at (get-insert connections_total st.overrides p Kept p)) in
    All-weaker (Contains others) (Contains (edges nw new)) (λ g c. Contains-append_right (train_edges nw.opts 0 st.trains) others g c) _
    (rw chosen at (each-transfer nw (override_of new) (events st) (Contains others) (All-contains_itself others) u v hu hv)))

-- what is against rank shows an edge of the state after it
pub edge-shown : (nw : Network) (st : State) (m : Message) (r : Refusal) → against_rank nw st m ≡ Some r → IsShown (edges nw (effect st m)) r
unfolding effect
edge-shown nw st (Report n t) r e = absurd (cc)
edge-shown nw st (Forecast n t) r e = absurd (cc)
edge-shown nw st (Correct n o) r e = absurd (cc)
edge-shown nw st (Withdraw n) r e = absurd (cc)
edge-shown nw st (Cancel n from to) r e = absurd (cc)
edge-shown nw st (Reroute n from to via) r e = first-shown _ _ r (along-there nw (effect st (Reroute n from to via)) n) e
edge-shown nw st (Extra n day route cs) r e = first-shown _ _ r (along-there nw (effect st (Extra n day route cs)) n) e
edge-shown nw st (Keep feeder train) r e = first-shown _ _ r (kept-there nw st feeder train) e
edge-shown nw st (Drop feeder train) r e = absurd (cc)
edge-shown nw st (Rule feeder train) r e = absurd (cc)

-- so it is against rank exactly where such an edge is
pub exactly-against : (nw : Network) (st : State) (m : Message) → IsValid nw st → IsWellFormed m → ComesToRank nw st m → (o : Option Refusal) → against_rank nw st m ≡ o → is_some o ≡ list_any is_against_rank (edges nw (effect st m))
exactly-against nw st m valid well comes None e =
    sym (list_any_none is_against_rank _ (All-weaker IsForward (λ e. is_against_rank e ≡ false) not-against _ (none-made nw st m valid well comes e)))
exactly-against nw st m valid well comes (Some r) e =
    let s = edge-shown nw st m r e in
    let gs = edges nw (effect st m) in
    sym (list_any_at is_against_rank gs s.1.0 s.0 s.1.1 (rw s.1.2 s.2))
