-- A message that changes no event of a train leaves its calls, but for forecasts and reports.
use Rattle.state_laws.proofs.Words.{◌≡◌, ◌≢◌, ℕ, zero, suc, ◌≤◌, true, false, List, [], ◌∷◌, ◌++◌, Some, None, length, map, refl, ap, subst, arith, inl, inr}
use Rattle.state_laws.proofs.Words.{cases_Bool, All, All-contains, All-weaker, Contains}
use Rattle.state_laws.proofs.Words.{slice_get, slice_get_within, option_map_or, NewCall, Key, Node, Network, State, Train, Call, Event, EventValues, node_of, is_among}
use Rattle.state_laws.proofs.Words.{Message, Report, Forecast, Correct, Withdraw, Cancel, Reroute, Extra, Keep, Drop, Rule, effect, with_event, with_report, with_forecast, change_train}
use Rattle.state_laws.proofs.Words.{change_calls, change_event, change_labelled}
use Rattle.state_laws.proofs.Words.{kill_in, stretch, new_calls, new_call, new_train, begin_run, end_run, rerouted, node_at, arrival_of, departure_of, events, calls_of, IsWellFormed, refusal}
use Rattle.state_laws.proofs.Words.{IsValid}
use Rattle.state_laws.proofs.Cancels.{kill_at}
use Rattle.state_laws.proofs.Cancelled.{cancel-mapping}
use Rattle.state_laws.proofs.Mappings.{stays-live}
use Rattle.state_laws.proofs.Extras.{get-push, extra-number}
use Rattle.standing_laws.proofs.Bare.{bare, bare_values}
use Rattle.standing_laws.proofs.Unchanged.{AreEvents, IsUnchanged, call-events, of-train, stays, was}
use Rattle.standing_laws.proofs.RerouteAlike.{kept}

-- the bare calls of the train with a number
abbrev pub bare_calls : List Train → ℕ → List Call
bare_calls ts k = map bare (option_map_or (λ (t : Train). t.calls) (slice_get ts k) [])

-- where one train is changed
change-bare : (f : Train → Train) (n k : ℕ) (ts : List Train) → (k ≡ n → (t : Train) → slice_get ts k ≡ Some t → map bare (f t).calls ≡ map bare t.calls)
    → bare_calls (change_train n f ts) k ≡ bare_calls ts k
change-bare f n k [] h = refl
change-bare f zero zero (t ∷ ts) h = h refl t refl
change-bare f zero (suc k) (t ∷ ts) h = refl
change-bare f (suc n) zero (t ∷ ts) h = refl
change-bare f (suc n) (suc k) (t ∷ ts) h = change-bare f n k ts (λ same u got. h (ap suc same) u got)

map-bare : (g : Call → Call) (cs : List Call) → All (λ c. bare (g c) ≡ bare c) cs → map bare (map g cs) ≡ map bare cs
map-bare g [] h = refl
map-bare g (c ∷ cs) h = rw (h 0 c (omega arith), map-bare g cs (λ i d l. h (suc i) d (omega arith))) refl

-- forecasts and reports
set-bare : (n : Node) (f : EventValues → EventValues) → ((e : EventValues) → bare_values (f e) ≡ bare_values e) → (st : State) (k : ℕ)
    → bare_calls (with_event n f st).trains k ≡ bare_calls st.trains k
set-bare n f same st k =
    let g = change_labelled n.label (change_event n.dep f) in
    change-bare (change_calls (map g)) n.train k st.trains (λ _ t _. map-bare g t.calls (λ i d l. grind (arith, same)))

-- a cancelled event was not live
killed-bare : (es : List Event) (n : ℕ) (c : Call) → (is_among es (node_at n c.label false) ≡ true → c.arrival.live ≡ false)
    → (is_among es (node_at n c.label true) ≡ true → c.departure.live ≡ false) → bare (kill_in es n c) ≡ bare c
killed-bare es n c arrives departs = grind arith

dead-killed : (nw : Network) (st : State) (n from to : ℕ) → IsValid nw st → IsUnchanged nw st (effect st (Cancel n from to)) n → (v : Event) → Contains (events st) v → v.key.train ≡ n
    → is_among (stretch st n from to) (node_of v.key) ≡ true → v.live ≡ false
dead-killed nw st n from to valid free v h own among =
    let new = effect st (Cancel n from to) in
    let es = stretch st n from to in
    elim (cases_Bool v.live) [
      | inr dead ↦ dead
      | inl live ↦
          let on = stays nw st new n free v h live own in
          let killed = stays-live nw st new n (kill_in es n) (kill_at es) (cancel-mapping st n from to) valid v h on in
          absurd (let not : (kill_at es v).live ≡ false = rw among refl in cc)
    ]

cancel-bare : (nw : Network) (st : State) (n from to : ℕ) → IsValid nw st → (k : ℕ)
    → IsUnchanged nw st (effect st (Cancel n from to)) k → (t : Train) → k ≡ n → slice_get st.trains k ≡ Some t
    → map bare (map (kill_in (stretch st n from to) n) t.calls) ≡ map bare t.calls
cancel-bare nw st n from to valid k free t same got =
    let es = stretch st n from to in
    let own = subst (IsUnchanged nw st (effect st (Cancel n from to))) same free in
    let dead = dead-killed nw st n from to valid own in
    map-bare (kill_in es n) t.calls (All-weaker (AreEvents st n t) (λ c. bare (kill_in es n c) ≡ bare c) (λ c there.
    killed-bare es n c (dead (arrival_of n t.route c) there.0 refl) (dead (departure_of n t.route c) there.1 refl)) t.calls (call-events st n t (rw same at got)))

-- one train more
push-bare : (ts : List Train) (u : Train) (k : ℕ) → k ≢ length ts → bare_calls (ts ++ u ∷ []) k ≡ bare_calls ts k
push-bare [] u zero ne = absurd (ne refl)
push-bare [] u (suc k) ne = refl
push-bare (t ∷ ts) u zero ne = refl
push-bare (t ∷ ts) u (suc k) ne = push-bare ts u k (λ e. ne (ap suc e))

-- its first departure is live
first-live : (cs : List NewCall) → 2 ≤ length cs → (c : Call) × Contains (begin_run (end_run (new_calls 0 cs))) c × (c.departure.live ≡ true)
first-live [] h = absurd (omega arith)
first-live (a ∷ []) h = absurd (omega arith)
first-live (a ∷ b ∷ cs) h = (change_event false (λ (e : EventValues). record e { live = false }) (new_call 0 a), (0, omega arith, refl), refl)

extra-bare : (nw : Network) (st : State) (n day route : ℕ) (cs : List NewCall) → 2 ≤ length cs → n ≡ length st.trains
    → IsUnchanged nw st (effect st (Extra n day route cs)) (length st.trains) → ⊥
unfolding effect
extra-bare nw st n day route cs two at free =
    let new = effect st (Extra n day route cs) in
    let k = length st.trains in
    let t = new_train day route cs in
    let first = first-live cs two in
    let c = first.0 in
    let there = All-contains (AreEvents new k t) t.calls c (call-events new k t (get-push st.trains t)) first.1 in
    let v = departure_of k t.route c in
    let w = was nw st new k free v there.1 first.2 refl in
    let own = of-train st w.0 w.1 in
    let less = slice_get_within st.trains w.0.key.train own.train own.got in
    let same : w.0.key.train ≡ k = ap (λ (k : Key). k.train) w.2 in
    omega arith

-- the calls of a train of which no event is changed stay, but for forecasts and reports
pub calls-alike : (nw : Network) (st : State) (m : Message) → IsValid nw st → IsWellFormed m → refusal nw st m ≡ None → (k : ℕ) → IsUnchanged nw st (effect st m) k
    → map bare (calls_of (effect st m) k) ≡ map bare (calls_of st k)
unfolding effect
calls-alike nw st (Report n t) valid well h k free = set-bare n (with_report (Some t)) (λ e. refl) st k
calls-alike nw st (Forecast n t) valid well h k free = set-bare n (with_forecast (Some t)) (λ e. refl) st k
calls-alike nw st (Correct n o) valid well h k free = set-bare n (with_report o) (λ e. refl) st k
calls-alike nw st (Withdraw n) valid well h k free = set-bare n (with_forecast None) (λ e. refl) st k
calls-alike nw st (Cancel n from to) valid well h k free =
    change-bare (change_calls (map (kill_in (stretch st n from to) n))) n k st.trains (λ same t got. cancel-bare nw st n from to valid k free t same got)
calls-alike nw st (Reroute n from to via) valid well h k free =
    change-bare (rerouted from to via) n k st.trains (λ same t got. ap (map bare)
    (kept nw st n from to via valid well h (subst (IsUnchanged nw st (effect st (Reroute n from to via))) same free) t (rw same at got)))
calls-alike nw st (Extra n day route cs) valid well h k free =
    push-bare st.trains (new_train day route cs) k (λ same. extra-bare nw st n day route cs well.0 (extra-number nw st n day route cs h)
    (subst (IsUnchanged nw st (effect st (Extra n day route cs))) same free))
calls-alike nw st (Keep feeder train) valid well h k free = refl
calls-alike nw st (Drop feeder train) valid well h k free = refl
calls-alike nw st (Rule feeder train) valid well h k free = refl
