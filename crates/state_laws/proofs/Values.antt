-- Reports and forecasts change the values of one event.
use Rattle.state_laws.proofs.Words.{get_or, map_fixed, common_steps, elements, ◌≡◌, ℕ, ◌+◌, ◌^◌, ◌<◌, ◌≤◌, Bool, true, false, ◌&&◌, cond, nat_eq, nat_lt, List, [], ◌∷◌, ◌++◌, Option, Some}
use Rattle.state_laws.proofs.Words.{None, map, refl, sym, ◌∙◌, ap, subst, arith, first_reported, inl, inr, ◌≢◌, cond_both, cond-false, and_parts, cases_Bool, or_cases, false_from_ne_true}
use Rattle.state_laws.proofs.Words.{not-false, All-tail, All-head, All-map, All-weaker, All-contains, All, AllPairs, Contains, slice_get, list_any, IfSome, is_same_node, Node, before, after}
use Rattle.state_laws.proofs.Words.{transfer, with_event, with_report, with_forecast, change_calls, change_labelled, change_event, events, events_of, events_from, event_by, train_events}
use Rattle.state_laws.proofs.Words.{arrival_of, departure_of, live_report, is_event, is_live, refusal, is_unknown, contradiction, contradicted_at, IsSmall, IsTrain, IsRun, HasReportsInOrder, AreReportedFrom, IsValid}
use Rattle.state_laws.proofs.Words.{Report, Correct, Network, Connection, Override, Call, Event, EventValues, State, Train, AreApart, events-apart, events-unique, AllPairs-tail}
use Rattle.state_laws.proofs.Words.{AllPairs-after, Contains-there, same_node-is}
use mathlib.Core.Bool.{beq}
use Rattle.state_laws.proofs.Parts.{AtEach, each-from, each-none, IsUnreported, IsCarried, valid-from, valid-good, valid-carried}
use Rattle.state_laws.proofs.Changed.{IsMapped, good-mapped, good-change, contains-mapped, order-fewer, train_events-there}
use Rattle.state_laws.proofs.Accepted.{accepted-by, or-none, none-reported}

-- an element that passes
pub any-there : {X : Type 0} (p : X → Bool) (xs : List X) → list_any p xs ≡ true → (x : X) × Contains xs x × (p x ≡ true)
any-there p [] h = absurd (cc)
any-there p (x ∷ xs) h =
    elim (or_cases (p x) (list_any p xs) h) [
      | inl here ↦ (x, (0, omega arith, refl), here)
      | inr there ↦ let y = any-there p xs there in (y.0, Contains-there x xs y.0 y.1, y.2)
    ]

pub pairs-left : {X : Type 0} (R : X → X → Type 0) (xs ys : List X) → AllPairs R (xs ++ ys) → AllPairs R xs
pairs-left R xs ys h = grind (arith, elements)

pub pairs-right : {X : Type 0} (R : X → X → Type 0) (xs ys : List X) → AllPairs R (xs ++ ys) → AllPairs R ys
pairs-right R [] ys h = h
pairs-right R (x ∷ xs) ys h = pairs-right R xs ys (AllPairs-tail R x _ h)

pairs-each : (R : Event → Event → Type 0) (first : ℕ) (ts : List Train) → AllPairs R (events_from first ts) → AtEach (λ n t. AllPairs R (events_of n t)) first ts
pairs-each R first [] h = each-none _ first
pairs-each R first (t ∷ ts) h =
    each-from (λ n t. AllPairs R (events_of n t)) first t ts (pairs-left R _ _ h) (pairs-each R (first + 1) ts (pairs-right R (events_of first t) _ h))

pub train-apart : (st : State) → All IsTrain st.trains → AtEach (λ n t. AllPairs AreApart (events_of n t)) 0 st.trains
unfolding events
train-apart st trains = pairs-each AreApart 0 st.trains (events-apart st trains)

-- an event with other values
abbrev pub with_values : Event → Option ℕ → Option ℕ → Event
with_values v x y = record v { forecast = x; report = y }

-- an override is carried to where its events are, maybe with other values
pub carried-over : (nw : Network) (es fs : List Event) (p : Connection) (o : Override) (c : IsCarried nw es p o) (a b x y : Option ℕ) → Contains fs (with_values c.joins.arrival a b) → Contains fs (with_values c.joins.departure x y) → IsCarried nw fs p o
unfolding transfer
carried-over nw es fs p o c a b x y hu hv =
    record {
      joins = record {
        arrival = with_values c.joins.arrival a b;
        departure = with_values c.joins.departure x y;
        arrival_there = hu;
        departure_there = hv;
        is_arrival = c.joins.is_arrival;
        is_departure = c.joins.is_departure;
        connects = c.joins.connects;
        change = c.joins.change;
      };
      forward = c.forward;
    }

abbrev pub set_at : Node → (Event → Event) → Event → Event
set_at n k v = cond (is_event n v) (k v) v

-- f changes values as k changes events, which stay as they are but for their values
pub record IsSetting (f : EventValues → EventValues) (k : Event → Event) : Type 0 where
  pub by : (train route label stop : ℕ) (dep : Bool) (e : EventValues) → event_by train route label stop dep (f e) ≡ k (event_by train route label stop dep e)
  pub shape : (v : Event) → k v ≡ with_values v (k v).forecast (k v).report

pub set-shape : (n : Node) (f : EventValues → EventValues) (k : Event → Event) → IsSetting f k → (v : Event) → set_at n k v ≡ with_values v (set_at n k v).forecast (set_at n k v).report
set-shape n f k s v = grind (arith, s.shape)

-- which of a train's events has a name
pub named-at : (n : Node) (label : ℕ) (dep : Bool) → is_same_node (record { train = n.train; label = label; dep = dep }) n ≡ (nat_eq label n.label && beq dep n.dep)
unfolding is_same_node
named-at n label dep = grind (arith, common_steps)

pub set-mapped : (n : Node) (f : EventValues → EventValues) (k : Event → Event) → IsSetting f k → IsMapped n.train (change_labelled n.label (change_event n.dep f)) (set_at n k)
set-mapped n f k s = grind (arith, s.by, s.shape, named-at)

run-same : (g : Call → Call) → ((c : Call) → (g c).arrival.live ≡ c.arrival.live) → ((c : Call) → (g c).departure.live ≡ c.departure.live) → (live : Bool) (cs : List Call) → IsRun live cs → IsRun live (map g cs)
run-same g a d live [] h = h
run-same g a d live (c ∷ cs) h = (a c ∙ h.0, rw d (run-same g a d c.departure.live cs h.1))

-- another train has no event of this name, and an event apart from one that has it has not
pub other-train : (n : Node) (v : Event) → v.key.train ≢ n.train → is_event n v ≡ false
unfolding is_same_node
other-train n v ne = grind (arith, common_steps)

pub other-event : (n : Node) (v w : Event) → is_event n v ≡ true → AreApart v w → is_event n w ≡ false
other-event n v w hit apart = false_from_ne_true (is_event n w) (λ e. apart (same_node-is _ _ hit ∙ sym (same_node-is _ _ e)))

-- what is asked of the changed values of a train
record AreKept (n : Node) (k : Event → Event) (t : Train) : Type 0 where
  pub reports : HasReportsInOrder (map (set_at n k) (events_of n.train t))
  pub unreported : All (λ v. IsUnreported (set_at n k v)) (events_of n.train t)
  pub small : All (λ v. IsSmall (set_at n k v)) (events_of n.train t)

set-valid : (nw : Network) (st : State) (n : Node) (f : EventValues → EventValues) (k : Event → Event) → IsSetting f k → IsValid nw st → ((t : Train) → slice_get st.trains n.train ≡ Some t → AreKept n k t) → IsValid nw (with_event n f st)
unfolding events
set-valid nw st n f k s valid kept =
    let g = change_labelled n.label (change_event n.dep f) in
    let h = set_at n k in
    let m = set-mapped n f k s in
    let shape = set-shape n f k s in
    let fs = events (with_event n f st) in
    let there = contains-mapped st n.train g h m (λ v ne. cond-false (is_event n v) (k v) v (other-train n v ne)) in
    valid-from nw (with_event n f st) valid.options
    (good-change nw st n.train (change_calls (map g)) valid (λ t got good.
    let keeps = kept t got in
    good-mapped nw n.train g h t m good (run-same g (λ c. ap (λ v. v.live) (m.arrivals 0 c) ∙ ap (λ v. v.live) (shape (arrival_of n.train 0 c))) (λ c. ap (λ v. v.live) (m.departures 0 c) ∙ ap (λ v. v.live) (shape (departure_of n.train 0 c))) false t.calls good.train.run)
    keeps.reports keeps.unreported keeps.small)) (λ p o got.
    let c = valid-carried nw st valid p o got in
    let u = c.joins.arrival in
    let v = c.joins.departure in
    carried-over nw (events st) fs p o c (h u).forecast (h u).report (h v).forecast (h v).report
    (subst (Contains fs) (shape u) (there u c.joins.arrival_there)) (subst (Contains fs) (shape v) (there v c.joins.departure_there)))

-- an event of the name of a live one is live
pub live-named : (st : State) (n : Node) → All IsTrain st.trains → is_live st n ≡ true → (v : Event) → Contains (events st) v → is_event n v ≡ true → v.live ≡ true
live-named st n trains h v hv named =
    let found = any-there (λ v. is_event n v && v.live) (train_events st n.train) h in
    let u = found.0 in
    let both = and_parts (is_event n u) u.live found.2 in
    let hu = All-contains (Contains (events st)) _ u (train_events-there st n.train) found.1 in
    rw (events-unique st trains u v hu hv (same_node-is _ _ both.0 ∙ sym (same_node-is _ _ named))) at both.1

abbrev pub put_report : Option ℕ → Event → Event
put_report o v = record v { report = o }

abbrev pub put_forecast : Option ℕ → Event → Event
put_forecast o v = record v { forecast = o }

-- a report that is given or taken back is a setting, and so is a forecast
pub sets-report : (o : Option ℕ) → IsSetting (with_report o) (put_report o)
sets-report o = record { by = λ train route label stop dep e. refl; shape = λ v. refl }

pub sets-forecast : (o : Option ℕ) → IsSetting (with_forecast o) (put_forecast o)
sets-forecast o = record { by = λ train route label stop dep e. refl; shape = λ v. refl }

-- reports stay in order where those before are no later, and those after no earlier
set-same : (n : Node) (k : Event → Event) (v : Event) (vs : List Event) → is_event n v ≡ true → All (AreApart v) vs → map (set_at n k) vs ≡ vs
set-same n k v vs hit apart = map_fixed _ vs (λ i d l. rw (other-event n v (get_or vs i d) hit (apart i d l)) refl)

set-later : (n : Node) (t r : ℕ) (vs : List Event) → r ≤ t → AreReportedFrom r vs → AreReportedFrom r (map (set_at n (put_report (Some t))) vs)
set-later n t r vs le all =
    let P : Event → Type 0 = λ v. IfSome (live_report v) (λ s. r ≤ s) in
    All-map P (set_at n (put_report (Some t))) vs (All-weaker P (λ v. P (set_at n (put_report (Some t)) v)) (λ v p. grind arith) vs all)

order-set : (n : Node) (t : ℕ) (es : List Event) → AllPairs AreApart es → HasReportsInOrder es → All (λ v. IfSome (live_report v) (λ r. r ≤ t)) (before (is_event n) es) → All (λ v. IfSome (live_report v) (λ r. t ≤ r)) (after (is_event n) es) → HasReportsInOrder (map (set_at n (put_report (Some t))) es)
order-set n t [] apart h lo hi = tt
order-set n t (v ∷ vs) apart h lo hi =
    let Low : Event → Type 0 = λ v. IfSome (live_report v) (λ r. r ≤ t) in
    elim (cases_Bool (is_event n v)) [
      | inl hit ↦ rw (set-same n (put_report (Some t)) v vs hit (AllPairs-after AreApart [] v vs apart), hit) (let later = rw hit at hi in grind arith)
      | inr miss ↦
          let sooner = rw miss at lo in
          let rest = order-set n t vs (AllPairs-tail AreApart v vs apart) h.1 (All-tail Low v _ sooner) (rw miss at hi) in
          let first = All-head Low v _ sooner in
          rw miss (let here = h.0 in grind (arith, λ (r : ℕ). set-later n t r vs))
    ]

-- a report that no other contradicts keeps the order, whether or not it replaces one
order-reported : (n : Node) (replaces : Bool) (t : ℕ) (es : List Event) → AllPairs AreApart es → HasReportsInOrder es → contradicted_at replaces t n es ≡ None → HasReportsInOrder (map (set_at n (put_report (Some t))) es)
order-reported n replaces t es apart h agrees =
    let b = or-none _ _ (or-none (first_reported (λ r. nat_lt t r) (before (is_event n) es)) _ agrees).1 in
    let Free : (ℕ → Bool) → Event → Type 0 = λ p v. IfSome (live_report v) (λ r. p r ≡ false) in
    order-set n t es apart h
    (All-weaker (Free (λ r. nat_lt t r)) (λ v. IfSome (live_report v) (λ r. r ≤ t)) (λ v f. grind arith) _ (none-reported (λ r. nat_lt t r) (before (is_event n) es) (or-none _ _ agrees).0))
    (All-weaker (Free (λ r. nat_lt r t)) (λ v. IfSome (live_report v) (λ r. t ≤ r)) (λ v f. grind arith) _ (none-reported (λ r. nat_lt r t) (after (is_event n) es) b.1))

-- a report that is taken back keeps it too
order-removed : (n : Node) (es : List Event) → HasReportsInOrder es → HasReportsInOrder (map (set_at n (put_report None)) es)
order-removed n es h =
    order-fewer (set_at n (put_report None)) (λ v P none p. cond_both (is_event n v) (put_report None v) v (λ w. P (live_report w)) (λ _. cond_both v.live None None P (λ _. none) (λ _. none)) (λ _. p)) es h

-- no other report contradicts this one, if one is given
abbrev Agrees : State → Node → Option ℕ → Type 0
Agrees st n o = (replaces : Bool) × IfSome o (λ t. contradicted_at replaces t n (train_events st n.train) ≡ None)

order-with : (n : Node) (o : Option ℕ) (st : State) (es : List Event) → train_events st n.train ≡ es → AllPairs AreApart es → HasReportsInOrder es → Agrees st n o → HasReportsInOrder (map (set_at n (put_report o)) es)
order-with n None st es own apart h agrees = order-removed n es h
order-with n (Some t) st es own apart h agrees = order-reported n agrees.0 t es apart h (rw own at agrees.1)

-- a live event may be given such a report, or lose the one that it has
given-valid : (nw : Network) (st : State) (n : Node) (o : Option ℕ) → IsValid nw st → IfSome o (λ t. t < 2 ^ 24) → is_live st n ≡ true → Agrees st n o → IsValid nw (with_event n (with_report o) st)
given-valid nw st n o valid small live agrees =
    let k = put_report o in
    set-valid nw st n (with_report o) k (sets-report o) valid (λ u got.
    let i = n.train in
    let es = events_of i u in
    let good = valid-good nw st valid i i u (omega arith) got in
    let own : train_events st i ≡ es = rw got in
    record {
      reports = order-with n o st es own (train-apart st valid.trains i i u (omega arith) got) (good.train.reports i) agrees;
      unreported = All-weaker (Contains (events st)) (λ v. IsUnreported (set_at n k v)) (λ v hv.
          let named = live-named st n valid.trains live v hv in
          let old = All-contains IsUnreported (events st) v valid.unreported hv in grind arith) es (rw own at (train_events-there st i));
      small = All-weaker IsSmall (λ v. IsSmall (set_at n k v)) (λ v s. grind arith) es good.small;
    })

pub report-valid : (nw : Network) (st : State) (n : Node) (t : ℕ) → IsValid nw st → t < 2 ^ 24 → refusal nw st (Report n t) ≡ None → IsValid nw (with_event n (with_report (Some t)) st)
report-valid nw st n t valid small h =
    let a = accepted-by nw st (Report n t) h in
    given-valid nw st n (Some t) valid small (not-false _ a.known) (false, a.agrees)

agrees-by : (st : State) (n : Node) (o : Option ℕ) → contradiction st (Correct n o) ≡ None → Agrees st n o
agrees-by st n None h = (true, tt)
agrees-by st n (Some t) h = (true, h)

-- a correction of a live event that no report contradicts
pub corrected-valid : (nw : Network) (st : State) (n : Node) (o : Option ℕ) → IsValid nw st → IfSome o (λ t. t < 2 ^ 24) → is_unknown nw st (Correct n o) ≡ false → contradiction st (Correct n o) ≡ None → IsValid nw (with_event n (with_report o) st)
corrected-valid nw st n o valid small known agrees = given-valid nw st n o valid small (not-false _ known) (agrees-by st n o agrees)

pub correct-valid : (nw : Network) (st : State) (n : Node) (o : Option ℕ) → IsValid nw st → IfSome o (λ t. t < 2 ^ 24) → refusal nw st (Correct n o) ≡ None → IsValid nw (with_event n (with_report o) st)
correct-valid nw st n o valid small h =
    let a = accepted-by nw st (Correct n o) h in
    corrected-valid nw st n o valid small a.known a.agrees

-- a forecast that is given or taken back
pub forecast-valid : (nw : Network) (st : State) (n : Node) (o : Option ℕ) → IsValid nw st → IfSome o (λ t. t < 2 ^ 24) → IsValid nw (with_event n (with_forecast o) st)
forecast-valid nw st n o valid small =
    let k = put_forecast o in
    set-valid nw st n (with_forecast o) k (sets-forecast o) valid (λ u got.
    let i = n.train in
    let es = events_of i u in
    let good = valid-good nw st valid i i u (omega arith) got in
    record {
      reports = order-fewer (set_at n k) (λ v P _ p. cond_both (is_event n v) (k v) v (λ w. P (live_report w)) (λ _. p) (λ _. p)) es (good.train.reports i);
      unreported = All-weaker IsUnreported (λ v. IsUnreported (set_at n k v)) (λ v s. grind arith) es good.unreported;
      small = All-weaker IsSmall (λ v. IsSmall (set_at n k v)) (λ v s. grind arith) es good.small;
    })
