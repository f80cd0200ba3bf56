-- Of a state's events no two are one event of a train, and along a train the reports do not fall.
use Rattle.std.proofs.Common.{◌≡◌, ℕ, ◌+◌, ◌<◌, ◌≤◌, true, false, List, [], ◌∷◌, Option, Some, None, refl, sym, ◌∙◌, ap, subst, arith}
use Rattle.std.proofs.Math.Logic.{◌≢◌}
use Rattle.std.specs.Option.{IfSome}
use Rattle.std.specs.List.{All, AllPairs, Contains}
use Rattle.std.proofs.lemmas.List.Elements.{All-append, All-cons, All-nil, All-tail, All-head, All-weaker}
use Rattle.mt_base.specs.Order.{node_of}
use Rattle.delay_model.specs.declared.state.Call.{Call}
use Rattle.delay_model.specs.declared.state.Train.{Train}
use Rattle.delay_model.specs.declared.state.State.{State}
use Rattle.delay_model.specs.declared.state.Event.{Event}
use Rattle.delay_model.specs.Events.{events, events_at, events_of, events_from, arrival_of, departure_of, live_report}
use Rattle.delay_model.specs.Valid.{HasDistinctLabels, HasReportsInOrder, AreReportedFrom, IsTrain}
use Rattle.delay_model.proofs.Lists.{AllPairs-nil, AllPairs-cons, AllPairs-append, Contains-unique}

-- the two are not one event of a train
abbrev pub AreApart : Event → Event → Type 0
AreApart u v = node_of u.key ≢ node_of v.key

-- if the two are live events of one train, and both reported, then the second not before the first
abbrev pub RisesTo : Event → Event → Type 0
RisesTo u v = u.key.train ≡ v.key.train → (r s : ℕ) → live_report u ≡ Some r → live_report v ≡ Some s → r ≤ s

-- each event of a train has the train's number
pub events_at-train : (train route : ℕ) (cs : List Call) → All (λ v. v.key.train ≡ train) (events_at train route cs)
events_at-train train route [] = All-nil (λ (v : Event). v.key.train ≡ train)
events_at-train train route (c ∷ cs) =
    let P : Event → Type 0 = λ v. v.key.train ≡ train in
    All-cons P (arrival_of train route c) (departure_of train route c ∷ events_at train route cs) refl
    (All-cons P (departure_of train route c) (events_at train route cs) refl (events_at-train train route cs))

events_from-train : (first : ℕ) (ts : List Train) → All (λ v. first ≤ v.key.train) (events_from first ts)
events_from-train first [] = All-nil (λ (v : Event). first ≤ v.key.train)
events_from-train first (t ∷ ts) =
    let P : Event → Type 0 = λ v. first ≤ v.key.train in
    All-append P (events_of first t) (events_from (first + 1) ts)
    (All-weaker (λ v. v.key.train ≡ first) P (λ v e. omega arith) (events_of first t) (events_at-train first t.route t.calls))
    (All-weaker (λ v. first + 1 ≤ v.key.train) P (λ v e. omega arith) (events_from (first + 1) ts) (events_from-train (first + 1) ts))

-- what relates each two events of one train, and all events of different trains, relates each two events
pub events_from-pairs : (R : Event → Event → Type 0) → ((u v : Event) → u.key.train < v.key.train → R u v) → (first : ℕ) (ts : List Train) → All (λ t. (number : ℕ) → AllPairs R (events_of number t)) ts → AllPairs R (events_from first ts)
events_from-pairs R across first [] h = AllPairs-nil R
events_from-pairs R across first (t ∷ ts) h =
    let Each : Train → Type 0 = λ t. (number : ℕ) → AllPairs R (events_of number t) in
    let rest = events_from (first + 1) ts in
    AllPairs-append R (events_of first t) rest (All-head Each t ts h first)
    (events_from-pairs R across (first + 1) ts (All-tail Each t ts h))
    (All-weaker (λ u. u.key.train ≡ first) (λ u. All (R u) rest) (λ u e.
    All-weaker (λ v. first + 1 ≤ v.key.train) (R u) (λ v l. across u v (omega arith)) rest (events_from-train (first + 1) ts)) (events_of first t)
    (events_at-train first t.route t.calls))

events_at-label : (P : ℕ → Type 0) (train route : ℕ) (cs : List Call) → All (λ c. P c.label) cs → All (λ v. P v.key.label) (events_at train route cs)
events_at-label P train route [] h = All-nil (λ (v : Event). P v.key.label)
events_at-label P train route (c ∷ cs) h =
    let Q : Event → Type 0 = λ v. P v.key.label in
    let p = All-head (λ (c : Call). P c.label) c cs h in
    All-cons Q (arrival_of train route c) (departure_of train route c ∷ events_at train route cs) p
    (All-cons Q (departure_of train route c) (events_at train route cs) p (events_at-label P train route cs (All-tail (λ (c : Call). P c.label) c cs h)))

pub events_at-apart : (train route : ℕ) (cs : List Call) → HasDistinctLabels cs → AllPairs AreApart (events_at train route cs)
events_at-apart train route [] h = AllPairs-nil AreApart
events_at-apart train route (c ∷ cs) h =
    let u = arrival_of train route c in
    let v = departure_of train route c in
    let rest = events_at train route cs in
    let others = events_at-label (λ l. c.label ≢ l) train route cs h.0 in
    let apart : (w : Event) → w.key.label ≡ c.label → All (AreApart w) rest =
    λ w at. All-weaker (λ x. c.label ≢ x.key.label) (AreApart w) (λ x differ e. differ (sym at ∙ ap (λ n. n.label) e)) rest others
    in
    AllPairs-cons AreApart u (v ∷ rest) (All-cons (AreApart u) v rest (λ e. let two : false ≡ true = ap (λ n. n.dep) e in cc) (apart u refl))
    (AllPairs-cons AreApart v rest (apart v refl) (events_at-apart train route cs h.1))

-- each two events of a state differ by name, where no two calls of a train have one label
pub labels-apart : (st : State) → All (λ t. HasDistinctLabels t.calls) st.trains → AllPairs AreApart (events st)
unfolding events
labels-apart st labels =
    events_from-pairs AreApart (λ u v less e. let same : u.key.train ≡ v.key.train = ap (λ n. n.train) e in omega arith) 0 st.trains
    (All-weaker (λ t. HasDistinctLabels t.calls) (λ t. (number : ℕ) → AllPairs AreApart (events_of number t)) (λ t labels number. events_at-apart number t.route t.calls labels) st.trains labels)

pub events-apart : (st : State) → All IsTrain st.trains → AllPairs AreApart (events st)
events-apart st trains = labels-apart st (λ i d l. (trains i d l).labels)

-- an event of a state is known by its name
pub events-unique : (st : State) → All IsTrain st.trains → (u v : Event) → Contains (events st) u → Contains (events st) v → node_of u.key ≡ node_of v.key → u ≡ v
events-unique st trains = Contains-unique (λ (v : Event). node_of v.key) (events st) (events-apart st trains)

reported_from : (o : Option ℕ) (r : ℕ) (P : ℕ → Type 0) → IfSome o P → o ≡ Some r → P r
reported_from None r P h e = absurd (cc)
reported_from (Some s) r P h e = let same : s ≡ r = cc in subst P same h

rising : (vs : List Event) → HasReportsInOrder vs → AllPairs RisesTo vs
rising [] h = AllPairs-nil RisesTo
rising (v ∷ vs) h =
    AllPairs-cons RisesTo v vs (λ k d l _ r s at later. reported_from _ s (λ s. r ≤ s) (reported_from (live_report v) r (λ r. AreReportedFrom r vs) h.0 at k d l) later)
    (rising vs h.1)

-- along each train the reports do not fall
pub events-rise : (st : State) → All IsTrain st.trains → AllPairs RisesTo (events st)
unfolding events
events-rise st trains =
    events_from-pairs RisesTo (λ u v less e. absurd (omega arith)) 0 st.trains
    (All-weaker IsTrain (λ t. (number : ℕ) → AllPairs RisesTo (events_of number t)) (λ t train number. rising (events_of number t) (train.reports number)) st.trains trains)
