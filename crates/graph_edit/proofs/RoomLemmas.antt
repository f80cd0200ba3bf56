-- Which reports beside an event on its train leave room for a time, in a valid state.
use Rattle.std.proofs.Common.{◌≡◌, ℕ, zero, suc, ◌<◌, ◌≤◌, Bool, true, false, ◌||◌, not, nat_eq, nat_lt, List, [], ◌∷◌, ◌++◌, Option, Some, None, is_some, unwrap_or, find, length, slice_get, refl, sym, ◌∙◌, ap, subst, arith, inl, inr, ◌+◌}
use Rattle.std.proofs.Math.Logic.{◌≢◌}
use Rattle.std.specs.List.{All}
use Rattle.std.specs.Option.{option_and_then, option_map, option_map_or}
use Rattle.std.proofs.lemmas.Bool.{cases_Bool}
use Rattle.std.proofs.lemmas.Bool.Decides.{nat_tests}
use Rattle.std.proofs.lemmas.List.Elements.{All-contains, All-nil}
use Rattle.mt_base.specs.declared.keys.Node.{Node}
use Rattle.mt_base.specs.Order.{is_same_node}
use Rattle.delay_model.specs.declared.messages.Refusal.{Refusal}
use Rattle.delay_model.specs.declared.network.Network.{Network}
use Rattle.delay_model.specs.declared.state.Call.{Call}
use Rattle.delay_model.specs.declared.state.Train.{Train}
use Rattle.delay_model.specs.declared.state.State.{State}
use Rattle.delay_model.specs.declared.state.Event.{Event}
use Rattle.delay_model.specs.Cuts.{before, after}
use Rattle.delay_model.specs.Effect.{is_call, node_at}
use Rattle.delay_model.specs.Events.{calls_of, events, events_at, events_of, event_named, events_from, is_event, live_report, train_events}
use Rattle.delay_model.specs.Refusals.{contradicted_at, first_reported}
use Rattle.delay_model.specs.Timing.{first_report}
use Rattle.delay_model.specs.Valid.{AreReportedFrom, HasDistinctLabels, HasReportsInOrder, IsTrain, IsValid}
use Rattle.delay_model.proofs.Apart.{events_at-train}
use Rattle.train_nodes.specs.Calls.{has_event, last_label, label_before}
use Rattle.train_nodes.specs.Reports.{report_after}
use Rattle.train_nodes.proofs.EventLemmas.{found_event}
use Rattle.train_nodes.proofs.Words.{nat_eq-same}
use Rattle.edge_rules.specs.Inside.{HasOwnLabels}
use Rattle.edge_rules.specs.Neighbours.{previous_by, previous_of}
use Rattle.edge_rules.proofs.Neighbours.{own-labels}
use Rattle.edge_rules.proofs.Words.{All-left, All-right, found-there}

-- the first event before one on its train that is reported after t
abbrev pub reported_before : ℕ → State → Node → Option Refusal
reported_before t st n = first_reported (λ r. nat_lt t r) (before (is_event n) (train_events st n.train))

-- m names the event before that of n on its train
pub record IsPrevious (st : State) (n m : Node) : Type 0 where
  pub there : has_event st m ≡ true
  pub event : Event
  pub named : event_named st m ≡ Some event
  pub cut : before (is_event n) (train_events st n.train) ≡ before (is_event m) (train_events st m.train) ++ event ∷ []

-- a label that is found below is not that of a call with a label of its own
apart-from : (x : Call) (cs : List Call) (l : ℕ) → All (λ d. x.label ≢ d.label) cs → is_some (find (is_call l) cs) ≡ true → nat_eq x.label l ≡ false
apart-from x [] l h found = absurd (cc)
apart-from x (c ∷ cs) l h found = grind (arith, nat_tests, h 0 c (omega arith), apart-from x cs l (λ i d m. h (suc i) d (omega arith)))

some-last : (x : Call) (xs : List Call) → last_label (x ∷ xs) ≡ None → ⊥
some-last x [] h = absurd (cc)
some-last x (y ∷ ys) h = some-last y ys h

module _ (i r l : ℕ) where
  -- what stands before the departure of a call
  at-departure : (cs : List Call) → is_some (find (is_call l) cs) ≡ true → (v : Event) → find (is_event (node_at i l false)) (events_at i r cs) ≡ Some v → before (is_event (node_at i l true)) (events_at i r cs) ≡ before (is_event (node_at i l false)) (events_at i r cs) ++ v ∷ []
  unfolding is_same_node
  at-departure [] h v named = absurd (cc)
  at-departure (c ∷ cs) h v named = grind (arith, nat_eq-same i, at-departure cs)

  label-there : (cs : List Call) (m : ℕ) → label_before cs l ≡ Some m → is_some (find (is_call m) cs) ≡ true
  label-there [] m h = absurd (cc)
  label-there (c ∷ []) m h = grind (arith, nat_eq-same)
  label-there (c ∷ d ∷ cs) m h = grind (arith, nat_eq-same, label-there (d ∷ cs) m)

  -- and before its arrival
  at-arrival : (cs : List Call) (m : ℕ) → HasDistinctLabels cs → label_before cs l ≡ Some m → (v : Event) → find (is_event (node_at i m true)) (events_at i r cs) ≡ Some v → before (is_event (node_at i l false)) (events_at i r cs) ≡ before (is_event (node_at i m true)) (events_at i r cs) ++ v ∷ []
  unfolding is_same_node
  at-arrival [] m own h v named = absurd (cc)
  at-arrival (c ∷ []) m own h v named = grind (arith, nat_tests, nat_eq-same)
  at-arrival (c ∷ d ∷ cs) m own h v named = grind (arith, nat_tests, nat_eq-same, apart-from c (d ∷ cs) m own.0, label-there (d ∷ cs) m, at-arrival (d ∷ cs) m own.1)

  -- nothing stands before the first arrival
  at-first : (cs : List Call) → label_before cs l ≡ None → before (is_event (node_at i l false)) (events_at i r cs) ≡ []
  unfolding is_same_node
  at-first [] h = refl
  at-first (c ∷ cs) h = grind (arith, nat_eq-same i, some-last c (before (is_call l) cs))

some-is : {X : Type 0} (o : Option X) → is_some o ≡ true → (x : X) × (o ≡ Some x)
some-is None h = absurd (cc)
some-is (Some x) h = (x, refl)

named-of : (st : State) (m : Node) → has_event st m ≡ true → (v : Event) × (event_named st m ≡ Some v)
named-of st m there = some-is (event_named st m) (grind (arith, λ (t : Train). found_event m.train t.route m.label m.dep t.calls))

module _ (st : State) (labels : All HasOwnLabels st.trains) where
  previous-by : (i l : ℕ) (dep : Bool) (m : Node) → has_event st (node_at i l dep) ≡ true → previous_by st i l dep ≡ Some m → IsPrevious st (node_at i l dep) m
  previous-by i l true m there is =
      let at : m ≡ node_at i l false = cc in
      let v = named-of st (node_at i l false) there in
      rw at (record { there = there; event = v.0; named = v.1; cut = grind (arith, v.1, there, λ (t : Train). at-departure i t.route l t.calls) })
  previous-by i l false m there is =
      let p : (k : ℕ) × (label_before (calls_of st i) l ≡ Some k) × (m ≡ node_at i k true) = grind arith in
      let before_there : has_event st (node_at i p.0 true) ≡ true = grind (arith, p.1, λ (t : Train). label-there i t.route l t.calls) in
      let v = named-of st (node_at i p.0 true) before_there in
      rw p.2 (record { there = before_there; event = v.0; named = v.1; cut = grind (arith, v.1, p.1, λ (t : Train). own-labels st.trains i t labels, λ (t : Train). at-arrival i t.route l t.calls) })

  -- the event before one on its train
  previous-is : (n m : Node) → has_event st n ≡ true → previous_of st n ≡ Some m → IsPrevious st n m
  previous-is n m there is = previous-by n.train n.label n.dep m there is

-- nothing is before the first
none-by : (st : State) (i l : ℕ) (dep : Bool) → previous_by st i l dep ≡ None → before (is_event (node_at i l dep)) (train_events st i) ≡ []
none-by st i l true is = absurd (cc)
none-by st i l false is = grind (arith, λ (t : Train). at-first i t.route l t.calls)

none-previous : (st : State) (n : Node) → previous_of st n ≡ None → before (is_event n) (train_events st n.train) ≡ []
none-previous st n is = none-by st n.train n.label n.dep is

-- what is known of the reports along a train
record IsRising (i : ℕ) (es : List Event) : Type 0 where
  order : HasReportsInOrder es
  unreported : All (λ v. v.live ≡ false → v.report ≡ None) es
  own : All (λ v. v.key.train ≡ i) es

ordered : (i n : ℕ) (ts : List Train) → All IsTrain ts → HasReportsInOrder (option_map_or (events_of n) (slice_get ts i) [])
ordered i n [] h = tt
ordered zero n (t ∷ ts) h = (h 0 t (omega arith)).reports n
ordered (suc i) n (t ∷ ts) h = ordered i n ts (λ k d l. h (suc k) d (omega arith))

each-of : (P : Event → Type 0) (first i n : ℕ) (ts : List Train) → n ≡ first + i → All P (events_from first ts) → All P (option_map_or (events_of n) (slice_get ts i) [])
each-of P first i n [] at h = All-nil P
each-of P first zero n (t ∷ ts) at h = let same : n ≡ first = omega arith in rw same (All-left P (events_of first t) _ h)
each-of P first (suc i) n (t ∷ ts) at h = each-of P (first + 1) i n ts (omega arith) (All-right P (events_of first t) _ h)

own-of : (i : ℕ) (o : Option Train) → All (λ v. v.key.train ≡ i) (option_map_or (events_of i) o [])
own-of i None = All-nil (λ (v : Event). v.key.train ≡ i)
own-of i (Some t) = events_at-train i t.route t.calls

rising : (nw : Network) (st : State) (i : ℕ) → IsValid nw st → IsRising i (train_events st i)
unfolding events
rising nw st i valid = record {
  order = ordered i i st.trains valid.trains;
  unreported = each-of (λ v. v.live ≡ false → v.report ≡ None) 0 i i st.trains (omega arith) valid.unreported;
  own = own-of i (slice_get st.trains i);
}

-- one more event that is not shown
free-append : (p : ℕ → Bool) (xs : List Event) (v : Event) → first_reported p xs ≡ None → first_reported p (v ∷ []) ≡ None → first_reported p (xs ++ v ∷ []) ≡ None
free-append p [] v h k = k
free-append p (x ∷ xs) v h k = grind (arith, free-append p xs v, k)

-- no event up to one is reported later than that one
not-above : (r s : ℕ) (xs ys : List Event) (v : Event) → AreReportedFrom s (xs ++ v ∷ ys) → live_report v ≡ Some r → s ≤ r
not-above r s [] ys v h is = rw is at (h 0 v (omega arith))
not-above r s (x ∷ xs) ys v h is = not-above r s xs ys v (λ k d l. h (suc k) d (omega arith)) is

up-to : (r t : ℕ) (xs ys : List Event) (v : Event) → HasReportsInOrder (xs ++ v ∷ ys) → live_report v ≡ Some r → r ≤ t → first_reported (λ s. nat_lt t s) (xs ++ v ∷ []) ≡ None
up-to r t [] ys v h is le = grind (arith, nat_tests, is)
up-to r t (x ∷ xs) ys v h is le = let first = h.0 in grind (arith, nat_tests, up-to r t xs ys v h.1 is le, λ (s : ℕ). not-above r s xs ys v)

-- nor is one behind a report reported earlier
none-below : (r t : ℕ) (vs : List Event) → AreReportedFrom r vs → t ≤ r → first_reported (λ s. nat_lt s t) vs ≡ None
none-below r t [] h le = refl
none-below r t (v ∷ vs) h le = let here = h 0 v (omega arith) in grind (arith, nat_tests, none-below r t vs (λ k d l. h (suc k) d (omega arith)) le)

behind-all : (i t : ℕ) (vs : List Event) → HasReportsInOrder vs → All (λ v. v.key.train ≡ i) vs → t ≤ unwrap_or (first_report i vs) t → first_reported (λ s. nat_lt s t) vs ≡ None
behind-all i t [] h own le = refl
behind-all i t (v ∷ vs) h own le =
    let here = own 0 v (omega arith) in
    let first = h.0 in
    grind (arith, nat_tests, behind-all i t vs h.1 (λ k d l. own (suc k) d (omega arith)), λ (r : ℕ). none-below r t vs)

behind : (p : Event → Bool) (i t : ℕ) (vs : List Event) → HasReportsInOrder vs → All (λ v. v.key.train ≡ i) vs → t ≤ unwrap_or (first_report i (after p vs)) t → first_reported (λ s. nat_lt s t) (after p vs) ≡ None
behind p i t [] h own le = refl
behind p i t (v ∷ vs) h own le =
    let rest : All (λ v. v.key.train ≡ i) vs = λ k d l. own (suc k) d (omega arith) in
    elim (cases_Bool (p v)) [
      | inl hit ↦ rw hit (behind-all i t vs h.1 rest (rw hit at le))
      | inr miss ↦ rw miss (behind p i t vs h.1 rest (rw miss at le))
    ]

cut-at : (p : Event → Bool) (xs : List Event) (x : Event) → find p xs ≡ Some x → xs ≡ before p xs ++ x ∷ after p xs
cut-at p [] x h = absurd (cc)
cut-at p (y ∷ ys) x h = grind (arith, cut-at p ys x)

-- an event without a report leaves what is known of those before it, and one with a report tells it
passed : (st : State) (t : ℕ) (n m : Node) → IsPrevious st n m → option_map (λ v. v.report) (event_named st m) ≡ Some None → reported_before t st m ≡ None → reported_before t st n ≡ None
passed st t n m at none so_far =
    let silent : first_reported (λ r. nat_lt t r) (at.event ∷ []) ≡ None = let named = at.named in grind arith in
    rw at.cut (free-append (λ r. nat_lt t r) (before (is_event m) (train_events st m.train)) at.event so_far silent)

told : (nw : Network) (st : State) → IsValid nw st → (t : ℕ) (n m : Node) (r : ℕ) → IsPrevious st n m → option_map (λ v. v.report) (event_named st m) ≡ Some (Some r) → r ≤ t → reported_before t st n ≡ None
told nw st valid t n m r at some le =
    let es = train_events st m.train in
    let p = is_event m in
    let all = rising nw st m.train valid in
    let silent = All-contains (λ (v : Event). v.live ≡ false → v.report ≡ None) es at.event all.unreported (found-there p es at.event at.named).0 in
    let is : live_report at.event ≡ Some r = let named = at.named in grind (arith, silent) in
    rw at.cut (up-to r t (before p es) (after p es) at.event (subst HasReportsInOrder (cut-at p es at.event at.named) all.order) is le)

-- the event that is still to be looked at, if there is one: those behind it, up to n, are not reported later than t
abbrev pub IsToRead : ℕ → State → Node → Option Node → Type 0
IsToRead t st n None = reported_before t st n ≡ None
IsToRead t st n (Some m) = (k : Node) × IsPrevious st k m × (reported_before t st k ≡ None → reported_before t st n ≡ None)

-- how many events are still to be looked at
abbrev pub left_of : State → Option Node → ℕ
left_of st None = 0
left_of st (Some m) = suc (length (before (is_event m) (train_events st m.train)))

length-push : {X : Type 0} (xs : List X) (x : X) → length (xs ++ x ∷ []) ≡ suc (length xs)
length-push [] x = refl
length-push (y ∷ ys) x = ap suc (length-push ys x)

module _ (st : State) (labels : All HasOwnLabels st.trains) where
  step : (t : ℕ) (n m : Node) (o : Option Node) → has_event st m ≡ true → o ≡ previous_of st m → (reported_before t st m ≡ None → reported_before t st n ≡ None) → IsToRead t st n o
  step t n m None there is so_far = so_far (ap (first_reported (λ r. nat_lt t r)) (none-previous st m (sym is)))
  step t n m (Some k) there is so_far = (m, previous-is st labels m k there (sym is), so_far)

  pub begins : (t : ℕ) (n : Node) (o : Option Node) → has_event st n ≡ true → o ≡ previous_of st n → IsToRead t st n o
  begins t n o there is = step t n n o there is (λ h. h)

  pub goes-on : (t : ℕ) (n m : Node) (o : Option Node) → IsToRead t st n (Some m) → option_map (λ v. v.report) (event_named st m) ≡ Some None → o ≡ previous_of st m → IsToRead t st n o
  goes-on t n m o at none is = step t n m o at.1.there is (λ h. at.2 (passed st t at.0 m at.1 none h))

  pub fewer : (m : Node) (o : Option Node) → has_event st m ≡ true → o ≡ previous_of st m → left_of st o < left_of st (Some m)
  fewer m None there is = omega arith
  fewer m (Some k) there is =
      let at = previous-is st labels m k there (sym is) in
      let cut = ap length at.cut ∙ length-push (before (is_event k) (train_events st k.train)) at.event in omega (arith, cut)

-- the first report that is found tells whether one before n is later than t
pub found : (nw : Network) (st : State) → IsValid nw st → (t r : ℕ) (n m : Node) → IsToRead t st n (Some m) → option_map (λ v. v.report) (event_named st m) ≡ Some (Some r) → r ≤ t → reported_before t st n ≡ None
found nw st valid t r n m at some le = at.2 (told nw st valid t at.0 m r at.1 some le)

-- where the event's own report, those behind it and those before it leave room, nothing contradicts the time
own-free : (replaces : Bool) (t : ℕ) (o : Option Event) (report : Option ℕ) → option_map (λ (v : Event). v.report) o ≡ Some report → (replaces || nat_eq (unwrap_or report t) t) ≡ true → option_and_then (λ v. first_reported (λ r. not (replaces || nat_eq r t)) (v ∷ [])) o ≡ None
own-free replaces t None report named h = refl
own-free replaces t (Some v) report named h = grind (arith, nat_tests)

pub room : (nw : Network) (st : State) → IsValid nw st → (replaces : Bool) (t : ℕ) (n : Node) (report : Option ℕ) → option_map (λ (v : Event). v.report) (event_named st n) ≡ Some report → (replaces || nat_eq (unwrap_or report t) t) ≡ true → t ≤ unwrap_or (report_after st n) t → reported_before t st n ≡ None → contradicted_at replaces t n (train_events st n.train) ≡ None
room nw st valid replaces t n report named own next earlier =
    let all = rising nw st n.train valid in
    rw (earlier, own-free replaces t (event_named st n) report named own) (behind (is_event n) n.train t (train_events st n.train) all.order all.own next)
