-- A cancelled stretch takes each departure with the next arrival.
use Rattle.state_laws.proofs.Words.{get_or, ◌≡◌, ℕ, Bool, true, false, ◌&&◌, cond, List, [], ◌∷◌, map, ◌∙◌, inl, inr, ◌≢◌, cond_both, arith, is_same_node, common_steps, not, suc, ◌<◌}
use Rattle.state_laws.proofs.Words.{length, cases_Bool, All-cons, All-nil, All-tail, All-head, list_any_none, All, Node, up_to, node_at, is_call, is_among, killed, events_at, arrival_of}
use Rattle.state_laws.proofs.Words.{departure_of, is_event, has_call, stands_before, HasDistinctLabels, IsRun, Call, Event}
use Rattle.delay_model.specs.Cuts as Cuts

pub and-true : (b : Bool) → (b && true) ≡ b
and-true b = grind arith

-- what holds of both events of each call
pub events_at-each : (P : Event → Type 0) (Q : Call → Type 0) (n route : ℕ) → ((c : Call) → Q c → P (arrival_of n route c) × P (departure_of n route c)) → (cs : List Call) → All Q cs → All P (events_at n route cs)
events_at-each P Q n route each [] h = All-nil P
events_at-each P Q n route each (c ∷ cs) h =
    let both = each c (All-head Q c cs h) in
    All-cons P (arrival_of n route c) (departure_of n route c ∷ events_at n route cs) both.0
    (All-cons P (departure_of n route c) (events_at n route cs) both.1 (events_at-each P Q n route each cs (All-tail Q c cs h)))

pub each-events_at : (P : Event → Type 0) (n route : ℕ) (cs : List Call) → All P (events_at n route cs) → All (λ c. P (arrival_of n route c) × P (departure_of n route c)) cs
each-events_at P n route [] h = All-nil _
each-events_at P n route (c ∷ cs) h =
    All-cons (λ c. P (arrival_of n route c) × P (departure_of n route c)) c cs (h 0 (arrival_of n route c) (omega arith), h 1 (arrival_of n route c) (omega arith))
    (each-events_at P n route cs (λ k d l. h (suc (suc k)) d (omega arith)))

-- what holds of a list holds of its parts
pub All-from : {X : Type 0} (P : X → Type 0) (p : X → Bool) (xs : List X) → All P xs → All P (Cuts.from p xs)
All-from P p [] h = h
All-from P p (x ∷ xs) h = let rest = All-from P p xs (All-tail P x xs h) in grind arith

pub All-up_to : {X : Type 0} (P : X → Type 0) (p : X → Bool) (xs : List X) → All P xs → All P (up_to p xs)
All-up_to P p [] h = h
All-up_to P p (x ∷ xs) h =
    let head = All-head P x xs h in
    cond_both (p x) (x ∷ []) (x ∷ up_to p xs) (All P) (λ _. All-cons P x [] head (All-nil P)) (λ _. All-cons P x _ head (All-up_to P p xs (All-tail P x xs h)))

module _ (n route : ℕ) where
  abbrev pub until : ℕ → List Call → List Event
  until to cs = up_to (is_event (node_at n to false)) (events_at n route cs)

  abbrev pub between : ℕ → ℕ → List Call → List Event
  between from to cs = up_to (is_event (node_at n to false)) (Cuts.from (is_event (node_at n from true)) (events_at n route cs))

  -- a call at another label has no event of this name
  others : (label : ℕ) (dep : Bool) (cs : List Call) → All (λ d. label ≢ d.label) cs → All (λ v. is_event (node_at n label dep) v ≡ false) (events_at n route cs)
  unfolding is_same_node
  others label dep cs h = events_at-each (λ v. is_event (node_at n label dep) v ≡ false) (λ d. label ≢ d.label) n route (λ c ne. grind (arith, common_steps)) cs h

  not-between : (from to label : ℕ) (dep : Bool) (cs : List Call) → All (λ d. label ≢ d.label) cs → is_among (between from to cs) (node_at n label dep) ≡ false
  not-between from to label dep cs h =
      let P : Event → Type 0 = λ v. is_event (node_at n label dep) v ≡ false in
      list_any_none (is_event (node_at n label dep)) _ (All-up_to P (is_event (node_at n to false)) _ (All-from P (is_event (node_at n from true)) (events_at n route cs) (others label dep cs h)))

  not-until : (to label : ℕ) (dep : Bool) (cs : List Call) → All (λ d. label ≢ d.label) cs → is_among (until to cs) (node_at n label dep) ≡ false
  not-until to label dep cs h =
      let P : Event → Type 0 = λ v. is_event (node_at n label dep) v ≡ false in
      list_any_none (is_event (node_at n label dep)) _ (All-up_to P (is_event (node_at n to false)) (events_at n route cs) (others label dep cs h))

  -- which events of a first call are in the stretch, and which of the other calls
  until-first : (to : ℕ) (c : Call) (cs : List Call) (dep : Bool) → is_among (until to (c ∷ cs)) (node_at n c.label dep) ≡ not (is_call to c && dep)
  unfolding is_same_node
  until-first to c cs dep = grind (arith, common_steps)

  until-rest : (to : ℕ) (c : Call) (cs : List Call) (label : ℕ) (dep : Bool) → c.label ≢ label → is_among (until to (c ∷ cs)) (node_at n label dep) ≡ (not (is_call to c) && is_among (until to cs) (node_at n label dep))
  unfolding is_same_node
  until-rest to c cs label dep ne = grind (arith, common_steps)

  between-first : (from to : ℕ) (c : Call) (cs : List Call) (dep : Bool) → All (λ d. c.label ≢ d.label) cs → is_among (between from to (c ∷ cs)) (node_at n c.label dep) ≡ (is_call from c && dep)
  unfolding is_same_node
  between-first from to c cs dep apart =
      let a = not-between from to c.label dep cs apart in let b = not-until to c.label dep cs apart in grind (arith, common_steps)

  between-rest : (from to : ℕ) (c : Call) (cs : List Call) (label : ℕ) (dep : Bool) → c.label ≢ label → is_among (between from to (c ∷ cs)) (node_at n label dep) ≡ is_among (cond (is_call from c) (until to cs) (between from to cs)) (node_at n label dep)
  unfolding is_same_node
  between-rest from to c cs label dep ne = grind (arith, common_steps)

  -- the test passes those of these calls' events that are among the list
  abbrev pub Agrees : (Node → Bool) → List Event → List Call → Type 0
  Agrees K es cs = All (λ d. (dep : Bool) → K (node_at n d.label dep) ≡ is_among es (node_at n d.label dep)) cs

  abbrev pub kill : (Node → Bool) → Call → Call
  kill K c = record c { arrival = killed (K (node_at n c.label false)) c.arrival; departure = killed (K (node_at n c.label true)) c.departure }

  -- where no call is among them, the run stays
  run-none : (K : Node → Bool) (live : Bool) (cs : List Call) → Agrees K [] cs → IsRun live cs → IsRun live (map (kill K) cs)
  run-none K live [] h run = run
  run-none K live (c ∷ cs) h run =
      (rw (h 0 c (omega arith) false) run.0, rw (h 0 c (omega arith) true) (run-none K c.departure.live cs (λ k d l. h (suc k) d (omega arith)) run.1))

  -- within the stretch
  run-within : (K : Node → Bool) (to : ℕ) (live : Bool) (cs : List Call) → HasDistinctLabels cs → has_call to cs ≡ true → Agrees K (until to cs) cs → IsRun live cs → IsRun false (map (kill K) cs)
  run-within K to live [] labels there h run = absurd (cc)
  run-within K to live (c ∷ cs) labels there h run =
      let arr = h 0 c (omega arith) false ∙ until-first to c cs false in
      let dep = h 0 c (omega arith) true ∙ until-first to c cs true in
      let rest = λ (k : ℕ) (d : Call) (l : k < length cs) (dep : Bool). h (suc k) d (omega arith) dep ∙ until-rest to c cs (get_or cs k d).label dep (labels.0 k d l) in
      elim (cases_Bool (is_call to c)) [
        | inl last ↦ (rw (arr, last), rw (dep, last) (run-none K c.departure.live cs (λ k d l e. rw last at (rest k d l e)) run.1))
        | inr on ↦ (rw (arr, on), rw (dep, on) (run-within K to c.departure.live cs labels.1 (rw on at there) (λ k d l e. rw on at (rest k d l e)) run.1))
      ]

  -- from before the stretch on
  pub run-cancelled : (K : Node → Bool) (from to : ℕ) (live : Bool) (cs : List Call) → HasDistinctLabels cs → stands_before from to cs ≡ true → Agrees K (between from to cs) cs → IsRun live cs → IsRun live (map (kill K) cs)
  run-cancelled K from to live [] labels there h run = absurd (cc)
  run-cancelled K from to live (c ∷ cs) labels there h run =
      let arr = h 0 c (omega arith) false ∙ between-first from to c cs false labels.0 in
      let dep = h 0 c (omega arith) true ∙ between-first from to c cs true labels.0 in
      let rest = λ (k : ℕ) (d : Call) (l : k < length cs) (dep : Bool). h (suc k) d (omega arith) dep ∙ between-rest from to c cs (get_or cs k d).label dep (labels.0 k d l) in
      elim (cases_Bool (is_call from c)) [
        | inl first ↦ (rw (arr, first) run.0, rw (dep, first) (run-within K to c.departure.live cs labels.1 (rw first at there) (λ k d l e. rw first at (rest k d l e)) run.1))
        | inr sooner ↦ (rw (arr, sooner) run.0, rw (dep, sooner) (run-cancelled K from to c.departure.live cs labels.1 (rw sooner at there) (λ k d l e. rw sooner at (rest k d l e)) run.1))
      ]
