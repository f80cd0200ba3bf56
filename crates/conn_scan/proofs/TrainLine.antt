-- The calls of a train, one after the other, and that times and keys rise along them.
use Rattle.std.proofs.Common.{◌≡◌, ℕ, zero, suc, ◌+◌, ◌≤◌, Bool, true, ◌&&◌, List, [], ◌∷◌, ◌++◌, Some, slice_get, find, length, refl, sym, ◌∙◌, ap, subst, inl, inr, arith}
use Rattle.std.specs.List.{All}
use Rattle.std.proofs.lemmas.Bool.{and_from, cases_Bool, cond-true, eq-eqb, eqb-true, ne_eqb}
use Rattle.std.proofs.lemmas.List.Elements.{All-cons, All-contains, All-head, All-nil, All-tail, Contains-append_right}
use Rattle.std.proofs.lemmas.Option.{none-some, same_Some}
use Rattle.std.proofs.Math.Logic.{◌≢◌}
use Rattle.mt_base.specs.declared.options.Opts.{Opts}
use Rattle.mt_base.specs.Order.{is_before}
use Rattle.mt_base.proofs.KeyLemmas.{before-trans}
use Rattle.delay_model.specs.declared.network.Network.{Network}
use Rattle.delay_model.specs.declared.state.Call.{Call}
use Rattle.delay_model.specs.declared.state.Edge.{Edge}
use Rattle.delay_model.specs.declared.state.Event.{Event}
use Rattle.delay_model.specs.declared.state.State.{State}
use Rattle.delay_model.specs.declared.state.Train.{Train}
use Rattle.delay_model.specs.Cuts.{after}
use Rattle.delay_model.specs.Edges.{edge_on, edges, edges_along, override_of, train_edge, train_edges, transfer_edges}
use Rattle.delay_model.specs.Effect.{is_call}
use Rattle.delay_model.specs.Events.{arrival_of, departure_of, events, events_at, events_of}
use Rattle.delay_model.specs.Timing.{event_time}
use Rattle.delay_model.specs.Valid.{HasDistinctLabels, IsForward, IsValid}
use Rattle.delay_model.proofs.AlongTrains.{times-rise}
use Rattle.train_nodes.specs.Calls.{first_label, label_after}

-- a call is found by its label where no two calls have one label, and what stands after it too
pub labelled-at : (before : List Call) (c : Call) (cs : List Call) → HasDistinctLabels (before ++ c ∷ cs) → (find (is_call c.label) (before ++ c ∷ cs) ≡ Some c) × (after (is_call c.label) (before ++ c ∷ cs) ≡ cs)
labelled-at [] c cs distinct = let own = eq-eqb c.label c.label refl in (rw own, rw own)
labelled-at (b ∷ before) c cs distinct =
    let apart = ne_eqb b.label c.label (All-contains (λ (d : Call). b.label ≢ d.label) (before ++ c ∷ cs) c distinct.0 (Contains-append_right before (c ∷ cs) c (0, omega arith, refl))) in
    let rest = labelled-at before c cs distinct.1 in
    (rw apart rest.0, rw apart rest.1)

-- what is found by a label stands before what is after it
pub record IsCutAt (label : ℕ) (cs : List Call) (c : Call) : Type 0 where
  pub earlier : List Call
  pub split : cs ≡ earlier ++ c ∷ after (is_call label) cs
  pub named : c.label ≡ label

pub cut-at : (label : ℕ) (cs : List Call) (c : Call) → find (is_call label) cs ≡ Some c → IsCutAt label cs c
cut-at label [] c found = absurd (none-some c found)
cut-at label (d ∷ ds) c found = elim (cases_Bool (is_call label d)) [
  | inl here ↦ record { earlier = []; split = grind (arith, here, found); named = grind (arith, here, found, eqb-true d.label label here) }
  | inr apart ↦ let at = cut-at label ds c (rw apart at found) in record { earlier = d ∷ at.earlier; split = rw apart (ap (λ es. d ∷ es) at.split); named = at.named }
]

-- what stands after a call is the end of the calls
end-of : (p : Call → Bool) (cs : List Call) (d : Call) (ds : List Call) → after p cs ≡ d ∷ ds → (before : List Call) × (cs ≡ before ++ d ∷ ds)
end-of p [] d ds h = absurd (cc)
end-of p (c ∷ cs) d ds h = elim (cases_Bool (p c)) [
  | inl here ↦ (c ∷ [], ap (λ es. c ∷ es) (rw here at h))
  | inr apart ↦ let rest = end-of p cs d ds (rw apart at h) in (c ∷ rest.0, ap (λ es. c ∷ es) rest.1)
]

first-of : (cs : List Call) (next : ℕ) → first_label cs ≡ Some next → (d : Call) × (ds : List Call) × (cs ≡ d ∷ ds) × (d.label ≡ next)
first-of [] next h = absurd (cc)
first-of (d ∷ ds) next h = (d, ds, refl, same_Some d.label next h)

-- the call after the one with a label, by its own label
pub record IsNextAt (cs : List Call) (label next : ℕ) (d : Call) : Type 0 where
  pub split : after (is_call label) cs ≡ d ∷ after (is_call next) cs
  pub named : d.label ≡ next

next-from : (cs : List Call) → HasDistinctLabels cs → (label next : ℕ) (d first : Call) (rest : List Call) → after (is_call label) cs ≡ first ∷ rest → first.label ≡ next → find (is_call next) cs ≡ Some d → IsNextAt cs label next d
next-from cs distinct label next d first rest split named found =
    let e = end-of (is_call label) cs first rest split in
    let by = labelled-at e.0 first rest (subst HasDistinctLabels e.1 distinct) in
    let its : find (is_call first.label) cs ≡ Some first = rw e.1 by.0 in
    let onward : after (is_call first.label) cs ≡ rest = rw e.1 by.1 in
    let same : first ≡ d = same_Some first d (sym its ∙ ap (λ l. find (is_call l) cs) named ∙ found) in
    record {
      split = split ∙ ap (λ c. c ∷ rest) same ∙ ap (λ cs. d ∷ cs) (sym onward ∙ ap (λ l. after (is_call l) cs) named);
      named = ap (λ (c : Call). c.label) (sym same) ∙ named;
    }

pub next-at : (cs : List Call) → HasDistinctLabels cs → (label next : ℕ) (d : Call) → label_after cs label ≡ Some next → find (is_call next) cs ≡ Some d → IsNextAt cs label next d
next-at cs distinct label next d follows found =
    let f = first-of (after (is_call label) cs) next follows in
    next-from cs distinct label next d f.0 f.1 f.2 f.3 found

after-shorter : (p : Call → Bool) (c : Call) (cs : List Call) → length (after p (c ∷ cs)) ≤ length cs
after-shorter p c [] = elim (cases_Bool (p c)) [ inl here ↦ rw here (omega arith) | inr apart ↦ rw apart (omega arith) ]
after-shorter p c (d ∷ ds) = elim (cases_Bool (p c)) [ inl here ↦ rw here (omega arith) | inr apart ↦ rw apart (let rest = after-shorter p d ds in omega arith) ]

not-again : (p : Call → Bool) (cs : List Call) (d : Call) (ds : List Call) → cs ≡ d ∷ ds → cs ≡ after p cs → ⊥
not-again p cs d ds is again =
    let less = after-shorter p d ds in
    let same : length (d ∷ ds) ≡ length (after p (d ∷ ds)) = ap length (subst (λ es. es ≡ after p es) is again) in
    omega arith

-- a call has one call before it
pub one-before : (cs : List Call) (a b : ℕ) (d : Call) (ds : List Call) → after (is_call a) cs ≡ d ∷ ds → after (is_call b) cs ≡ d ∷ ds → a ≡ b
one-before [] a b d ds h k = absurd (cc)
one-before (c ∷ cs) a b d ds h k = elim (cases_Bool (is_call a c)) [
  | inl here ↦ elim (cases_Bool (is_call b c)) [
    | inl there ↦ sym (eqb-true c.label a here) ∙ eqb-true c.label b there
    | inr apart ↦ let on = rw here at h in let again = rw apart at k in absurd (not-again (is_call b) cs d ds on (on ∙ sym again))
  ]
  | inr apart ↦ elim (cases_Bool (is_call b c)) [
    | inl there ↦ let on = rw there at k in let again = rw apart at h in absurd (not-again (is_call a) cs d ds on (on ∙ sym again))
    | inr neither ↦ one-before cs a b d ds (rw apart at h) (rw neither at k)
  ]
]

module _ {X : Type 0} (P : X → Type 0) where
  rest-of : (xs ys : List X) → All P (xs ++ ys) → All P ys
  rest-of [] ys h = h
  rest-of (x ∷ xs) ys h = rest-of xs ys (All-tail P x (xs ++ ys) h)

  front-of : (xs ys : List X) → All P (xs ++ ys) → All P xs
  front-of [] ys h = All-nil P
  front-of (x ∷ xs) ys h = All-cons P x xs (All-head P x (xs ++ ys) h) (front-of xs ys (All-tail P x (xs ++ ys) h))

-- what holds of the edges along trains holds of those at a call
module _ (P : Edge → Type 0) (o : Opts) where
  edges-on : (u : Event) (vs : List Event) → All P (edges_along o (u ∷ vs)) → All P (edges_along o vs)
  edges-on u vs h = rest-of P (edge_on o u vs) (edges_along o vs) h

  edge-first : (u v : Event) (vs : List Event) → u.live ≡ true → v.live ≡ true → All P (edges_along o (u ∷ v ∷ vs)) → P (train_edge o u v)
  edge-first u v vs from to h =
      let e = train_edge o u v in
      let rest = edges_along o (v ∷ vs) in
      All-head P e rest (subst (λ es. All P (es ++ rest)) (cond-true (u.live && v.live) (e ∷ []) [] (and_from u.live v.live from to)) h)

  train-along : (first : ℕ) (ts : List Train) (k : ℕ) (t : Train) → slice_get ts k ≡ Some t → All P (train_edges o first ts) → (n : ℕ) → n ≡ first + k → All P (edges_along o (events_of n t))
  train-along first [] k t there h n at = absurd (none-some t there)
  train-along first (s ∷ ts) zero t there h n at =
      let along = front-of P (edges_along o (events_of first s)) (train_edges o (first + 1) ts) h in
      let number : first ≡ n = omega arith in
      subst (λ m. All P (edges_along o (events_of m t))) number (subst (λ u. All P (edges_along o (events_of first u))) (same_Some s t there) along)
  train-along first (s ∷ ts) (suc k) t there h n at =
      train-along (first + 1) ts k t there (rest-of P (edges_along o (events_of first s)) (train_edges o (first + 1) ts) h) n (omega arith)

  from-call : (train route : ℕ) (before : List Call) (c : Call) (cs : List Call) → All P (edges_along o (events_at train route (before ++ c ∷ cs))) → All P (edges_along o (departure_of train route c ∷ events_at train route cs))
  from-call train route [] c cs h = edges-on (arrival_of train route c) (departure_of train route c ∷ events_at train route cs) h
  from-call train route (d ∷ before) c cs h =
      let rest = events_at train route (before ++ c ∷ cs) in
      from-call train route before c cs (edges-on (departure_of train route d) rest (edges-on (arrival_of train route d) (departure_of train route d ∷ rest) h))

-- from a departure to the next arrival of its train, and on to the departure there, times do not fall and keys rise
pub record RisesAt (nw : Network) (st : State) (train route : ℕ) (c d : Call) : Type 0 where
  pub travel : event_time nw st (departure_of train route c).key ≤ event_time nw st (arrival_of train route d).key
  pub later : is_before (departure_of train route c).key (arrival_of train route d).key ≡ true
  pub stay : d.departure.live ≡ true → event_time nw st (arrival_of train route d).key ≤ event_time nw st (departure_of train route d).key
  pub latest : d.departure.live ≡ true → is_before (departure_of train route c).key (departure_of train route d).key ≡ true

module _ (nw : Network) (st : State) (valid : IsValid nw st) where
  along-forward : All IsForward (train_edges nw.opts 0 st.trains)
  unfolding edges
  along-forward = front-of IsForward (train_edges nw.opts 0 st.trains) (transfer_edges nw (override_of st) (events st)) valid.forward

  pub rises-at : (train : ℕ) (t : Train) → slice_get st.trains train ≡ Some t → (before : List Call) (c d : Call) (cs : List Call) → t.calls ≡ before ++ c ∷ d ∷ cs → c.departure.live ≡ true → d.arrival.live ≡ true → RisesAt nw st train t.route c d
  rises-at train t there before c d cs split departs arrives =
      let o = nw.opts in
      let route = t.route in
      let Rises : Edge → Type 0 = λ e. event_time nw st e.from ≤ event_time nw st e.to in
      let u = departure_of train route c in
      let v = arrival_of train route d in
      let w = departure_of train route d in
      let rest = events_at train route cs in
      let at : (P : Edge → Type 0) → All P (train_edges o 0 st.trains) → All P (edges_along o (u ∷ v ∷ w ∷ rest)) =
      λ P h. from-call P o train route before c (d ∷ cs) (subst (λ ds. All P (edges_along o (events_at train route ds))) split (train-along P o 0 st.trains train t there h train (omega arith))) in
      let rise = at Rises (times-rise nw st valid) in
      let forward = at IsForward along-forward in
      let first = edge-first IsForward o u v (w ∷ rest) departs arrives forward in
      record {
        travel = edge-first Rises o u v (w ∷ rest) departs arrives rise;
        later = first.later;
        stay = λ live. edge-first Rises o v w rest arrives live (edges-on Rises o u (v ∷ w ∷ rest) rise);
        latest = λ live. before-trans u.key v.key w.key first.later (edge-first IsForward o v w rest arrives live (edges-on IsForward o u (v ∷ w ∷ rest) forward)).later;
      }
