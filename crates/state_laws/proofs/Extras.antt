-- An extra train is good: its events are new, and its edges were tested.
use Rattle.state_laws.proofs.Words.{◌≡◌, ℕ, Bool, ◌+◌, ◌^◌, ◌<◌, ◌≤◌, true, false, List, [], ◌∷◌, ◌++◌, Some, None, length, refl, arith, ◌≢◌, append_assoc, append-nil, All-cons, All-nil}
use Rattle.state_laws.proofs.Words.{All-tail, All-head, All-weaker, Contains-append_left, All, Contains, slice_get, NewCall, edges_along, effect, new_calls, new_call, new_train, begin_run}
use Rattle.state_laws.proofs.Words.{end_run, events, events_at, events_of, events_from, arrival_of, departure_of, live_report, IsSmallCall, refusal, IsForward, IsSmall, IsRun}
use Rattle.state_laws.proofs.Words.{HasDistinctLabels, HasReportsInOrder, IsValid, Extra, Network, Call, Event, EventValues, State, Train}
use Rattle.state_laws.proofs.Parts.{AtEach, each-tail, each-from, each-none, IsGood, IsUnreported, valid-from, valid-good, valid-carried}
use Rattle.state_laws.proofs.Accepted.{accepted-by}
use Rattle.state_laws.proofs.Values.{carried-over}
use Rattle.state_laws.proofs.Choices.{none-against}
use Rattle.state_laws.proofs.Stretches.{events_at-each}

-- values with a small time, and with no forecast and no report
pub record IsFresh (e : EventValues) : Type 0 where
  pub small : e.scheduled < 2 ^ 24
  pub forecast : e.forecast ≡ None
  pub report : e.report ≡ None

-- a call with such values, at a label in a range
pub record IsFreshCall (low high : ℕ) (c : Call) : Type 0 where
  pub arrival : IsFresh c.arrival
  pub departure : IsFresh c.departure
  pub from : low ≤ c.label
  pub below : c.label < high

from-later : (label high : ℕ) (cs : List Call) → All (IsFreshCall (label + 1) high) cs → All (IsFreshCall label high) cs
from-later label high cs h = All-weaker (IsFreshCall (label + 1) high) (IsFreshCall label high) (λ d f. grind arith) cs h

other-later : (label high : ℕ) (cs : List Call) → All (IsFreshCall (label + 1) high) cs → All (λ d. label ≢ d.label) cs
other-later label high cs h = All-weaker (IsFreshCall (label + 1) high) (λ d. label ≢ d.label) (λ d f e. let le = f.from in absurd (omega arith)) cs h

pub new-fresh : (label high : ℕ) (cs : List NewCall) → label + length cs ≤ high → All IsSmallCall cs → All (IsFreshCall label high) (new_calls label cs)
new-fresh label high [] le h = All-nil (IsFreshCall label high)
new-fresh label high (c ∷ cs) le h =
    let small = All-head IsSmallCall c cs h in
    All-cons (IsFreshCall label high) (new_call label c) (new_calls (label + 1) cs) (grind arith)
    (from-later label high (new_calls (label + 1) cs) (new-fresh (label + 1) high cs (omega arith) (All-tail IsSmallCall c cs h)))

pub new-distinct : (label : ℕ) (cs : List NewCall) → All IsSmallCall cs → HasDistinctLabels (new_calls label cs)
new-distinct label [] h = tt
new-distinct label (c ∷ cs) h =
    let rest = All-tail IsSmallCall c cs h in
    (other-later label (label + 1 + length cs) _ (new-fresh (label + 1) _ cs (omega arith) rest), new-distinct (label + 1) cs rest)

-- the calls of an extra train, from a call that is reached or not
pub record IsMade (live : Bool) (low high : ℕ) (cs : List Call) : Type 0 where
  pub fresh : All (IsFreshCall low high) cs
  pub labels : HasDistinctLabels cs
  pub run : IsRun live cs

end-made : (label high : ℕ) (c : NewCall) (cs : List NewCall) → label + 1 + length cs ≤ high → All IsSmallCall (c ∷ cs) → IsMade true label high (end_run (new_calls label (c ∷ cs)))
end-made label high c [] le h =
    let small = All-head IsSmallCall c [] h in
    record { fresh = All-cons (IsFreshCall label high) _ [] (grind arith) (All-nil (IsFreshCall label high)); labels = (All-nil (λ (d : Call). label ≢ d.label), tt); run = (refl, refl) }
end-made label high c (d ∷ ds) le h =
    let rest = end-made (label + 1) high d ds (omega arith) (All-tail IsSmallCall c (d ∷ ds) h) in
    let cs = end_run (new_calls (label + 1) (d ∷ ds)) in
    let small = All-head IsSmallCall c (d ∷ ds) h in
    record {
      fresh = All-cons (IsFreshCall label high) (new_call label c) cs (grind arith) (from-later label high cs rest.fresh);
      labels = (other-later label high cs rest.fresh, rest.labels);
      run = (refl, rest.run);
    }

begin-made : (low high : ℕ) (cs : List Call) → IsMade true low high cs → IsMade false low high (begin_run cs)
begin-made low high [] m = let e = m.run in absurd (cc)
begin-made low high (c ∷ cs) m =
    let P = IsFreshCall low high in
    let f = All-head P c cs m.fresh in
    record { fresh = All-cons P _ cs (grind arith) (All-tail P c cs m.fresh); labels = m.labels; run = (refl, m.run.1) }

pub made : (cs : List NewCall) → All IsSmallCall cs → IsMade false 0 (length cs) (begin_run (end_run (new_calls 0 cs)))
made [] h = record { fresh = All-nil (IsFreshCall 0 0); labels = tt; run = refl }
made (c ∷ cs) h = begin-made 0 (length (c ∷ cs)) (end_run (new_calls 0 (c ∷ cs))) (end-made 0 (length (c ∷ cs)) c cs (omega arith) h)

pub none-live : (v : Event) → v.report ≡ None → live_report v ≡ None
none-live v h = grind arith

-- events of which none is reported stand before others whose reports are in order
pub silent-before : (es ys : List Event) → All (λ v. live_report v ≡ None) es → HasReportsInOrder ys → HasReportsInOrder (es ++ ys)
silent-before [] ys h order = order
silent-before (v ∷ vs) ys h order =
    let P : Event → Type 0 = λ v. live_report v ≡ None in (rw (All-head P v vs h) tt, silent-before vs ys (All-tail P v vs h) order)

-- what is known of the events of fresh calls
pub fresh-each : (P : Event → Type 0) → ((v : Event) → v.key.time < 2 ^ 24 → v.forecast ≡ None → v.report ≡ None → P v) → (low high n route : ℕ) (cs : List Call) → All (IsFreshCall low high) cs → All P (events_at n route cs)
fresh-each P each low high n route cs h =
    events_at-each P (IsFreshCall low high) n route (λ c f. (each (arrival_of n route c) f.arrival.small f.arrival.forecast f.arrival.report, each (departure_of n route c) f.departure.small f.departure.forecast f.departure.report)) cs h

pub fresh-small : (v : Event) → v.key.time < 2 ^ 24 → v.forecast ≡ None → v.report ≡ None → IsSmall v
fresh-small v time forecast report = grind arith

new-good : (nw : Network) (n day route : ℕ) (cs : List NewCall) → All IsSmallCall cs → All IsForward (edges_along nw.opts (events_of n (new_train day route cs))) → IsGood nw n (new_train day route cs)
new-good nw n day route cs small forward =
    let l = length cs in
    let calls = begin_run (end_run (new_calls 0 cs)) in
    let m = made cs small in
    record {
      train = record {
        labels = m.labels;
        used = All-weaker (IsFreshCall 0 l) (λ c. c.label < l) (λ c f. f.below) calls m.fresh;
        run = m.run;
        reports = λ number.
            let es = events_at number route calls in
            rw append-nil at (silent-before es [] (fresh-each (λ v. live_report v ≡ None) (λ v _ _ r. none-live v r) 0 l number route calls m.fresh) tt);
      };
      forward = forward;
      unreported = fresh-each IsUnreported (λ v _ _ r _. r) 0 l n route calls m.fresh;
      small = fresh-each IsSmall fresh-small 0 l n route calls m.fresh;
    }

each-push : (Q : ℕ → Train → Type 0) (first at : ℕ) (ts : List Train) (t : Train) → at ≡ first + length ts → AtEach Q first ts → Q at t → AtEach Q first (ts ++ t ∷ [])
each-push Q first at [] t e h q = let same : at ≡ first = omega arith in each-from Q first t [] (rw same at q) (each-none Q (first + 1))
each-push Q first at (u ∷ us) t e h q =
    each-from Q first u (us ++ t ∷ []) (h 0 first u (omega arith) refl) (each-push Q (first + 1) at us t (omega arith) (each-tail Q first u us h) q)

pub get-push : (ts : List Train) (t : Train) → slice_get (ts ++ t ∷ []) (length ts) ≡ Some t
get-push [] t = refl
get-push (u ∷ us) t = get-push us t

pub events-push : (first at : ℕ) (ts : List Train) (t : Train) → at ≡ first + length ts → events_from first (ts ++ t ∷ []) ≡ events_from first ts ++ (events_of at t ++ [])
events-push first at [] t e = let same : at ≡ first = omega arith in rw same
events-push first at (u ∷ us) t e = rw (events-push (first + 1) at us t (omega arith), append_assoc (events_of first u))

-- an extra train gets the number that is asked for
pub extra-number : (nw : Network) (st : State) (n day route : ℕ) (cs : List NewCall) → refusal nw st (Extra n day route cs) ≡ None → n ≡ length st.trains
extra-number nw st n day route cs h = let a = accepted-by nw st (Extra n day route cs) h in grind (arith, a.known, a.new)

pub extra-valid : (nw : Network) (st : State) (n day route : ℕ) (cs : List NewCall) → IsValid nw st → All IsSmallCall cs → refusal nw st (Extra n day route cs) ≡ None → IsValid nw (effect st (Extra n day route cs))
unfolding effect events
extra-valid nw st n day route cs valid small h =
    let t = new_train day route cs in
    let ts = st.trains in
    let at = extra-number nw st n day route cs h in
    let got : slice_get (ts ++ t ∷ []) n ≡ Some t = rw at (get-push ts t) in
    let in_rank = (accepted-by nw st (Extra n day route cs) h).in_rank in
    let forward = none-against (edges_along nw.opts (events_of n t)) (rw got at in_rank) in
    let there : (w : Event) → Contains (events st) w → Contains (events_from 0 (ts ++ t ∷ [])) w = λ w hw. rw (events-push 0 n ts t (omega arith)) (Contains-append_left (events st) _ w hw) in
    valid-from nw (effect st (Extra n day route cs)) valid.options (each-push (IsGood nw) 0 n ts t (omega arith) (valid-good nw st valid) (new-good nw n day route cs small forward)) (λ p o got.
    let c = valid-carried nw st valid p o got in
    let u = c.joins.arrival in
    let v = c.joins.departure in
    carried-over nw (events st) _ p o c u.forecast u.report v.forecast v.report (there u c.joins.arrival_there) (there v c.joins.departure_there))
