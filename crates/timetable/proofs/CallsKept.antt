-- A call that is there before and after a message is at the same stop, and may be boarded as before.
use Rattle.state_laws.proofs.Words.{◌≡◌, ℕ, zero, suc, ◌+◌, ◌<◌, ◌≤◌, true, false, List, [], ◌∷◌, ◌++◌, Option, Some, None, map, is_some, get_or, refl, sym, ◌∙◌, ap, arith, elements, inl, inr}
use Rattle.state_laws.proofs.Words.{cases_Bool, cases_eq, eqb-true, All, All-nil, All-cons, All-map, find, slice_get, option_map, option_map_or, NewCall, Node, EventValues, Call, Train, State}
use Rattle.state_laws.proofs.Words.{Message, Report, Forecast, Correct, Withdraw, Cancel, Reroute, Extra, Keep, Drop, Rule, effect, with_event, change_train, change_calls, change_event, change_labelled, is_call, kill_in}
use Rattle.state_laws.proofs.Words.{stretch, new_call, new_calls, rerouted, with_report, with_forecast, calls_of, HasDistinctLabels, IsTrain}
use Rattle.state_laws.proofs.Changed.{get-own, get-other}
use Rattle.state_laws.proofs.Parts.{trains-each}
use Rattle.state_laws.proofs.Stretches.{All-from, All-up_to}
use Rattle.timetable.specs.Shapes.{AreCallsKept, IsCallKept}

-- what was found is at the stop of this call, and may be boarded as it
record IsLike (o : Option Call) (c : Call) : Type 0 where
  pub stop : option_map (λ (c : Call). c.stop) o ≡ Some c.stop
  pub board : option_map (λ (c : Call). c.board) o ≡ Some c.board

-- where one of these calls has its label, the first of them is like it
abbrev WasLike : List Call → Call → Type 0
WasLike cs d = is_some (find (is_call d.label) cs) ≡ true → IsLike (find (is_call d.label) cs) d

-- if each call was like this, the first with a label was
found-like : (cs : List Call) (label : ℕ) (ds : List Call) → All (WasLike cs) ds → is_some (find (is_call label) cs) ≡ true → is_some (find (is_call label) ds) ≡ true → (option_map (λ (c : Call). c.stop) (find (is_call label) ds) ≡ option_map (λ (c : Call). c.stop) (find (is_call label) cs)) × (option_map (λ (c : Call). c.board) (find (is_call label) ds) ≡ option_map (λ (c : Call). c.board) (find (is_call label) cs))
found-like cs label [] h was now = absurd (cc)
found-like cs label (d ∷ ds) h was now =
    elim (cases_Bool (is_call label d)) [
      | inl hit ↦ let like = (rw (eqb-true d.label label hit) at h 0 d (omega arith)) was in rw hit (sym like.stop, sym like.board)
      | inr miss ↦ rw miss (found-like cs label ds (λ i e l. h (suc i) e (omega arith)) was (rw miss at now))
    ]

-- of calls with labels of their own each is found by its label
own-found : (cs : List Call) → HasDistinctLabels cs → All (λ c. find (is_call c.label) cs ≡ Some c) cs
own-found [] h = All-nil _
own-found (c ∷ cs) h = let rest = own-found cs h.1 in let apart = h.0 in grind (arith, elements)

like-one : (cs : List Call) (c d : Call) → find (is_call c.label) cs ≡ Some c → d.label ≡ c.label → d.stop ≡ c.stop → d.board ≡ c.board → WasLike cs d
like-one cs c d found label stop board = λ there. record { stop = rw (label, found, stop) refl; board = rw (label, found, board) refl }

mapped-like : (g : Call → Call) → ((c : Call) → (g c).label ≡ c.label) → ((c : Call) → (g c).stop ≡ c.stop) → ((c : Call) → (g c).board ≡ c.board) → (t : Train) → IsTrain t → All (WasLike t.calls) (map g t.calls)
mapped-like g label stop board t is =
    All-map (WasLike t.calls) g t.calls (λ i d l. let c = get_or t.calls i d in like-one t.calls c (g c) (own-found t.calls is.labels i d l) (label c) (stop c) (board c))

-- no call has a label that is not used
none-found : (cs : List Call) (low label : ℕ) → low ≤ label → All (λ c. c.label < low) cs → is_some (find (is_call label) cs) ≡ false
none-found [] low label le used = refl
none-found (c ∷ cs) low label le used = let here = used 0 c (omega arith) in let rest = none-found cs low label le (λ i d l. used (suc i) d (omega arith)) in grind arith

new-like : (cs : List Call) (low label : ℕ) → low ≤ label → All (λ c. c.label < low) cs → (via : List NewCall) → All (WasLike cs) (new_calls label via)
new-like cs low label le used [] = All-nil (WasLike cs)
new-like cs low label le used (c ∷ via) =
    All-cons (WasLike cs) (new_call label c) (new_calls (label + 1) via) (λ there. absurd (let no = none-found cs low label le used in cc))
    (new-like cs low (label + 1) (omega arith) used via)

rerouted-like : (from to : ℕ) (via : List NewCall) (t : Train) → IsTrain t → All (WasLike t.calls) (rerouted from to via t).calls
rerouted-like from to via t is =
    let own : All (WasLike t.calls) t.calls = λ i d l. let c = get_or t.calls i d in like-one t.calls c c (own-found t.calls is.labels i d l) refl refl refl in
    let front = All-up_to (WasLike t.calls) (is_call from) t.calls own in
    let mid = new-like t.calls t.next_label t.next_label (omega arith) is.used via in
    let back = All-from (WasLike t.calls) (is_call to) t.calls own in
    grind (arith, elements)

train-found : (label : ℕ) (o : Option Train) → is_some (find (is_call label) (option_map_or (λ (t : Train). t.calls) o [])) ≡ true → (t : Train) × (o ≡ Some t)
train-found label None h = absurd (cc)
train-found label (Some t) h = (t, refl)

kept-calls : (old new : State) (train label : ℕ) → calls_of new train ≡ calls_of old train → IsCallKept old new train label
kept-calls old new train label same = record { stop = rw same refl; board = rw same refl }

got-own : (f : Train → Train) (n k : ℕ) (ts : List Train) (t : Train) → k ≡ n → slice_get ts k ≡ Some t → slice_get (change_train n f ts) k ≡ Some (f t)
got-own f n k ts t same h = rw same (get-own f n ts t (rw same at h))

-- one train is changed
kept-change : (old new : State) (n : ℕ) (f : Train → Train) → All IsTrain old.trains → new.trains ≡ change_train n f old.trains → ((t : Train) → IsTrain t → All (WasLike t.calls) (f t).calls) → AreCallsKept old new
kept-change old new n f trains is keeps = λ train label was now.
    elim (cases_eq train n) [
      | inl same ↦
          let r = train-found label (slice_get old.trains train) was in
          let t = r.0 in
          let before : calls_of old train ≡ t.calls = ap (λ o. option_map_or (λ (t : Train). t.calls) o []) r.1 in
          let after : calls_of new train ≡ (f t).calls = rw (is, got-own f n train old.trains t same r.1) refl in
          let both = found-like t.calls label (f t).calls (keeps t (trains-each IsTrain old.trains trains train train t (omega arith) r.1)) (rw before at was) (rw after at now) in
          record { stop = rw (before, after) both.0; board = rw (before, after) both.1 }
      | inr differs ↦ kept-calls old new train label (rw (is, get-other f n train old.trains differs) refl)
    ]

-- one train more
get-more : (ts us : List Train) (k : ℕ) (t : Train) → slice_get ts k ≡ Some t → slice_get (ts ++ us) k ≡ Some t
get-more [] us k t h = absurd (cc)
get-more (u ∷ ts) us zero t h = h
get-more (u ∷ ts) us (suc k) t h = get-more ts us k t h

event-kept : (st : State) (n : Node) (f : EventValues → EventValues) → All IsTrain st.trains → AreCallsKept st (with_event n f st)
event-kept st n f trains =
    let g = change_labelled n.label (change_event n.dep f) in
    kept-change st (with_event n f st) n.train (change_calls (map g)) trains refl (mapped-like g (λ c. grind arith) (λ c. grind arith) (λ c. grind arith))

pub calls-kept : (st : State) (m : Message) → All IsTrain st.trains → AreCallsKept st (effect st m)
unfolding effect
calls-kept st (Report n t) trains = event-kept st n (with_report (Some t)) trains
calls-kept st (Forecast n t) trains = event-kept st n (with_forecast (Some t)) trains
calls-kept st (Correct n o) trains = event-kept st n (with_report o) trains
calls-kept st (Withdraw n) trains = event-kept st n (with_forecast None) trains
calls-kept st (Cancel n from to) trains =
    let g = kill_in (stretch st n from to) n in
    kept-change st (effect st (Cancel n from to)) n (change_calls (map g)) trains refl (mapped-like g (λ c. refl) (λ c. refl) (λ c. refl))
calls-kept st (Reroute n from to via) trains =
    kept-change st (effect st (Reroute n from to via)) n (rerouted from to via) trains refl (rerouted-like from to via)
calls-kept st (Extra n day route cs) trains = λ train label was now.
    let new = effect st (Extra n day route cs) in
    let r = train-found label (slice_get st.trains train) was in
    kept-calls st new train label (ap (λ o. option_map_or (λ (t : Train). t.calls) o []) (get-more st.trains _ train r.0 r.1 ∙ sym r.1))
calls-kept st (Keep feeder train) trains = λ n label was now. kept-calls st (effect st (Keep feeder train)) n label refl
calls-kept st (Drop feeder train) trains = λ n label was now. kept-calls st (effect st (Drop feeder train)) n label refl
calls-kept st (Rule feeder train) trains = λ n label was now. kept-calls st (effect st (Rule feeder train)) n label refl
