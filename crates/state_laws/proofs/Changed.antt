-- One train is changed, or the values of its events are.
use Rattle.state_laws.proofs.Words.{◌≡◌, ℕ, zero, suc, ◌+◌, ◌<◌, ◌≤◌, true, false, List, [], ◌∷◌, Option, Some, None, map, refl, ◌∙◌, ap, arith, inl, inr, ◌≢◌, All-append, All-nil, All-map}
use Rattle.state_laws.proofs.Words.{All-weaker, All-contains, All-contains_itself, elements, cases_eq, IfSome_then, All, Contains, slice_get, IfSome, Opts, edges_along, edge_on}
use Rattle.state_laws.proofs.Words.{change_train, change_calls, events, events_at, events_of, events_from, train_events, arrival_of, departure_of, live_report, IsValid, IsForward, IsSmall}
use Rattle.state_laws.proofs.Words.{IsRun, HasDistinctLabels, HasReportsInOrder, AreReportedFrom, Network, Call, Edge, Event, State, Train, events_at-train}
pub use Rattle.std.proofs.lemmas.List.Folds.{map_fixed as map-same}
use Rattle.state_laws.proofs.Parts.{AtEach, each-tail, each-from, each-none, events-from_each, events-each, valid-good, IsGood, IsUnreported, All-left, All-right}

-- a mapped list contains what its elements are mapped to
pub Contains-map : {X Y : Type 0} (f : X → Y) (xs : List X) (x : X) → Contains xs x → Contains (map f xs) (f x)
Contains-map f xs x h = grind (arith, elements)

-- the train that is changed, and the others
pub get-own : (f : Train → Train) (n : ℕ) (ts : List Train) (t : Train) → slice_get ts n ≡ Some t → slice_get (change_train n f ts) n ≡ Some (f t)
get-own f n [] t h = absurd (cc)
get-own f zero (u ∷ us) t h = grind arith
get-own f (suc n) (u ∷ us) t h = get-own f n us t h

pub get-other : (f : Train → Train) (n k : ℕ) (ts : List Train) → k ≢ n → slice_get (change_train n f ts) k ≡ slice_get ts k
get-other f n k [] ne = refl
get-other f zero zero (t ∷ ts) ne = absurd (ne refl)
get-other f zero (suc k) (t ∷ ts) ne = refl
get-other f (suc n) zero (t ∷ ts) ne = refl
get-other f (suc n) (suc k) (t ∷ ts) ne = get-other f n k ts (λ e. ne (ap suc e))

-- what holds of each train holds after one is changed, if the changed one keeps it
each-change : (Q : ℕ → Train → Type 0) (f : Train → Train) (first n : ℕ) (ts : List Train) → AtEach Q first ts → ((at : ℕ) (t : Train) → at ≡ first + n → slice_get ts n ≡ Some t → Q at t → Q at (f t)) → AtEach Q first (change_train n f ts)
each-change Q f first n [] h k = each-none Q first
each-change Q f first zero (t ∷ ts) h k =
    each-from Q first (f t) ts (k first t (omega arith) refl (h 0 first t (omega arith) refl)) (each-tail Q first t ts h)
each-change Q f first (suc n) (t ∷ ts) h k =
    each-from Q first t _ (h 0 first t (omega arith) refl) (each-change Q f (first + 1) n ts (each-tail Q first t ts h) (λ at u e s. k at u (omega arith) s))

pub later-trains : (first : ℕ) (ts : List Train) → All (λ v. first ≤ v.key.train) (events_from first ts)
later-trains first ts = events-from_each (λ v. first ≤ v.key.train) first ts (λ k at t e s. grind (arith, events_at-train))

-- what becomes of an event where one train is changed
pub contains-change : (f : Train → Train) (first n : ℕ) (ts : List Train) (v w : Event) → Contains (events_from first ts) v → (v.key.train ≢ first + n → w ≡ v) → ((at : ℕ) (t : Train) → at ≡ first + n → slice_get ts n ≡ Some t → Contains (events_of at t) v → Contains (events_of at (f t)) w) → Contains (events_from first (change_train n f ts)) w
contains-change f first n ts v w h other own =
    let us = change_train n f ts in
    let New : Event → Type 0 = Contains (events_from first us) in
    let new = events-each New first us (All-contains_itself (events_from first us)) in
    All-contains (λ x. x ≡ v → New w) (events_from first ts) v (events-from_each (λ x. x ≡ v → New w) first ts (λ k at t e got.
    All-weaker (Contains (events_of at t)) (λ x. x ≡ v → New w) (λ x c is. elim (cases_eq k n) [
      | inl same ↦ let here = rw same at got in All-contains New (events_of at (f t)) w (new k at (f t) e (rw same (get-own f n ts t here))) (own at t (omega arith) here (rw is at c))
      | inr differs ↦
          let number : x.key.train ≡ at = All-contains (λ v. v.key.train ≡ at) (events_of at t) x (events_at-train at t.route t.calls) c in
          let q : x.key.train ≡ v.key.train = ap (λ (v : Event). v.key.train) is in
          rw (other (λ own_train. differs (omega arith)), ← is) (All-contains New (events_of at t) x (new k at t e (get-other f n k ts differs ∙ got)) c)
    ]) (events_of at t) (All-contains_itself (events_of at t)))) h refl

-- what holds of the events of the train with a number, if there is one
pub train_events-each : (st : State) (n : ℕ) (P : Event → Type 0) → ((t : Train) → slice_get st.trains n ≡ Some t → All P (events_of n t)) → All P (train_events st n)
train_events-each st n P h = grind (arith, All-nil)

-- the events of a train are events of the state
pub train_events-there : (st : State) (n : ℕ) → All (Contains (events st)) (train_events st n)
unfolding events
train_events-there st n =
    train_events-each st n (Contains (events st)) (λ t e. events-each (Contains (events st)) 0 st.trains (All-contains_itself (events st)) n n t (omega arith) e)

-- the trains of a valid state stay good where one is changed to a good one
pub good-change : (nw : Network) (st : State) (n : ℕ) (f : Train → Train) → IsValid nw st → ((t : Train) → slice_get st.trains n ≡ Some t → IsGood nw n t → IsGood nw n (f t)) → AtEach (IsGood nw) 0 (change_train n f st.trains)
good-change nw st n f valid keeps = each-change (IsGood nw) f 0 n st.trains (valid-good nw st valid) (λ at t e got good. grind arith)

-- the values of calls change as those of events do, which keep their keys. None becomes live
pub record IsMapped (n : ℕ) (g : Call → Call) (h : Event → Event) : Type 0 where
  pub arrivals : (route : ℕ) (c : Call) → arrival_of n route (g c) ≡ h (arrival_of n route c)
  pub departures : (route : ℕ) (c : Call) → departure_of n route (g c) ≡ h (departure_of n route c)
  pub keys : (v : Event) → (h v).key ≡ v.key
  pub lives : (v : Event) → (h v).live ≡ true → v.live ≡ true

pub events_at-mapped : (n : ℕ) (g : Call → Call) (h : Event → Event) (route : ℕ) (cs : List Call) → IsMapped n g h → events_at n route (map g cs) ≡ map h (events_at n route cs)
events_at-mapped n g h route [] m = refl
events_at-mapped n g h route (c ∷ cs) m = grind (arith, m.arrivals, m.departures, events_at-mapped n g h route cs)

-- so the events of the state that has the changed train are the changed ones
pub contains-mapped : (st : State) (n : ℕ) (g : Call → Call) (h : Event → Event) → IsMapped n g h → ((v : Event) → v.key.train ≢ n → h v ≡ v) → (v : Event) → Contains (events st) v → Contains (events_from 0 (change_train n (change_calls (map g)) st.trains)) (h v)
unfolding events
contains-mapped st n g h m others v hv =
    contains-change (change_calls (map g)) 0 n st.trains v (h v) hv (λ ne. others v (λ e. ne (omega arith))) (λ at t e got c.
    let same : at ≡ n = omega arith in rw (same, events_at-mapped n g h t.route t.calls m) (Contains-map h (events_of n t) v (rw same at c)))

-- reports stay in order where each stays, or is one no more
pub order-fewer : (h : Event → Event) → ((v : Event) (P : Option ℕ → Type 0) → P None → P (live_report v) → P (live_report (h v))) → (es : List Event) → HasReportsInOrder es → HasReportsInOrder (map h es)
order-fewer h keep [] order = tt
order-fewer h keep (v ∷ vs) order = (
  keep v (λ o. IfSome o (λ r. AreReportedFrom r (map h vs))) tt (IfSome_then (live_report v) order.0 (λ r all.
      let P : Event → Type 0 = λ v. IfSome (live_report v) (λ s. r ≤ s) in
      All-map P h vs (All-weaker P (λ w. P (h w)) (λ w p. keep w (λ o. IfSome o (λ s. r ≤ s)) tt p) vs all))),
  order-fewer h keep vs order.1,
)

label-kept : (n : ℕ) (g : Call → Call) (h : Event → Event) → IsMapped n g h → (c : Call) → (g c).label ≡ c.label
label-kept n g h m c = grind (arith, m.arrivals 0 c, m.keys)

distinct-mapped : (g : Call → Call) → ((c : Call) → (g c).label ≡ c.label) → (cs : List Call) → HasDistinctLabels cs → HasDistinctLabels (map g cs)
distinct-mapped g same [] h = tt
distinct-mapped g same (c ∷ cs) h = (All-map (λ d. (g c).label ≢ d.label) g cs (λ k d l. rw (same c, same _) (h.0 k d l)), distinct-mapped g same cs h.1)

pub along-mapped : (n : ℕ) (g : Call → Call) (h : Event → Event) → IsMapped n g h → (o : Opts) (P : Edge → Type 0) (es : List Event) → All P (edges_along o es) → All P (edges_along o (map h es))
along-mapped n g h m o P [] all = All-nil P
along-mapped n g h m o P (u ∷ []) all = All-nil P
along-mapped n g h m o P (u ∷ v ∷ vs) all =
    let here = All-left P (edge_on o u (v ∷ vs)) _ all in
    All-append P (edge_on o (h u) (h v ∷ map h vs)) _ (rw (m.keys u, m.keys v) (let lu = m.lives u in let lv = m.lives v in grind (arith, All-nil P)))
    (along-mapped n g h m o P (v ∷ vs) (All-right P (edge_on o u (v ∷ vs)) _ all))

-- the order of the reports does not depend on the number of the train
abbrev renumber : ℕ → Event → Event
renumber n v = record v { key = record (v.key) { train = n } }

numbered : (m n route : ℕ) (cs : List Call) → events_at n route cs ≡ map (renumber n) (events_at m route cs)
numbered m n route [] = refl
numbered m n route (c ∷ cs) = rw (numbered m n route cs)

pub ordered-number : (m n route : ℕ) (cs : List Call) → HasReportsInOrder (events_at m route cs) → HasReportsInOrder (events_at n route cs)
ordered-number m n route cs h = rw (numbered m n route cs) (order-fewer (renumber n) (λ v P _ p. p) _ h)

-- a good train whose events' values are changed is good, if run, reports and values are
pub good-mapped : (nw : Network) (n : ℕ) (g : Call → Call) (h : Event → Event) (t : Train) → IsMapped n g h → IsGood nw n t → IsRun false (map g t.calls) → HasReportsInOrder (map h (events_of n t)) → All (λ v. IsUnreported (h v)) (events_of n t) → All (λ v. IsSmall (h v)) (events_of n t) → IsGood nw n (change_calls (map g) t)
good-mapped nw n g h t m good run reports unreported small =
    let same = events_at-mapped n g h t.route t.calls m in
    let labels = label-kept n g h m in
    record {
      train = record {
        labels = distinct-mapped g labels t.calls good.train.labels;
        used = All-map (λ c. c.label < t.next_label) g t.calls (λ k d l. rw labels (good.train.used k d l));
        run = run;
        reports = λ number. ordered-number n number t.route (map g t.calls) (rw same reports);
      };
      forward = rw same (along-mapped n g h m nw.opts IsForward (events_of n t) good.forward);
      unreported = rw same (All-map IsUnreported h (events_of n t) unreported);
      small = rw same (All-map IsSmall h (events_of n t) small);
    }
