-- Which call of a train comes after which, and what a message leaves of that.
use Rattle.state_laws.proofs.Words.{◌≡◌, ◌≢◌, ℕ, zero, suc, ◌+◌, ◌<◌, ◌≤◌, ◌⊎◌, Bool, true, false, List, [], ◌∷◌, ◌++◌, Option, Some, None, length, map, is_some, refl, sym, ◌∙◌, ap, subst, arith, elements, inl, inr}
use Rattle.state_laws.proofs.Words.{cases_Bool, cases_eq, eqb-true, eq-eqb, All, All-nil, All-cons, find, slice_get, option_map, option_map_or, nat_eq, nat_le, NewCall, Node, EventValues, Call, Train, State, Network}
use Rattle.state_laws.proofs.Words.{Message, Report, Forecast, Correct, Withdraw, Cancel, Reroute, Extra, Keep, Drop, Rule, effect, with_event, change_train, change_calls, change_event, change_labelled, is_call, kill_in, new_train, append_assoc, nat_lt, ◌-◌, ◌||◌, All-append}
use Rattle.state_laws.proofs.Words.{after, before, up_to, stretch, new_call, new_calls, rerouted, with_report, with_forecast, calls_of, HasDistinctLabels, IsRun, IsTrain, refusal, leb-true, ltb-false, not-false, and_from, and_parts, slice_get_within, ◌&&◌}
use Rattle.std.proofs.lemmas.Bool.{cases_lt}
use Rattle.std.proofs.lemmas.Bool.Decides.{nat_tests}
use Rattle.state_laws.proofs.Stretches.{All-from, All-up_to}
use Rattle.delay_model.specs.Cuts as Cuts
use Rattle.state_laws.proofs.Accepted.{accepted-by}
use Rattle.state_laws.proofs.Changed.{get-other}
use Rattle.state_laws.proofs.Parts.{trains-each}
use Rattle.state_laws.proofs.Words.{are_at_stops, is_live, node_at, stands_before}
use Rattle.train_nodes.proofs.EventLemmas.{live-there}
use Rattle.timetable.specs.Linking.{CanBeLinked, HasRejoined, is_relinked, used_labels}
use Rattle.train_nodes.specs.Calls.{first_label, has_call, label_after, label_before, last_label}

-- the call after that of a label is this one
abbrev pub IsNextCall : List Call → ℕ → Call → Type 0
IsNextCall cs l d = slice_get (after (is_call l) cs) 0 ≡ Some d

-- a label that is found below is not that of a call with a label of its own
apart-from : (x : Call) (cs : List Call) (l : ℕ) → All (λ d. x.label ≢ d.label) cs → is_some (find (is_call l) cs) ≡ true → nat_eq x.label l ≡ false
apart-from x [] l h found = absurd (cc)
apart-from x (c ∷ cs) l h found = grind (arith, nat_tests, h 0 c (omega arith), apart-from x cs l (λ i d m. h (suc i) d (omega arith)))

-- of calls with labels of their own each is found by its label
pub own-found : (cs : List Call) → HasDistinctLabels cs → All (λ c. find (is_call c.label) cs ≡ Some c) cs
own-found [] h = All-nil _
own-found (c ∷ cs) h = let rest = own-found cs h.1 in let apart = h.0 in grind (arith, elements)

-- what holds of each holds of the call after another
pub next-each : (P : Call → Type 0) (cs : List Call) (l : ℕ) (d : Call) → All P cs → IsNextCall cs l d → P d
next-each P [] l d h next = absurd (cc)
next-each P (c ∷ []) l d h next = absurd (grind arith)
next-each P (c ∷ e ∷ cs) l d h next = grind (arith, h 1 e (omega arith), next-each P (e ∷ cs) l d (λ i x m. h (suc i) x (omega arith)))

-- the call after another is found by its label
pub next-found : (cs : List Call) (l : ℕ) (d : Call) → HasDistinctLabels cs → IsNextCall cs l d → find (is_call d.label) cs ≡ Some d
next-found cs l d h next = next-each (λ c. find (is_call c.label) cs ≡ Some c) cs l d (own-found cs h) next

-- a call that has one after it is there
pub next-there : (cs : List Call) (l : ℕ) (d : Call) → IsNextCall cs l d → is_some (find (is_call l) cs) ≡ true
next-there [] l d next = absurd (cc)
next-there (c ∷ cs) l d next = grind (arith, next-there cs l d)

-- no call comes after one that is not there
pub after-none : (cs : List Call) (l : ℕ) → is_some (find (is_call l) cs) ≡ false → label_after cs l ≡ None
after-none [] l none = refl
after-none (c ∷ cs) l none = grind (arith, after-none cs l)

-- a label after another is that of a call
pub next-call : (cs : List Call) (l m : ℕ) → label_after cs l ≡ Some m → (d : Call) × (IsNextCall cs l d) × (d.label ≡ m)
next-call cs l m h = grind arith

-- after a live departure comes a live arrival
pub live-next : (b : Bool) (cs : List Call) (l : ℕ) (c : Call) → IsRun b cs → find (is_call l) cs ≡ Some c → c.departure.live ≡ true → (d : Call) × (IsNextCall cs l d) × (d.arrival.live ≡ true)
live-next b [] l c run h live = absurd (cc)
live-next b (x ∷ []) l c run h live = absurd (grind arith)
live-next b (x ∷ y ∷ ys) l c run h live =
    elim (cases_Bool (is_call l x)) [
      | inl hit ↦ let e = rw hit at h in (y, rw hit refl, grind arith)
      | inr miss ↦ rw miss (live-next x.departure.live (y ∷ ys) l c run.1 (rw miss at h) live)
    ]

-- before a live arrival comes a live departure
pub live-before : (b : Bool) (cs : List Call) (l : ℕ) (d : Call) → IsRun b cs → HasDistinctLabels cs → IsNextCall cs l d → d.arrival.live ≡ true → (c : Call) × (find (is_call l) cs ≡ Some c) × (c.departure.live ≡ true)
live-before b [] l d run own next live = absurd (cc)
live-before b (x ∷ []) l d run own next live = absurd (grind arith)
live-before b (x ∷ y ∷ ys) l d run own next live =
    elim (cases_Bool (is_call l x)) [
      | inl hit ↦ let e = rw hit at next in (x, rw hit refl, grind arith)
      | inr miss ↦ rw miss (live-before x.departure.live (y ∷ ys) l d run.1 own.1 (rw miss at next) live)
    ]

some-last : (x : Call) (xs : List Call) → last_label (x ∷ xs) ≡ None → ⊥
some-last x [] h = absurd (cc)
some-last x (y ∷ ys) h = some-last y ys h

-- the first arrival alone is live as the run begins
pub first-arrival : (b : Bool) (cs : List Call) (l : ℕ) (d : Call) → IsRun b cs → find (is_call l) cs ≡ Some d → label_before cs l ≡ None → d.arrival.live ≡ b
first-arrival b [] l d run h none = absurd (cc)
first-arrival b (x ∷ xs) l d run h none =
    elim (cases_Bool (is_call l x)) [
      | inl hit ↦ let e = rw hit at h in grind arith
      | inr miss ↦ absurd (some-last x (before (is_call l) xs) (rw miss at none))
    ]

-- the label before that of the next call
pub after-before : (cs : List Call) (l : ℕ) (d : Call) → HasDistinctLabels cs → IsNextCall cs l d → label_before cs d.label ≡ Some l
after-before [] l d h next = absurd (cc)
after-before (c ∷ []) l d h next = absurd (grind arith)
after-before (c ∷ e ∷ cs) l d h next = grind (arith, nat_tests, h.0 0 e (omega arith), apart-from c (e ∷ cs) d.label h.0, next-found (e ∷ cs) l d h.1, after-before (e ∷ cs) l d h.1)

pub before-after : (cs : List Call) (l : ℕ) (d : Call) → HasDistinctLabels cs → find (is_call d.label) cs ≡ Some d → label_before cs d.label ≡ Some l → IsNextCall cs l d
before-after [] l d h found prev = absurd (cc)
before-after (c ∷ []) l d h found prev = absurd (grind arith)
before-after (c ∷ e ∷ cs) l d h found prev = grind (arith, nat_tests, apart-from c (e ∷ cs) l h.0, next-there (e ∷ cs) l d, before-after (e ∷ cs) l d h.1)

-- the next call of lists one after the other
next-append : (xs ys : List Call) (l : ℕ) (d : Call) → IsNextCall (xs ++ ys) l d → IsNextCall xs l d ⊎ ((slice_get ys 0 ≡ Some d) ⊎ IsNextCall ys l d)
next-append [] ys l d h = inr (inr h)
next-append (x ∷ []) ys l d h =
    elim (cases_Bool (is_call l x)) [ inl hit ↦ inr (inl (rw hit at h)) | inr miss ↦ inr (inr (rw miss at h)) ]
next-append (x ∷ z ∷ xs) ys l d h =
    elim (cases_Bool (is_call l x)) [ inl hit ↦ inl (rw hit (rw hit at h)) | inr miss ↦ rw miss (next-append (z ∷ xs) ys l d (rw miss at h)) ]

-- in the first part of a list, and in the last part
next-up_to : (q : Call → Bool) (cs : List Call) (l : ℕ) (d : Call) → IsNextCall (up_to q cs) l d → IsNextCall cs l d
next-up_to q [] l d h = h
next-up_to q (c ∷ []) l d h = absurd (grind arith)
next-up_to q (c ∷ e ∷ cs) l d h = grind (arith, next-up_to q (e ∷ cs) l d)

next-from : (q : Call → Bool) (cs : List Call) (l : ℕ) (d : Call) → HasDistinctLabels cs → IsNextCall (Cuts.from q cs) l d → IsNextCall cs l d
next-from q [] l d own h = h
next-from q (c ∷ cs) l d own h = grind (arith, next-from q cs l d own.1, next-there cs l d, apart-from c cs l own.0)

first-from : (l : ℕ) (cs : List Call) (d : Call) → slice_get (Cuts.from (is_call l) cs) 0 ≡ Some d → d.label ≡ l
first-from l [] d h = absurd (cc)
first-from l (c ∷ cs) d h = grind (arith, nat_tests, first-from l cs d)

-- new calls have labels that were not used
new-labels : (low label : ℕ) (via : List NewCall) → low ≤ label → All (λ (c : Call). low ≤ c.label) (new_calls label via)
new-labels low label [] le = All-nil (λ (c : Call). low ≤ c.label)
new-labels low label (c ∷ via) le = All-cons (λ (c : Call). low ≤ c.label) (new_call label c) (new_calls (label + 1) via) le (new-labels low (label + 1) via (omega arith))

none-found : (cs : List Call) (low label : ℕ) → low ≤ label → All (λ (c : Call). c.label < low) cs → is_some (find (is_call label) cs) ≡ false
none-found [] low label le used = refl
none-found (c ∷ cs) low label le used = let here = used 0 c (omega arith) in let rest = none-found cs low label le (λ i d l. used (suc i) d (omega arith)) in grind arith

first-each : (P : Call → Type 0) (cs : List Call) (d : Call) → All P cs → slice_get cs 0 ≡ Some d → P d
first-each P [] d h e = absurd (cc)
first-each P (c ∷ cs) d h e = grind (arith, h 0 c (omega arith))

-- along a rerouted train a call that was there comes after the one that it came after, but for the first one after the new calls
route-from : (from to : ℕ) (via : List NewCall) (t : Train) (l : ℕ) (d : Call) → IsTrain t → IsNextCall (rerouted from to via t).calls l d → is_some (find (is_call d.label) t.calls) ≡ true → IsNextCall t.calls l d ⊎ (d.label ≡ to)
route-from from to via t l d is next was =
    let A = up_to (is_call from) t.calls in
    let B = new_calls t.next_label via in
    let C = Cuts.from (is_call to) t.calls in
    let made = new-labels t.next_label t.next_label via (omega arith) in
    let never : t.next_label ≤ d.label → ⊥ = λ le. let no = none-found t.calls t.next_label d.label le is.used in cc in
    elim (next-append (A ++ B) C l d next) [
      | inl early ↦ elim (next-append A B l d early) [
        | inl a ↦ inl (next-up_to (is_call from) t.calls l d a)
        | inr b ↦ elim b [
          | inl first ↦ absurd (never (first-each (λ (c : Call). t.next_label ≤ c.label) B d made first))
          | inr next ↦ absurd (never (next-each (λ (c : Call). t.next_label ≤ c.label) B l d made next))
        ]
      ]
      | inr late ↦ elim late [
        | inl first ↦ inr (first-from to t.calls d first)
        | inr next ↦ inl (next-from (is_call to) t.calls l d is.labels next)
      ]
    ]

-- what stays of a call: its label and stop and who may alight; and what is live was live
pub record IsCallLeft (c d : Call) : Type 0 where
  pub label : d.label ≡ c.label
  pub stop : d.stop ≡ c.stop
  pub alight : d.alight ≡ c.alight
  pub arrives : d.arrival.live ≡ true → c.arrival.live ≡ true
  pub departs : d.departure.live ≡ true → c.departure.live ≡ true

-- what stays of a line: which call comes after which, and each call
pub record IsLineLeft (cs ds : List Call) : Type 0 where
  pub next : (l : ℕ) → label_after ds l ≡ label_after cs l
  pub calls : (l : ℕ) (d : Call) → find (is_call l) ds ≡ Some d → (c : Call) × (find (is_call l) cs ≡ Some c) × IsCallLeft c d

line-same : (cs ds : List Call) → ds ≡ cs → IsLineLeft cs ds
line-same cs ds same = record {
  next = λ l. rw same refl;
  calls = λ l d found. (d, rw same at found, record { label = refl; stop = refl; alight = refl; arrives = λ h. h; departs = λ h. h });
}

after-map : (g : Call → Call) → ((c : Call) → (g c).label ≡ c.label) → (cs : List Call) (l : ℕ) → after (is_call l) (map g cs) ≡ map g (after (is_call l) cs)
after-map g same [] l = refl
after-map g same (c ∷ cs) l = grind (arith, same c, after-map g same cs l)

find-map : (g : Call → Call) → ((c : Call) → (g c).label ≡ c.label) → (cs : List Call) (l : ℕ) → find (is_call l) (map g cs) ≡ option_map g (find (is_call l) cs)
find-map g same [] l = refl
find-map g same (c ∷ cs) l = grind (arith, same c, find-map g same cs l)

first-map : (g : Call → Call) → ((c : Call) → (g c).label ≡ c.label) → (cs : List Call) → first_label (map g cs) ≡ first_label cs
first-map g same [] = refl
first-map g same (c ∷ cs) = ap Some (same c)

of-map : (g : Call → Call) (o : Option Call) (d : Call) → option_map g o ≡ Some d → (c : Call) × (o ≡ Some c) × (d ≡ g c)
of-map g None d h = absurd (cc)
of-map g (Some c) d h = grind arith

line-mapped : (g : Call → Call) → ((c : Call) → IsCallLeft c (g c)) → (cs : List Call) → IsLineLeft cs (map g cs)
line-mapped g left cs =
    let same : (c : Call) → (g c).label ≡ c.label = λ c. (left c).label in
    record {
      next = λ l. ap first_label (after-map g same cs l) ∙ first-map g same (after (is_call l) cs);
      calls = λ l d found. let w = of-map g (find (is_call l) cs) d (sym (find-map g same cs l) ∙ found) in (w.0, w.1, subst (IsCallLeft w.0) (sym w.2) (left w.0));
    }

-- the train whose calls a message replaces, or which it adds
abbrev pub is_reshaped : Message → ℕ → Bool
is_reshaped (Reroute train from to via) t = nat_eq t train
is_reshaped (Extra train day route calls) t = nat_eq t train
is_reshaped _ t = false

-- the call to which new calls lead
abbrev pub is_rejoined : Message → ℕ → ℕ → Bool
is_rejoined (Reroute train from to via) t l = nat_eq t train && nat_eq l to
is_rejoined _ t l = false

change-own : (f : Train → Train) (n : ℕ) (ts : List Train) → slice_get (change_train n f ts) n ≡ option_map f (slice_get ts n)
change-own f n [] = refl
change-own f zero (t ∷ ts) = refl
change-own f (suc n) (t ∷ ts) = change-own f n ts

abbrev calls_in : Option Train → List Call
calls_in o = option_map_or (λ (t : Train). t.calls) o []

calls-changed : (g : List Call → List Call) (o : Option Train) → g [] ≡ [] → calls_in (option_map (change_calls g) o) ≡ g (calls_in o)
calls-changed g None e = sym e
calls-changed g (Some t) e = refl

-- the line of each train, where the calls of one are changed
line-change : (st new : State) (n t : ℕ) (g : Call → Call) → ((c : Call) → IsCallLeft c (g c)) → new.trains ≡ change_train n (change_calls (map g)) st.trains → IsLineLeft (calls_of st t) (calls_of new t)
line-change st new n t g left is =
    elim (cases_eq t n) [
      | inl same ↦ rw (is, same, change-own (change_calls (map g)) n st.trains, calls-changed (map g) (slice_get st.trains n) refl) (line-mapped g left (calls_of st n))
      | inr differs ↦ line-same (calls_of st t) (calls_of new t) (rw (is, get-other (change_calls (map g)) n t st.trains differs) refl)
    ]

more-train : (ts : List Train) (u : Train) (k : ℕ) → k ≢ length ts → slice_get (ts ++ u ∷ []) k ≡ slice_get ts k
more-train [] u zero differs = absurd (differs refl)
more-train [] u (suc k) differs = refl
more-train (t ∷ ts) u zero differs = refl
more-train (t ∷ ts) u (suc k) differs = more-train ts u k (λ e. differs (ap suc e))

event-left : (n : Node) (f : EventValues → EventValues) → ((e : EventValues) → (f e).live ≡ e.live) → (c : Call) → IsCallLeft c (change_labelled n.label (change_event n.dep f) c)
event-left n f lives c = grind (arith, lives c.arrival, lives c.departure)

line-event : (st : State) (n : Node) (f : EventValues → EventValues) → ((e : EventValues) → (f e).live ≡ e.live) → (t : ℕ) → IsLineLeft (calls_of st t) (calls_of (with_event n f st) t)
line-event st n f lives t = line-change st (with_event n f st) n.train t (change_labelled n.label (change_event n.dep f)) (event-left n f lives) refl

differ-of : (a b : ℕ) → nat_eq a b ≡ false → a ≢ b
differ-of a b h e = let same = eq-eqb a b e in absurd (cc)

-- a message leaves the line of each train whose calls it does not replace
pub line-left : (nw : Network) (st : State) (m : Message) → refusal nw st m ≡ None → (t : ℕ) → is_reshaped m t ≡ false → IsLineLeft (calls_of st t) (calls_of (effect st m) t)
unfolding effect
line-left nw st (Report n r) accepted t other = line-event st n (with_report (Some r)) (λ e. refl) t
line-left nw st (Forecast n r) accepted t other = line-event st n (with_forecast (Some r)) (λ e. refl) t
line-left nw st (Correct n o) accepted t other = line-event st n (with_report o) (λ e. refl) t
line-left nw st (Withdraw n) accepted t other = line-event st n (with_forecast None) (λ e. refl) t
line-left nw st (Cancel n from to) accepted t other =
    line-change st (effect st (Cancel n from to)) n t (kill_in (stretch st n from to) n) (λ c. grind arith) refl
line-left nw st (Reroute n from to via) accepted t other =
    line-same (calls_of st t) (calls_of (effect st (Reroute n from to via)) t) (ap calls_in (get-other (rerouted from to via) n t st.trains (differ-of t n other)))
line-left nw st (Extra n day route cs) accepted t other =
    let a = accepted-by nw st (Extra n day route cs) accepted in
    let low = leb-true n (length st.trains) (and_parts (nat_le n (length st.trains)) _ (not-false _ a.known)).0 in
    let high = ltb-false n (length st.trains) a.new in
    let number : n ≡ length st.trains = omega arith in
    line-same (calls_of st t) (calls_of (effect st (Extra n day route cs)) t) (ap calls_in (more-train st.trains _ t (rw number at (differ-of t n other))))
line-left nw st (Keep feeder train) accepted t other = line-same (calls_of st t) (calls_of (effect st (Keep feeder train)) t) refl
line-left nw st (Drop feeder train) accepted t other = line-same (calls_of st t) (calls_of (effect st (Drop feeder train)) t) refl
line-left nw st (Rule feeder train) accepted t other = line-same (calls_of st t) (calls_of (effect st (Rule feeder train)) t) refl

-- no more is known of the call after another
next-by : (st new : State) (t l m : ℕ) → IsLineLeft (calls_of st t) (calls_of new t) → label_after (calls_of new t) l ≡ Some m → label_after (calls_of st t) l ≡ Some m
next-by st new t l m left h = sym (left.next l) ∙ h

train-there : (o : Option Train) (p : List Call → Bool) → p [] ≡ false → p (calls_in o) ≡ true → (t : Train) × (o ≡ Some t)
train-there None p none h = absurd (cc)
train-there (Some t) p none h = (t, refl)

came-reshaped : (nw : Network) (st : State) (m : Message) → All IsTrain st.trains → refusal nw st m ≡ None → (t l k : ℕ) → is_reshaped m t ≡ true → label_after (calls_of (effect st m) t) l ≡ Some k → has_call st t k ≡ true → (label_after (calls_of st t) l ≡ Some k) ⊎ (is_rejoined m t k ≡ true)
unfolding effect
came-reshaped nw st (Reroute n from to via) trains accepted t l k mine next was =
    let same = eqb-true t n mine in
    let r = train-there (slice_get st.trains t) (λ cs. is_some (find (is_call k) cs)) refl was in
    let own = trains-each IsTrain st.trains trains t t r.0 (omega arith) r.1 in
    let calls : calls_of (effect st (Reroute n from to via)) t ≡ (rerouted from to via r.0).calls = ap calls_in (ap (λ k. slice_get (change_train n (rerouted from to via) st.trains) k) same ∙ change-own (rerouted from to via) n st.trains ∙ ap (λ k. option_map (rerouted from to via) (slice_get st.trains k)) (sym same) ∙ ap (option_map (rerouted from to via)) r.1) in
    let before : calls_of st t ≡ r.0.calls = ap calls_in r.1 in
    let d = next-call (rerouted from to via r.0).calls l k (rw calls at next) in
    elim (route-from from to via r.0 l d.0 own d.1 (rw (d.2, ← before) was)) [
      | inl stays ↦ inl (rw before (ap (option_map (λ (c : Call). c.label)) stays ∙ ap Some d.2))
      | inr joins ↦ inr (and_from (nat_eq t n) (nat_eq k to) mine (eq-eqb k to (sym d.2 ∙ joins)))
    ]
came-reshaped nw st (Extra n day route cs) trains accepted t l k mine next was =
    let same = eqb-true t n mine in
    let a = accepted-by nw st (Extra n day route cs) accepted in
    let high = ltb-false n (length st.trains) a.new in
    let r = train-there (slice_get st.trains t) (λ cs. is_some (find (is_call k) cs)) refl was in
    let low = slice_get_within st.trains t r.0 r.1 in
    absurd (omega arith)
came-reshaped nw st m trains accepted t l k mine next was = absurd (cc)

-- a call that was there comes after the one that it came after, but for the one to which new calls lead
pub came-from : (nw : Network) (st : State) (m : Message) → All IsTrain st.trains → refusal nw st m ≡ None → (t l k : ℕ) → label_after (calls_of (effect st m) t) l ≡ Some k → has_call st t k ≡ true → (label_after (calls_of st t) l ≡ Some k) ⊎ (is_rejoined m t k ≡ true)
came-from nw st m trains accepted t l k next was =
    elim (cases_Bool (is_reshaped m t)) [
      | inl mine ↦ came-reshaped nw st m trains accepted t l k mine next was
      | inr other ↦ inl (next-by st (effect st m) t l k (line-left nw st m accepted t other) next)
    ]

-- a label that comes after another is that of a call
pub label-there : (cs : List Call) (l m : ℕ) → label_after cs l ≡ Some m → is_some (find (is_call m) cs) ≡ true
label-there [] l m h = absurd (cc)
label-there (c ∷ []) l m h = absurd (grind arith)
label-there (c ∷ d ∷ cs) l m h = grind (arith, nat_tests, label-there (d ∷ cs) l m)

calls-own : (o : Option Train) → ((t : Train) → o ≡ Some t → IsTrain t) → HasDistinctLabels (calls_in o) × IsRun false (calls_in o)
calls-own None h = (tt, refl)
calls-own (Some t) h = let is = h t refl in (is.labels, is.run)

-- the labels of a train's calls differ, and what is live goes on
pub own-line : (st : State) → All IsTrain st.trains → (t : ℕ) → HasDistinctLabels (calls_of st t) × IsRun false (calls_of st t)
own-line st trains t = calls-own (slice_get st.trains t) (λ r got. trains-each IsTrain st.trains trains t t r (omega arith) got)

find-more : (p : Call → Bool) (xs ys : List Call) → is_some (find p ys) ≡ true → is_some (find p (xs ++ ys)) ≡ true
find-more p [] ys h = h
find-more p (x ∷ xs) ys h = let rest = find-more p xs ys h in elim (cases_Bool (p x)) [ inl hit ↦ rw hit refl | inr miss ↦ rw miss rest ]

find-from : (p : Call → Bool) (cs : List Call) → is_some (find p cs) ≡ true → is_some (find p (Cuts.from p cs)) ≡ true
find-from p [] h = h
find-from p (c ∷ cs) h = elim (cases_Bool (p c)) [ inl hit ↦ rw (hit, hit) refl | inr miss ↦ rw miss (find-from p cs (rw miss at h)) ]

-- the call to which new calls lead is there, before and after, and its arrival is live before
abbrev pub HasLiveRejoined : State → Message → Type 0
HasLiveRejoined st (Reroute train from to via) = is_live st (node_at train to false) ≡ true
HasLiveRejoined st _ = Unit {0}

pub rejoined-live : (nw : Network) (st : State) (m : Message) → refusal nw st m ≡ None → HasLiveRejoined st m
rejoined-live nw st (Reroute n from to via) accepted =
    let known = and_parts (stands_before from to (calls_of st n)) _ (not-false _ (accepted-by nw st (Reroute n from to via) accepted).known) in
    (and_parts (is_live st (node_at n from true)) (is_live st (node_at n to false)) (and_parts (is_live st (node_at n from true) && is_live st (node_at n to false)) (are_at_stops nw via) known.1).0).1
rejoined-live nw st m accepted = tt

pub rejoined-old : (nw : Network) (st : State) (m : Message) → refusal nw st m ≡ None → HasRejoined st m
rejoined-old nw st (Reroute n from to via) accepted = live-there st (node_at n to false) (rejoined-live nw st (Reroute n from to via) accepted)
rejoined-old nw st m accepted = tt

pub rejoined-by : (nw : Network) (st : State) (m : Message) → refusal nw st m ≡ None → HasRejoined (effect st m) m
unfolding effect
rejoined-by nw st (Reroute n from to via) accepted =
    let was = rejoined-old nw st (Reroute n from to via) accepted in
    let r = train-there (slice_get st.trains n) (λ cs. is_some (find (is_call to) cs)) refl was in
    let calls : calls_of (effect st (Reroute n from to via)) n ≡ (rerouted from to via r.0).calls = ap calls_in (change-own (rerouted from to via) n st.trains ∙ ap (option_map (rerouted from to via)) r.1) in
    let own : is_some (find (is_call to) r.0.calls) ≡ true = ap (λ cs. is_some (find (is_call to) cs)) (sym (ap calls_in r.1)) ∙ was in
    ap (λ cs. is_some (find (is_call to) cs)) calls ∙ find-more (is_call to) (up_to (is_call from) r.0.calls ++ new_calls r.0.next_label via) (Cuts.from (is_call to) r.0.calls) (find-from (is_call to) r.0.calls own)
rejoined-by nw st m accepted = tt

-- the call after another one, but for the one with which the first part of a list ends, is in that part or in what follows
front-first : (p : Call → Bool) (cs ds : List Call) → is_some (find p cs) ≡ true → slice_get (up_to p cs ++ ds) 0 ≡ slice_get cs 0
front-first p [] ds h = absurd (cc)
front-first p (c ∷ cs) ds h = grind arith

front-next : (from l : ℕ) (d : Call) (cs ds : List Call) → l ≢ from → is_some (find (is_call from) cs) ≡ true → IsNextCall (up_to (is_call from) cs ++ ds) l d → IsNextCall cs l d ⊎ IsNextCall ds l d
front-next from l d [] ds differs h next = absurd (cc)
front-next from l d (c ∷ cs) ds differs h next = grind (arith, nat_tests, front-first (is_call from) cs ds, front-next from l d cs ds differs)

-- labels that are all too great are passed over
pass-new : (low l : ℕ) (bs cs : List Call) → l < low → All (λ (c : Call). low ≤ c.label) bs → after (is_call l) (bs ++ cs) ≡ after (is_call l) cs
pass-new low l [] cs less high = refl
pass-new low l (b ∷ bs) cs less high = grind (arith, nat_tests, high 0 b (omega arith), pass-new low l bs cs less (λ i d m. high (suc i) d (omega arith)))

-- along a rerouted train a call that is neither new nor the one before the new ones is followed as it was
route-beside : (from to : ℕ) (via : List NewCall) (t : Train) (l : ℕ) (d : Call) → IsTrain t → is_some (find (is_call from) t.calls) ≡ true → l ≢ from → l < t.next_label → IsNextCall (rerouted from to via t).calls l d → IsNextCall t.calls l d
route-beside from to via t l d is there differs low next =
    let A = up_to (is_call from) t.calls in
    let B = new_calls t.next_label via in
    let C = Cuts.from (is_call to) t.calls in
    let made = new-labels t.next_label t.next_label via (omega arith) in
    let all : IsNextCall (A ++ (B ++ C)) l d = subst (λ cs. IsNextCall cs l d) (append_assoc A B C) next in
    elim (front-next from l d t.calls (B ++ C) differs there all) [
      | inl early ↦ early
      | inr late ↦ next-from (is_call to) t.calls l d is.labels (rw (pass-new t.next_label l B C low made) at late)
    ]

-- what is found by a test passes it, and is as all are
each-found : (P : Call → Type 0) (p : Call → Bool) (cs : List Call) (c : Call) → All P cs → find p cs ≡ Some c → P c × (p c ≡ true)
each-found P p [] c h e = absurd (cc)
each-found P p (x ∷ cs) c h e = grind (arith, h 0 x (omega arith), each-found P p cs c (λ i d m. h (suc i) d (omega arith)))

-- and a call with a label that was used before is the one that had it
route-found : (from to : ℕ) (via : List NewCall) (t : Train) (k : ℕ) (c : Call) → IsTrain t → k < t.next_label → find (is_call k) (rerouted from to via t).calls ≡ Some c → find (is_call k) t.calls ≡ Some c
route-found from to via t k c is low found =
    let P : Call → Type 0 = λ c. c.label < t.next_label → find (is_call c.label) t.calls ≡ Some c in
    let own : All P t.calls = λ i d l. λ less. own-found t.calls is.labels i d l in
    let made : All P (new_calls t.next_label via) = λ i d l. λ less. absurd (omega (arith, new-labels t.next_label t.next_label via (omega arith) i d l)) in
    let all : All P (rerouted from to via t).calls = All-append P _ _ (All-append P _ _ (All-up_to P (is_call from) t.calls own) made) (All-from P (is_call to) t.calls own) in
    let w = each-found P (is_call k) (rerouted from to via t).calls c all found in
    let label : c.label ≡ k = eqb-true c.label k w.1 in
    (subst (λ k. k < t.next_label → find (is_call k) t.calls ≡ Some c) label w.0) low

-- what is left beside a call: the call after it, and both calls
pub record IsBesideLeft (cs ds : List Call) (l : ℕ) (d : Call) : Type 0 where
  pub after : label_after cs l ≡ Some d.label
  pub calls : (k : ℕ) (c : Call) → (k ≡ l) ⊎ (k ≡ d.label) → find (is_call k) ds ≡ Some c → (a : Call) × (find (is_call k) cs ≡ Some a) × IsCallLeft a c

one-left : (c : Call) → IsCallLeft c c
one-left c = record { label = refl; stop = refl; alight = refl; arrives = λ h. h; departs = λ h. h }

found-below : (cs : List Call) (l end : ℕ) → All (λ (c : Call). c.label < end) cs → is_some (find (is_call l) cs) ≡ true → l < end
found-below cs l end used there = elim (cases_lt l end) [ inl less ↦ less | inr more ↦ let no = none-found cs end l more used in absurd (cc) ]

not-relinked : (l from first count end : ℕ) → end ≡ first + count → (nat_eq l from || (nat_le (end - count) l && nat_lt l end)) ≡ false → l < end → (l ≢ from) × (l < first)
not-relinked l from first count end e h less = grind (arith, nat_tests, h)

beside-rerouted : (nw : Network) (st : State) (n from to : ℕ) (via : List NewCall) → All IsTrain st.trains → All IsTrain (effect st (Reroute n from to via)).trains → refusal nw st (Reroute n from to via) ≡ None → (l : ℕ) (d : Call) → (nat_eq l from || (nat_le (used_labels (effect st (Reroute n from to via)) n - length via) l && nat_lt l (used_labels (effect st (Reroute n from to via)) n))) ≡ false → IsNextCall (calls_of (effect st (Reroute n from to via)) n) l d → IsBesideLeft (calls_of st n) (calls_of (effect st (Reroute n from to via)) n) l d
unfolding effect
beside-rerouted nw st n from to via trains now accepted l d miss next =
    let m = Reroute n from to via in
    let was = rejoined-old nw st m accepted in
    let r = train-there (slice_get st.trains n) (λ cs. is_some (find (is_call to) cs)) refl was in
    let own = trains-each IsTrain st.trains trains n n r.0 (omega arith) r.1 in
    let got : slice_get (change_train n (rerouted from to via) st.trains) n ≡ Some (rerouted from to via r.0) = change-own (rerouted from to via) n st.trains ∙ ap (option_map (rerouted from to via)) r.1 in
    let is = trains-each IsTrain (change_train n (rerouted from to via) st.trains) now n n (rerouted from to via r.0) (omega arith) got in
    let after : IsNextCall (rerouted from to via r.0).calls l d = rw (ap calls_in got) at next in
    let end : l < r.0.next_label + length via = found-below (rerouted from to via r.0).calls l (r.0.next_label + length via) is.used (next-there (rerouted from to via r.0).calls l d after) in
    let apart = not-relinked l from r.0.next_label (length via) (r.0.next_label + length via) refl (subst (λ o. (nat_eq l from || (nat_le (option_map_or (λ (t : Train). t.next_label) o 0 - length via) l && nat_lt l (option_map_or (λ (t : Train). t.next_label) o 0))) ≡ false) got miss) end in
    let known = and_parts (stands_before from to (calls_of st n)) _ (not-false _ (accepted-by nw st m accepted).known) in
    let departs = (and_parts (is_live st (node_at n from true)) (is_live st (node_at n to false)) (and_parts (is_live st (node_at n from true) && is_live st (node_at n to false)) (are_at_stops nw via) known.1).0).0 in
    let stands : is_some (find (is_call from) (calls_of st n)) ≡ true = live-there st (node_at n from true) departs in
    let before = route-beside from to via r.0 l d own (rw (ap calls_in r.1) at stands) apart.0 apart.1 after in
    record {
      after = rw (ap calls_in r.1) (ap (option_map (λ (c : Call). c.label)) before);
      calls = λ k c which found.
          let low : k < r.0.next_label = elim which [ inl e ↦ rw e apart.1 | inr e ↦ rw e (next-each (λ c. c.label < r.0.next_label) r.0.calls l d own.used before) ] in
          (c, rw (ap calls_in r.1) (route-found from to via r.0 k c own low (rw (ap calls_in got) at found)), one-left c);
    }

line-beside : (cs ds : List Call) (l : ℕ) (d : Call) → IsLineLeft cs ds → IsNextCall ds l d → IsBesideLeft cs ds l d
line-beside cs ds l d left next = record { after = sym (left.next l) ∙ ap (option_map (λ (c : Call). c.label)) next; calls = λ k c which found. left.calls k c found }

beside-reshaped : (nw : Network) (st : State) (m : Message) → All IsTrain st.trains → All IsTrain (effect st m).trains → refusal nw st m ≡ None → (t l : ℕ) (d : Call) → is_reshaped m t ≡ true → is_relinked (effect st m) m t l ≡ false → IsNextCall (calls_of (effect st m) t) l d → IsBesideLeft (calls_of st t) (calls_of (effect st m) t) l d
beside-reshaped nw st (Reroute n from to via) trains now accepted t l d mine miss next =
    let new = effect st (Reroute n from to via) in
    let same = eqb-true t n mine in
    let inner = rw mine at miss in
    subst (λ t. IsNextCall (calls_of new t) l d → IsBesideLeft (calls_of st t) (calls_of new t) l d) (sym same) (beside-rerouted nw st n from to via trains now accepted l d inner) next
beside-reshaped nw st (Extra n day route cs) trains now accepted t l d mine miss next =
    let new = effect st (Extra n day route cs) in
    let same = eqb-true t n mine in
    let inner : nat_lt l (used_labels new n) ≡ false = rw mine at miss in
    let own : IsNextCall (calls_of new n) l d = subst (λ t. IsNextCall (calls_of new t) l d) same next in
    let r = train-there (slice_get new.trains n) (λ cs. is_some (find (is_call l) cs)) refl (next-there (calls_of new n) l d own) in
    let is = trains-each IsTrain new.trains now n n r.0 (omega arith) r.1 in
    let less : l < r.0.next_label = found-below r.0.calls l r.0.next_label is.used (subst (λ o. is_some (find (is_call l) (calls_in o)) ≡ true) r.1 (next-there (calls_of new n) l d own)) in
    let not : nat_lt l r.0.next_label ≡ false = subst (λ o. nat_lt l (option_map_or (λ (t : Train). t.next_label) o 0) ≡ false) r.1 inner in
    absurd (grind (arith, nat_tests, less, not))
beside-reshaped nw st m trains now accepted t l d mine miss next = absurd (cc)

-- where the calls of a departure are not linked, nothing changed beside its call
pub beside-left : (nw : Network) (st : State) (m : Message) → All IsTrain st.trains → All IsTrain (effect st m).trains → refusal nw st m ≡ None → (t l : ℕ) (d : Call) → is_relinked (effect st m) m t l ≡ false → IsNextCall (calls_of (effect st m) t) l d → IsBesideLeft (calls_of st t) (calls_of (effect st m) t) l d
beside-left nw st m trains now accepted t l d miss next =
    elim (cases_Bool (is_reshaped m t)) [
      | inl mine ↦ beside-reshaped nw st m trains now accepted t l d mine miss next
      | inr other ↦ line-beside (calls_of st t) (calls_of (effect st m) t) l d (line-left nw st m accepted t other) next
    ]

more-length : (ts : List Train) (u : Train) → length (ts ++ u ∷ []) ≡ suc (length ts)
more-length [] u = refl
more-length (t ∷ ts) u = ap suc (more-length ts u)

-- the calls that a message makes can be linked
pub linked-by : (nw : Network) (st : State) (m : Message) → refusal nw st m ≡ None → CanBeLinked (effect st m) m
unfolding effect
linked-by nw st (Reroute n from to via) accepted =
    let was = rejoined-old nw st (Reroute n from to via) accepted in
    let r = train-there (slice_get st.trains n) (λ cs. is_some (find (is_call to) cs)) refl was in
    let got : slice_get (change_train n (rerouted from to via) st.trains) n ≡ Some (rerouted from to via r.0) = change-own (rerouted from to via) n st.trains ∙ ap (option_map (rerouted from to via)) r.1 in
    (slice_get_within (change_train n (rerouted from to via) st.trains) n (rerouted from to via r.0) got, rw got (omega arith))
linked-by nw st (Extra n day route cs) accepted =
    let a = accepted-by nw st (Extra n day route cs) accepted in
    let low = leb-true n (length st.trains) (and_parts (nat_le n (length st.trains)) _ (not-false _ a.known)).0 in
    omega (arith, low, more-length st.trains (new_train day route cs))
linked-by nw st m accepted = tt
