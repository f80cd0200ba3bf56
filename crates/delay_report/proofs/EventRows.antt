-- The rows of one event: its own, if it is live, or none.
use Rattle.std.proofs.Common.{◌≡◌, ℕ, Bool, true, false, cond, ◌&&◌, List, [], ◌∷◌, ◌++◌, Option, Some, None, find, slice_get, append_assoc, get_or, refl, sym, ◌∙◌, ap}
use Rattle.std.proofs.lemmas.Bool.{cond-false, false_from_ne_true, and_left}
use Rattle.std.proofs.lemmas.Grind.{flat_map-append}
use Rattle.std.proofs.lemmas.List.{append-nil}
use Rattle.std.proofs.lemmas.List.Elements.{filter-append, All-head, All-tail, All-weaker, All-nil}
use Rattle.std.specs.List.{All, AllPairs, flat_map}
use Rattle.std.specs.Option.{option_map, option_map_or}
use Rattle.mt_base.specs.declared.keys.Key.{Key}
use Rattle.mt_base.specs.declared.keys.Node.{Node}
use Rattle.mt_base.specs.Order.{node_of}
use Rattle.mt_base.proofs.KeyLemmas.{same_node-is}
use Rattle.delay_model.specs.declared.network.Network.{Network}
use Rattle.delay_model.specs.declared.state.Train.{Train}
use Rattle.delay_model.specs.declared.state.State.{State}
use Rattle.delay_model.specs.declared.state.Event.{Event}
use Rattle.delay_model.specs.Events.{event_named, is_event, events_of, train_events, live_events}
use Rattle.delay_model.specs.Timing.{event_time}
use Rattle.delay_model.proofs.Apart.{AreApart, events_at-train, events_at-apart}
use Rattle.delay_model.proofs.Lists.{AllPairs-tail, AllPairs-after}
use Rattle.edge_rules.specs.Inside.{HasOwnLabels}
use Rattle.edge_rules.proofs.InLine.{self-found}
use Rattle.edge_rules.proofs.Neighbours.{own-labels}
use Rattle.schedule_build.specs.Directory.{Names}
use Rattle.timetable.specs.LiveTimes.{live_event, live_time}
use Rattle.delay_report.specs.Table.{row, fields, rows_of_events}

-- the rows of events that follow one another
pub rows-append : (names : Names) (times : Key → ℕ) (us vs : List Event) → rows_of_events names times (us ++ vs) ≡ rows_of_events names times us ++ rows_of_events names times vs
unfolding rows_of_events
rows-append names times us vs =
    ap (flat_map (λ v. row (fields names times v))) (filter-append (λ (v : Event). v.live) us vs)
    ∙ flat_map-append (λ v. row (fields names times v)) (live_events us) (live_events vs)

-- with the rows of some events, fewer are to come
pub rows-pass : (names : Names) (times : Key → ℕ) (start was now : List ℕ) (these left whole all : List Event)
    → now ≡ was ++ rows_of_events names times these → these ++ left ≡ whole → was ++ rows_of_events names times whole ≡ start ++ rows_of_events names times all
    → now ++ rows_of_events names times left ≡ start ++ rows_of_events names times all
rows-pass names times start was now these left whole all e is so_far =
    let rows = rows_of_events names times in
    ap (λ (xs : List ℕ). xs ++ rows left) e
    ∙ append_assoc was (rows these) (rows left)
    ∙ ap (λ (xs : List ℕ). was ++ xs) (sym (rows-append names times these left))
    ∙ ap (λ (es : List Event). was ++ rows es) is
    ∙ so_far

-- where no event is left, all rows are written
pub rows-end : (names : Names) (times : Key → ℕ) (start was : List ℕ) (left all : List Event)
    → left ≡ [] → was ++ rows_of_events names times left ≡ start ++ rows_of_events names times all → was ≡ start ++ rows_of_events names times all
unfolding rows_of_events
rows-end names times start was left all none so_far =
    sym (append-nil was) ∙ ap (λ (es : List Event). was ++ rows_of_events names times es) (sym none) ∙ so_far

-- a live event has a row
pub live-row : (names : Names) (times : Key → ℕ) (v : Event) (time : ℕ) → v.live ≡ true → times v.key ≡ time → rows_of_events names times (v ∷ []) ≡ row (fields names (λ _. time) v)
unfolding rows_of_events
live-row names times v time live is =
    ap (λ (b : Bool). flat_map (λ (w : Event). row (fields names times w)) (cond b (v ∷ []) [])) live
    ∙ append-nil (row (fields names times v))
    ∙ ap (λ (t : ℕ). row (fields names (λ _. t) v)) is

-- any other has none
pub dead-row : (names : Names) (times : Key → ℕ) (v : Event) → v.live ≡ false → rows_of_events names times (v ∷ []) ≡ []
unfolding rows_of_events
dead-row names times v dead = ap (λ (b : Bool). flat_map (λ (w : Event). row (fields names times w)) (cond b (v ∷ []) [])) dead

find-none : {X : Type 0} (p : X → Bool) (xs : List X) → All (λ x. p x ≡ false) xs → find p xs ≡ None
find-none p [] h = refl
find-none p (x ∷ xs) h =
    cond-false (p x) (Some x) (find p xs) (All-head (λ x. p x ≡ false) x xs h) ∙ find-none p xs (All-tail (λ x. p x ≡ false) x xs h)

found-step : (p : Bool) (e v : Event) (rest found : Option Event) → cond p (Some e) rest ≡ Some v → (p ≡ true → found ≡ None)
    → (p ≡ false → rest ≡ Some v → found ≡ cond v.live (Some v) None) → cond (p && e.live) (Some e) found ≡ cond v.live (Some v) None
found-step true e v rest found h none some =
    let same : e ≡ v = cc in
    ap (λ (o : Option Event). cond e.live (Some e) o) (none refl) ∙ ap (λ (w : Event). cond w.live (Some w) None) same
found-step false e v rest found h none some = some refl h

no-other : (n : Node) (e w : Event) → is_event n e ≡ true → AreApart e w → (is_event n w && w.live) ≡ false
no-other n e w is apart =
    and_left (is_event n w) w.live (false_from_ne_true (is_event n w) (λ same. apart (same_node-is (node_of e.key) n is ∙ sym (same_node-is (node_of w.key) n same))))

-- among events that differ by name, the live event of a name is the event of that name, if it is live
live-found : (n : Node) (es : List Event) (v : Event) → AllPairs AreApart es → find (is_event n) es ≡ Some v → find (λ v. is_event n v && v.live) es ≡ cond v.live (Some v) None
live-found n [] v apart h = absurd (cc)
live-found n (e ∷ es) v apart h =
    found-step (is_event n e) e v (find (is_event n) es) (find (λ v. is_event n v && v.live) es) h
    (λ is. find-none (λ v. is_event n v && v.live) es (All-weaker (AreApart e) (λ w. (is_event n w && w.live) ≡ false) (λ w other. no-other n e w is other) es (AllPairs-after AreApart [] e es apart)))
    (λ _ later. live-found n es v (AllPairs-tail AreApart e es apart) later)

live-at : (st : State) (n : Node) (v : Event) (o : Option Train)
    → All HasOwnLabels st.trains → slice_get st.trains n.train ≡ o → find (is_event n) (option_map_or (events_of n.train) o []) ≡ Some v
    → find (λ v. is_event n v && v.live) (option_map_or (events_of n.train) o []) ≡ cond v.live (Some v) None
live-at st n v None trains e h = absurd (cc)
live-at st n v (Some t) trains e h =
    live-found n (events_of n.train t) v (events_at-apart n.train t.route t.calls (own-labels st.trains n.train t trains e)) h

-- the live event of a name is the event of that name, if it is live
live-named : (st : State) (n : Node) (v : Event) → All HasOwnLabels st.trains → event_named st n ≡ Some v → live_event st n ≡ cond v.live (Some v) None
live-named st n v trains h = live-at st n v (slice_get st.trains n.train) trains refl h

timed : (f : Event → ℕ) (v : Event) (time : ℕ) (b : Bool) → v.live ≡ b → option_map f (cond b (Some v) None) ≡ Some time → (v.live ≡ true) × (f v ≡ time)
timed f v time true e h = (e, cc)
timed f v time false e h = absurd (cc)

untimed : (f : Event → ℕ) (v : Event) (b : Bool) → v.live ≡ b → option_map f (cond b (Some v) None) ≡ None → v.live ≡ false
untimed f v true e h = absurd (cc)
untimed f v false e h = e

-- an event that has a time is live, and that is its time
pub time-live : (nw : Network) (st : State) (n : Node) (v : Event) (time : ℕ)
    → All HasOwnLabels st.trains → event_named st n ≡ Some v → live_time nw st n ≡ Some time → (v.live ≡ true) × (event_time nw st v.key ≡ time)
time-live nw st n v time trains h t =
    let f : Event → ℕ = λ v. event_time nw st v.key in
    timed f v time v.live refl (sym (ap (option_map f) (live-named st n v trains h)) ∙ t)

-- an event that has none is not live
pub time-dead : (nw : Network) (st : State) (n : Node) (v : Event) → All HasOwnLabels st.trains → event_named st n ≡ Some v → live_time nw st n ≡ None → v.live ≡ false
time-dead nw st n v trains h t =
    let f : Event → ℕ = λ v. event_time nw st v.key in
    untimed f v v.live refl (sym (ap (option_map f) (live-named st n v trains h)) ∙ t)

-- each of these events is the one of its name
abbrev pub AreNamed : State → List Event → Type 0
AreNamed st es = All (λ v. event_named st (node_of v.key) ≡ Some v) es

named-in : (st : State) (train : ℕ) (o : Option Train) → All HasOwnLabels st.trains → slice_get st.trains train ≡ o → AreNamed st (option_map_or (events_of train) o [])
named-in st train None labels e = All-nil (λ (v : Event). event_named st (node_of v.key) ≡ Some v)
named-in st train (Some t) labels e =
    let es = events_of train t in
    let own = self-found es (events_at-apart train t.route t.calls (own-labels st.trains train t labels e)) in
    λ k d l.
    let v = get_or es k d in
    ap (λ n. find (is_event (node_of v.key)) (train_events st n)) (events_at-train train t.route t.calls k d l)
    ∙ ap (λ (r : Option Train). find (is_event (node_of v.key)) (option_map_or (events_of train) r [])) e
    ∙ own k d l

-- and so are the events of a train
pub all-named : (st : State) (train : ℕ) → All HasOwnLabels st.trains → AreNamed st (train_events st train)
all-named st train labels = named-in st train (slice_get st.trains train) labels refl
