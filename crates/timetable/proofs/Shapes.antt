-- What a message leaves of the events that changes the calls of a train, or which of its events take place.
use Rattle.timetable.proofs.Words.{◌≡◌, ℕ, suc, ◌+◌, ◌*◌, ◌<◌, ◌≤◌, true, nat_eq, nat_le, nat_lt, List, [], ◌∷◌, ◌++◌, Option, Some, None, map, length, length-append, slice_get}
use Rattle.timetable.proofs.Words.{refl, sym, ◌∙◌, ap, arith, inl, inr, ◌⊎◌, ◌≢◌, option_map_or, All, Contains, and_parts, not-false}
use Rattle.timetable.proofs.Words.{ltb-false, leb-true, map-append, append-nil, All-contains, Contains-append_left, Contains-append_right, Contains-append_cases, filter-append}
use Rattle.timetable.proofs.Words.{length-filter, count_by-le-length, slice_get_within, Node, NewCall, node_of, Network, Cancel, Reroute, Extra}
use Rattle.timetable.proofs.Words.{Call, Train, State, Event, effect, change_train, change_calls, kill_in, stretch, new_calls, new_train, rerouted, begin_run, end_run, events}
use Rattle.timetable.proofs.Words.{events_at, events_of, events_from, calls_of, live_events, IsWellFormed, IsSmallCall, refusal, refused_if, stands_before, are_at_stops, IsTrain}
use Rattle.timetable.proofs.Words.{IsValid, events_at-train, IsLiveAt, accepted-by, or-none, refused-none, contains-change, contains-unmap, mapping-events, events-from_each, trains-each}
use Rattle.timetable.proofs.Words.{events_at-each, StoredTimes, time_of, has_time, no_time, with_train_times, with_labels, message_of_shape, next_labels, HasTimesFor, HasRoomFor, changed_train, ◌-◌}
use Rattle.timetable.proofs.Words.{with_made}
use Rattle.train_nodes.specs.declared.kinds.Shape.{Shape}
use Rattle.train_nodes.specs.declared.kinds.Shape.TheVariants as Shapes
use Rattle.delay_model.specs.declared.messages.Refusal.TheVariants.{Full}
use Rattle.delay_model.specs.declared.messages.Short.TheVariants.{Trains, Calls}
use Rattle.std.proofs.lemmas.Bool.{eqb-false}
use Rattle.state_laws.proofs.Added.{events-push}
use Rattle.state_laws.proofs.Cancelled.{cancel-mapping}
use Rattle.state_laws.proofs.Cancels.{kill_at}
use Rattle.state_laws.proofs.Extras.{IsFreshCall, made, new-fresh}
use Rattle.state_laws.proofs.Swapped.{swap-of}
use Rattle.train_nodes.proofs.TimeLemmas.{pushed-old, pushed-new, added-old, added-new}
use Rattle.timetable.proofs.{Sized.next_of, Sized.sized-trains, Sized.sized-at, Sized.sized-push, Sized.sized-more, Sized.labels-kept}

-- an event that a message makes: there was none of its name, and a time that no event has is kept for it
pub record IsMade (es : List Event) (times : StoredTimes) (w : Event) : Type 0 where
  pub unknown : (v : Event) → Contains es v → node_of v.key ≢ node_of w.key
  pub blank : time_of times (node_of w.key) ≡ Some no_time

-- after a message that changes or adds the train n
pub record IsReshaped (old new : State) (n : ℕ) (times after : StoredTimes) : Type 0 where
  pub known : (w : Event) → Contains (events new) w → w.live ≡ true → IsLiveAt (events old) w.key ⊎ IsMade (events old) after w
  pub others : (v : Event) → Contains (events old) v → v.key.train ≢ n → Contains (events new) v
  pub fewer : length (live_events (events new)) + 2 * new.spare_calls ≤ length (live_events (events old)) + 2 * old.spare_calls
  pub has_times : HasTimesFor new after
  pub kept : (m : Node) → has_time times m ≡ true → time_of after m ≡ time_of times m

pub live-count : (es fs : List Event) → length (live_events (es ++ fs)) ≡ length (live_events es) + length (live_events fs)
live-count es fs = rw (filter-append, length-append) refl

pub live-le : (es : List Event) → length (live_events es) ≤ length es
live-le es = omega (arith, length-filter (λ (v : Event). v.live) es, count_by-le-length (λ (v : Event). v.live) es)

pub events-count : (n route : ℕ) (cs : List Call) → length (events_at n route cs) ≡ 2 * length cs
events-count n route [] = refl
events-count n route (c ∷ cs) = omega (arith, events-count n route cs)

-- where none becomes live, there are no more live events
fewer-live : (h : Event → Event) → ((v : Event) → (h v).live ≡ true → v.live ≡ true) → (es : List Event) → length (live_events (map h es)) ≤ length (live_events es)
fewer-live h lives [] = omega arith
fewer-live h lives (v ∷ vs) = grind (arith, lives v, fewer-live h lives vs)

-- the events of other trains stay
others-stay : (st : State) (n : ℕ) (f : Train → Train) (v : Event) → Contains (events st) v → v.key.train ≢ n → Contains (events_from 0 (change_train n f st.trains)) v
unfolding events
others-stay st n f v h ne =
    contains-change f 0 n st.trains v v h (λ _. refl) (λ at t e got own.
    let here : v.key.train ≡ at = All-contains (λ v. v.key.train ≡ at) (events_of at t) v (events_at-train at t.route t.calls) own in
    absurd (ne (omega arith)))

cancel-reshaped : (st : State) (n from to : ℕ) (times : StoredTimes) → HasTimesFor st times → IsReshaped st (effect st (Cancel n from to)) n times times
unfolding effect events
cancel-reshaped st n from to times has =
    let es = stretch st n from to in
    let new = effect st (Cancel n from to) in
    let h = kill_at es in
    let m = cancel-mapping st n from to in
    let is_new = mapping-events st new n (kill_in es n) h m in
    record {
      known = λ w hw live.
          let r = contains-unmap h (events st) w (rw is_new at hw) in
          inl (r.0, r.1, sym (m.mapped.keys r.0) ∙ ap (λ (v : Event). v.key) r.2, m.mapped.lives r.0 (ap (λ (v : Event). v.live) r.2 ∙ live));
      others = others-stay st n (change_calls (map (kill_in es n)));
      fewer = let le = fewer-live h m.mapped.lives (events st) in let e = ap (λ vs. length (live_events vs)) is_new in omega arith;
      has_times = record { sized = rw (labels-kept n (change_calls (map (kill_in es n))) st.trains (λ t. refl)) has.sized; spare_trains = has.spare_trains; spare_calls = has.spare_calls };
      kept = λ m h. refl;
    }

-- an event of the train n under a label in a range
record IsWithin (n low high : ℕ) (v : Event) : Type 0 where
  pub train : v.key.train ≡ n
  pub from : low ≤ v.key.label
  pub below : v.key.label < high

within-each : (n low high route : ℕ) (cs : List Call) → All (IsFreshCall low high) cs → All (IsWithin n low high) (events_at n route cs)
within-each n low high route cs h =
    events_at-each (IsWithin n low high) (IsFreshCall low high) n route (λ c f. (record { train = refl; from = f.from; below = f.below }, record { train = refl; from = f.from; below = f.below })) cs h

-- the labels of a train's events are used
used-below : (st : State) (n : ℕ) (t : Train) → All IsTrain st.trains → slice_get st.trains n ≡ Some t → All (λ v. v.key.train ≡ n → v.key.label < t.next_label) (events st)
unfolding events
used-below st n t trains got =
    let P : Event → Type 0 = λ v. v.key.train ≡ n → v.key.label < t.next_label in
    events-from_each P 0 st.trains (λ i at u e own.
    let here : (c : Call) → c.label < u.next_label → at ≡ n → c.label < t.next_label =
    λ c l same. let j : i ≡ n = omega arith in let own = rw j at own in grind arith
    in
    events_at-each P (λ c. c.label < u.next_label) at u.route (λ c l. (here c l, here c l)) u.calls (trains-each IsTrain st.trains trains i i u (omega arith) own).used)

train-of : (o : Option Train) (from to : ℕ) → stands_before from to (option_map_or (λ (t : Train). t.calls) o []) ≡ true → (t : Train) × (o ≡ Some t)
train-of None from to h = absurd (cc)
train-of (Some t) from to h = (t, refl)

pub length-new : (label : ℕ) (cs : List NewCall) → length (new_calls label cs) ≡ length cs
length-new label [] = refl
length-new label (c ∷ cs) = ap suc (length-new (label + 1) cs)

pub spare-of : (spare n : ℕ) → refused_if (nat_lt spare n) (Full Calls) ≡ None → n ≤ spare
spare-of spare n h = ltb-false spare n (refused-none (nat_lt spare n) (Full Calls) h)

-- for the calls of an extra train there is room
pub extra-room : (nw : Network) (st : State) (n day route : ℕ) (cs : List NewCall) → refusal nw st (Extra n day route cs) ≡ None → length cs ≤ st.spare_calls
extra-room nw st n day route cs h =
    spare-of st.spare_calls (length cs) (or-none (refused_if (nat_eq st.spare_trains 0) (Full Trains)) _ (accepted-by nw st (Extra n day route cs) h).room).1

reroute-reshaped : (nw : Network) (st : State) (n from to : ℕ) (via : List NewCall) (times : StoredTimes) → IsValid nw st → All IsSmallCall via → refusal nw st (Reroute n from to via) ≡ None → HasTimesFor st times → IsReshaped st (effect st (Reroute n from to via)) n times (with_labels n (length via) times)
unfolding effect events
reroute-reshaped nw st n from to via times valid small h has =
    let s = swap-of nw st n from to via valid small h in
    let t = s.train in
    let low = t.next_label in
    let high = low + length via in
    let back = s.next ∷ s.rest in
    let is_made : s.made ≡ events_at n t.route (new_calls low via) = rw (← s.is_made, s.got) refl in
    let old_live : (w : Event) → w.live ≡ true → Contains (s.front ++ (s.mid ++ back)) w → IsLiveAt (events st) w.key = λ w live c. (w, rw s.old c, refl, live) in
    let enough : length via ≤ st.spare_calls = spare-of st.spare_calls (length via) (accepted-by nw st (Reroute n from to via) h).room in
    record {
      known = λ w hw live.
          elim (Contains-append_cases s.front (s.made ++ back) w (rw s.new at hw)) [
            | inl front ↦ inl (old_live w live (Contains-append_left s.front (s.mid ++ back) w front))
            | inr later ↦ elim (Contains-append_cases s.made back w later) [
              | inl fresh ↦
                  let f = All-contains (IsWithin n low high) (events_at n t.route (new_calls low via)) w (within-each n low high t.route (new_calls low via) (new-fresh low high via (omega arith) small)) (rw is_made at fresh) in
                  inr (record {
                    unknown = λ v hv same.
                        grind (arith, All-contains (λ v. v.key.train ≡ n → v.key.label < low) (events st) v (used-below st n t valid.trains s.got) hv, f.train, f.from);
                    blank = added-new n (length via) times (node_of w.key) low f.train (sized-at st times n t has.sized s.got) f.from f.below;
                  })
              | inr behind ↦ inl (old_live w live (Contains-append_right s.front (s.mid ++ back) w (Contains-append_right s.mid back w behind)))
            ]
          ];
      others = others-stay st n (rerouted from to via);
      fewer =
          let made = ap length is_made in
          let old = ap (λ vs. length (live_events vs)) s.old in
          let now = ap (λ vs. length (live_events vs)) s.new in
          let a = live-count s.front (s.mid ++ back) in let b = live-count s.mid back in
          let c = live-count s.front (s.made ++ back) in let d = live-count s.made back in
          omega (arith, live-le s.made, events-count n t.route (new_calls low via), length-new low via);
      has_times = record { sized = sized-more st.trains times n (length via) (rerouted from to via) (λ t. refl) has.sized; spare_trains = has.spare_trains; spare_calls = ap (λ x. x - length via) has.spare_calls };
      kept = λ m. added-old n (length via) times m;
    }

length-begin : (cs : List Call) → length (begin_run cs) ≡ length cs
length-begin [] = refl
length-begin (c ∷ cs) = refl

length-end : (cs : List Call) → length (end_run cs) ≡ length cs
length-end [] = refl
length-end (c ∷ []) = refl
length-end (c ∷ d ∷ ds) = ap suc (length-end (d ∷ ds))

pub length-extra : (cs : List NewCall) → length (begin_run (end_run (new_calls 0 cs))) ≡ length cs
length-extra cs = length-begin (end_run (new_calls 0 cs)) ∙ length-end (new_calls 0 cs) ∙ length-new 0 cs

-- the number of an extra train is the next one
next-number : (nw : Network) (st : State) (n day route : ℕ) (cs : List NewCall) → refusal nw st (Extra n day route cs) ≡ None → n ≡ length st.trains
next-number nw st n day route cs h =
    let a = accepted-by nw st (Extra n day route cs) h in
    omega (arith, leb-true n (length st.trains) (and_parts (nat_le n (length st.trains)) (are_at_stops nw cs) (not-false _ a.known)).0, ltb-false n (length st.trains) a.new)

-- each event is of one of the trains
numbers-below : (st : State) → All (λ v. v.key.train < length st.trains) (events st)
unfolding events
numbers-below st =
    events-from_each (λ v. v.key.train < length st.trains) 0 st.trains (λ i at t e got.
    let less = slice_get_within st.trains i t got in
    λ j d l. let own = events_at-train at t.route t.calls j d l in omega arith)

extra-reshaped : (nw : Network) (st : State) (n day route : ℕ) (cs : List NewCall) (times : StoredTimes) → All IsSmallCall cs → refusal nw st (Extra n day route cs) ≡ None → HasTimesFor st times → IsReshaped st (effect st (Extra n day route cs)) n times (with_train_times (length cs) times)
unfolding effect events
extra-reshaped nw st n day route cs times small h has =
    let t = new_train day route cs in
    let at = next-number nw st n day route cs h in
    let es = events st in
    let es_new = events_of n t in
    let is_new : events_from 0 (st.trains ++ t ∷ []) ≡ es ++ es_new = rw (events-push 0 n st.trains t (omega arith), append-nil) refl in
    let enough = extra-room nw st n day route cs h in
    let long = sized-trains st times has.sized in
    record {
      known = λ w hw live.
          elim (Contains-append_cases es es_new w (rw is_new at hw)) [
            | inl old ↦ inl (w, old, refl, live)
            | inr fresh ↦
                let f = All-contains (IsWithin n 0 (length cs)) es_new w (within-each n 0 (length cs) route t.calls (made cs small).fresh) fresh in
                let own = f.train in
                inr (record {
                  unknown = λ v hv same. grind (arith, All-contains (λ v. v.key.train < length st.trains) es v (numbers-below st) hv, f.train);
                  blank = pushed-new (length cs) times (node_of w.key) (omega arith) f.below;
                })
          ];
      others = λ v hv _. rw is_new (Contains-append_left es es_new v hv);
      fewer =
          let own = ap (λ vs. length (live_events vs)) is_new in
          omega (arith, live-count es es_new, live-le es_new, events-count n route t.calls, length-extra cs);
      has_times = record { sized = rw (map-append next_of st.trains (t ∷ [])) (sized-push (next_labels st) times (length cs) has.sized); spare_trains = ap (λ x. x - 1) has.spare_trains; spare_calls = ap (λ x. x - length cs) has.spare_calls };
      kept = λ m. pushed-old (length cs) times m;
    }

pub reshaped : (nw : Network) (st : State) (s : Shape) (times : StoredTimes) → let m = message_of_shape s in IsValid nw st → IsWellFormed m → refusal nw st m ≡ None → HasTimesFor st times → IsReshaped st (effect st m) (changed_train s) times (with_made s times)
reshaped nw st (Shapes.Cancel n from to) times valid well h sized = cancel-reshaped st n from to times sized
reshaped nw st (Shapes.Reroute n from to via) times valid well h sized = reroute-reshaped nw st n from to via.now times valid well h sized
reshaped nw st (Shapes.Extra n day route cs) times valid well h sized = extra-reshaped nw st n day route cs.now times well.1 h sized

-- the train whose calls a rerouting replaces is there
rerouted-there : (nw : Network) (st : State) (n from to : ℕ) (via : List NewCall) → refusal nw st (Reroute n from to via) ≡ None → (t : Train) × (slice_get st.trains n ≡ Some t)
rerouted-there nw st n from to via h =
    train-of (slice_get st.trains n) from to (and_parts (stands_before from to (calls_of st n)) _ (not-false _ (accepted-by nw st (Reroute n from to via) h).known)).0

-- for the events that an accepted message makes there is room
pub room-for : (nw : Network) (st : State) (s : Shape) (times : StoredTimes) → let m = message_of_shape s in IsWellFormed m → refusal nw st m ≡ None → HasTimesFor st times → HasRoomFor times s
room-for nw st (Shapes.Cancel n from to) times well h has = tt
room-for nw st (Shapes.Reroute n from to via) times well h has =
    let r = rerouted-there nw st n from to via.now h in
    let less = slice_get_within st.trains n r.0 r.1 in
    let enough = spare-of st.spare_calls (length via.now) (accepted-by nw st (Reroute n from to via.now) h).room in
    (omega (arith, sized-trains st times has.sized), omega (arith, has.spare_calls))
room-for nw st (Shapes.Extra n day route calls) times well h has =
    let both = or-none (refused_if (nat_eq st.spare_trains 0) (Full Trains)) _ (accepted-by nw st (Extra n day route calls.now) h).room in
    let train = eqb-false st.spare_trains 0 (refused-none (nat_eq st.spare_trains 0) (Full Trains) both.0) in
    let enough = spare-of st.spare_calls (length calls.now) both.1 in
    (omega (arith, has.spare_trains), omega (arith, well.0), omega (arith, has.spare_calls))
