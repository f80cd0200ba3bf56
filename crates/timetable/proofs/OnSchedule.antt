-- Where nothing but the schedule is known, each event takes place as scheduled.
use Rattle.timetable.proofs.Words.{◌≡◌, ◌+◌, ℕ, true, List, [], ◌∷◌, None, refl, sym, ◌∙◌, ap, arith, inl, inr, ◌⊎◌, All, All-contains, All-contains_itself, All-tail, Contains, Contains-cases, cases_Bool, get_or, and_parts}
use Rattle.timetable.proofs.Words.{suc, elements, false, Bool, ◌&&◌, ◌<◌, drop, length, Some, events-unique, events_from, train_events, Node, node_of, is_same_node, same_node-is, same_node-itself}
use Rattle.timetable.proofs.Words.{StoredTimes, time_of, has_time, GraphState, HasItsTime, HasTimesFor, live_keys}
use Rattle.timetable.proofs.Words.{Key, Event, State, Network, events, edges, incoming, event_time, IsValid, valid-graph, incoming-leads}
use Rattle.std.specs.List.{list_all}
use Rattle.std.specs.Bool.{if◌then◌else◌}
use Rattle.delay_model.specs.Timing.{cap, first_report, after_key, local}
use Rattle.delay_model.proofs.Bounds.{fold-le, fold-up}
use Rattle.delay_model.proofs.Solve.{event_time-is, timing-unique}
use Rattle.state_laws.proofs.Caps.{All-after_key}
use Rattle.std.proofs.lemmas.List.Folds.{list_all-append}
use Rattle.train_nodes.specs.Times.{with_time}
use Rattle.timetable.specs.Scheduled.{has_schedule_alone}
use Rattle.propagate.proofs.{Ordered.keyed-live, Sized.write-fits}
use Rattle.timetable.proofs.{Listing.train-first}

-- the event has neither a forecast nor a report
record IsPlain (v : Event) : Type 0 where
  forecast : v.forecast ≡ None
  report : v.report ≡ None

plain-all : (es : List Event) → list_all has_schedule_alone es ≡ true → All IsPlain es
plain-all [] h = λ i d l. absurd (omega arith)
plain-all (v ∷ vs) h =
    let both = and_parts (has_schedule_alone v) (list_all has_schedule_alone vs) h in
    let rest = plain-all vs both.1 in
    grind (arith, elements, rest)

unreported : (n : ℕ) (vs : List Event) → All IsPlain vs → first_report n vs ≡ None
unreported n [] h = refl
unreported n (v ∷ vs) h =
    let own = h 0 v (omega arith) in
    let rest = unreported n vs (λ i d l. h (suc i) d (omega arith)) in
    grind (arith, own, rest)

module _ (nw : Network) (st : State) (valid : IsValid nw st) (alone : list_all has_schedule_alone (events st) ≡ true) where
  abbrev scheduled : Key → ℕ
  scheduled k = k.time

  plain : All IsPlain (events st)
  plain = plain-all (events st) alone

  obeys : (v : Event) → Contains (events st) v → v.live ≡ true → v.key.time ≡ local (events st) (edges nw st) scheduled v
  unfolding local cap
  obeys v h live =
      let own = All-contains IsPlain (events st) v plain h in
      let none = unreported v.key.train (after_key v.key (events st)) (All-after_key IsPlain v.key (events st) plain) in
      let into = incoming (edges nw st) v.key in
      let leads = incoming-leads (events st) (edges nw st) (valid-graph nw st valid) v.key in
      let most = fold-le scheduled v.key.time into v.key.time (omega arith) (λ i d l _. (leads i d l).room) in
      let least = fold-up scheduled into v.key.time in
      rw (own.report, none, own.forecast) (grind (arith, most, least))

  pub time-scheduled : (v : Event) → Contains (events st) v → v.live ≡ true → event_time nw st v.key ≡ v.key.time
  time-scheduled v h live =
      ap (λ t. t v.key) (event_time-is nw st) ∙ sym (timing-unique (events st) (edges nw st) (valid-graph nw st valid) scheduled obeys v h live)

  pub key-scheduled : (k : Key) → Contains (live_keys (events st)) k → event_time nw st k ≡ k.time
  key-scheduled k h =
      let at = keyed-live (events st) k h in
      rw (← at.2) (time-scheduled at.0 at.1 at.3)

-- part of a walk: for these events a scheduled time is still to be stored, and for all other live ones it is stored
pub record IsScheduledBut (g : GraphState) (old times : StoredTimes) (left : List Key) : Type 0 where
  pub stored : (k : Key) → Contains (live_keys (events g.state)) k → Contains left k ⊎ (time_of times (node_of k) ≡ Some k.time)
  pub known : All (Contains (live_keys (events g.state))) left
  pub held : All (λ k. has_time times (node_of k) ≡ true) left
  pub has_times : (st : State) → HasTimesFor st old → HasTimesFor st times

pub none-scheduled : {g : GraphState} {old : StoredTimes} (keys : List Key) → keys ≡ live_keys (events g.state) → All (λ k. has_time old (node_of k) ≡ true) (live_keys (events g.state)) → IsScheduledBut g old old keys
none-scheduled {g} keys is held = rw is (record { stored = λ k h. inl h; known = All-contains_itself (live_keys (events g.state)); held = held; has_times = λ st h. h })

module _ {g : GraphState} (valid : IsValid g.network g.state) {old times : StoredTimes} where
  -- one event more
  pub scheduled-more : {k : Key} {left : List Key} → IsScheduledBut g old times (k ∷ left) → (new : StoredTimes) → new ≡ with_time (node_of k) k.time times → ((m : Node) → time_of new m ≡ (if is_same_node (node_of k) m then Some k.time else time_of times m)) → IsScheduledBut g old new left
  scheduled-more {k} {left} h new is time =
      let es = events g.state in
      let own = keyed-live es k (h.known 0 k (omega arith)) in
      record {
        stored = λ q hq. elim (cases_Bool (is_same_node (node_of k) (node_of q))) [
          | inl same ↦
              let at = keyed-live es q hq in
              let one = events-unique g.state valid.trains own.0 at.0 own.1 at.1 (ap node_of own.2 ∙ same_node-is _ _ same ∙ ap node_of (sym at.2)) in
              let keys : k ≡ q = sym own.2 ∙ ap (λ (v : Event). v.key) one ∙ at.2 in
              inr (rw (time (node_of q), same) (ap (λ (x : Key). Some x.time) keys))
          | inr other ↦ elim (h.stored q hq) [
            | inl there ↦ elim (Contains-cases k left q there) [ inl is ↦ absurd (let own = same_node-itself (node_of k) in let other = rw (← is) at other in cc) | inr later ↦ inl later ]
            | inr done ↦ inr (rw (time (node_of q), other) done)
          ]
        ];
        known = All-tail (Contains (live_keys es)) k left h.known;
        held = λ i d l. rw (time (node_of (get_or left i d))) (let held = h.held (suc i) d (omega arith) in grind arith);
        has_times = λ st hs. rw is (write-fits st times (node_of k) k.time (h.has_times st hs));
      }

  pub all-scheduled : IsScheduledBut g old times [] → list_all has_schedule_alone (events g.state) ≡ true → All (HasItsTime g.network g.state times) (live_keys (events g.state))
  all-scheduled h alone = λ i d l.
      let keys = live_keys (events g.state) in
      let k = get_or keys i d in
      let there = All-contains_itself keys i d l in
      elim (h.stored k there) [ inl none ↦ absurd (let l = none.1 in omega arith) | inr done ↦ done ∙ ap Some (sym (key-scheduled g.network g.state valid alone k there)) ]

-- ---- the events train by train

alone-from : (st : State) (n : ℕ) → n < length st.trains → list_all has_schedule_alone (events_from n (drop n st.trains)) ≡ (list_all has_schedule_alone (train_events st n) && list_all has_schedule_alone (events_from (n + 1) (drop (n + 1) st.trains)))
alone-from st n l =
    let r = train-first st.trains n l in
    rw (r.2, list_all-append, r.1) refl

pub one-fails : (st : State) (n m : ℕ) → n < length st.trains → m ≡ n → list_all has_schedule_alone (events_from n (drop n st.trains)) ≡ list_all has_schedule_alone (events st) → (b : Bool) → b ≡ list_all has_schedule_alone (train_events st m) → b ≡ false → false ≡ list_all has_schedule_alone (events st)
one-fails st n m l same whole b own fails = rw (← whole, alone-from st n l) (let here = rw same at own in grind (arith, here, fails))

pub one-passes : (st : State) (n m : ℕ) → n < length st.trains → m ≡ n → list_all has_schedule_alone (events_from n (drop n st.trains)) ≡ list_all has_schedule_alone (events st) → (b : Bool) → b ≡ list_all has_schedule_alone (train_events st m) → b ≡ true → list_all has_schedule_alone (events_from (n + 1) (drop (n + 1) st.trains)) ≡ list_all has_schedule_alone (events st)
one-passes st n m l same whole b own passes = rw (← whole, alone-from st n l) (let here = rw same at own in grind (arith, here, passes))
