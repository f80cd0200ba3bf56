-- Which live events a message takes away, and which it makes.
use Rattle.timetable.proofs.Words.{◌≡◌, ◌≢◌, ◌⊎◌, ℕ, suc, ◌&&◌, ◌<◌, ◌≤◌, true, false, List, [], ◌∷◌, ◌++◌, None, Some, append-nil, get_or, map, refl, sym, ◌∙◌, ap, subst, arith, inl, inr}
use Rattle.timetable.proofs.Words.{cases_Bool, and_parts, not-false, false_from_ne_true, filter-append, All, All-contains, All-contains_itself, AllPairs, Contains, Contains-append_cases, Contains-append_left, Contains-append_right}
use Rattle.timetable.proofs.Words.{slice_get, slice_get_within, Contains-filter, node_of, is_same, same-is, Network, State, Event, Train, NewCall, Cancel, Reroute, Extra, events, events_of, train_events, live_events, calls_of, stands_before}
use Rattle.timetable.proofs.Words.{◌+◌, ◌*◌, length, Option, option_map_or, events_at, new_calls}
use Rattle.timetable.proofs.Words.{effect, new_train, stretch, is_live_key, live_only, IsTrain, IsValid, IsWellFormed, IsSmallCall, AreApart, refusal, events-apart, events_at-each, events_at-train, trains-each, accepted-by, message_of_shape}
use Rattle.train_nodes.specs.declared.kinds.Shape.{Shape}
use Rattle.train_nodes.specs.declared.kinds.Shape.TheVariants as Shapes
use Rattle.delay_model.specs.Effect.{events_between}
use Rattle.state_laws.proofs.Cancels.{kill_at}
use Rattle.state_laws.proofs.Extras.{events-push, extra-number, get-push}
use Rattle.state_laws.proofs.Placed.{train-there}
use Rattle.state_laws.proofs.Splits.{pairs-across}
use Rattle.state_laws.proofs.Swapped.{swap-of}
use Rattle.state_laws.proofs.Values.{any-there, pairs-right}
use Rattle.state_laws.proofs.Parts.{All-left}
use Rattle.edge_rules.specs.Inside.{HasOwnLabels}
use Rattle.edge_rules.specs.Indexing.{entry_of}
use Rattle.edge_rules.proofs.EventChanges.{cancel-exchange, reroute-exchange, killed-entries, made}
use Rattle.timetable.specs.Marking.{leaving_of}
use Rattle.propagate.proofs.Named.{own-event}
use Rattle.timetable.proofs.{Changed.live-key, Shapes.events-count, Shapes.extra-room, Shapes.length-extra, Shapes.length-new, Shapes.live-le, Shapes.spare-of}

-- of a state's events some are taken out, and others put in their place, of which none that is live has the name of one that was there
pub record IsTurn (old new : State) (out put : List Event) : Type 0 where
  pub front : List Event
  pub back : List Event
  pub before : events old ≡ front ++ (out ++ back)
  pub after : events new ≡ front ++ (put ++ back)
  pub fresh : (w : Event) → Contains put w → w.live ≡ true → (v : Event) → Contains (events old) v → node_of v.key ≢ node_of w.key

-- of events that are all live elsewhere none is live here alone, and of others all are
only-none : (fs us : List Event) → All (λ v. v.live ≡ true → is_live_key fs v.key ≡ true) us → live_only us fs ≡ []
only-none fs [] h = refl
only-none fs (u ∷ us) h =
    let rest = only-none fs us (λ i d l. h (suc i) d (omega arith)) in
    elim (cases_Bool u.live) [ inl live ↦ rw (live, h 0 u (omega arith) live) rest | inr dead ↦ rw dead rest ]

only-all : (fs us : List Event) → All (λ v. v.live ≡ true → is_live_key fs v.key ≡ false) us → live_only us fs ≡ live_events us
only-all fs [] h = refl
only-all fs (u ∷ us) h =
    let rest = only-all fs us (λ i d l. h (suc i) d (omega arith)) in
    elim (cases_Bool u.live) [ inl live ↦ rw (live, h 0 u (omega arith) live, rest) refl | inr dead ↦ rw dead rest ]

only-mid : (fs front mid back : List Event) → All (λ v. v.live ≡ true → is_live_key fs v.key ≡ true) front → All (λ v. v.live ≡ true → is_live_key fs v.key ≡ false) mid → All (λ v. v.live ≡ true → is_live_key fs v.key ≡ true) back → live_only (front ++ (mid ++ back)) fs ≡ live_events mid
only-mid fs front mid back before here after =
    rw (filter-append, filter-append, filter-append, filter-append, only-none fs front before, only-all fs mid here, only-none fs back after) (append-nil (live_events mid))

module _ {old new : State} {out put : List Event} (trains : All IsTrain old.trains) (t : IsTurn old new out put) where
  abbrev es : List Event
  es = events old

  abbrev fs : List Event
  fs = events new

  -- an event of the new state was there or is put in
  pub was-or-put : (w : Event) → Contains fs w → Contains es w ⊎ Contains put w
  was-or-put w h =
      elim (Contains-append_cases t.front (put ++ t.back) w (rw t.after at h)) [
        | inl a ↦ inl (rw t.before (Contains-append_left t.front (out ++ t.back) w a))
        | inr b ↦ elim (Contains-append_cases put t.back w b) [
          | inl c ↦ inr c
          | inr d ↦ inl (rw t.before (Contains-append_right t.front (out ++ t.back) w (Contains-append_right out t.back w d)))
        ]
      ]

  there-live : (gs : List Event) (us : List Event) → All (Contains gs) us → All (λ v. v.live ≡ true → is_live_key gs v.key ≡ true) us
  there-live gs us h = λ i d l live. live-key gs (get_or us i d).key (get_or us i d, h i d l, refl, live)

  apart : AllPairs AreApart (t.front ++ (out ++ t.back))
  apart = subst (AllPairs AreApart) t.before (events-apart old trains)

  -- an event that is taken out is live no longer
  gone : All (λ v. v.live ≡ true → is_live_key fs v.key ≡ false) out
  gone = λ i d l live.
      let v = get_or out i d in
      let own : Contains es v = rw t.before (Contains-append_right t.front (out ++ t.back) v (Contains-append_left out t.back v (All-contains_itself out i d l))) in
      false_from_ne_true _ (λ is.
      let r = any-there (λ u. u.live && is_same u.key v.key) fs is in
      let w = r.0 in
      let both = and_parts w.live (is_same w.key v.key) r.2 in
      let name : node_of w.key ≡ node_of v.key = ap node_of (same-is w.key v.key both.1) in
      elim (Contains-append_cases t.front (put ++ t.back) w (subst (λ vs. Contains vs w) t.after r.1)) [
        | inl a ↦ All-left (AreApart w) out t.back (All-contains (λ x. All (AreApart x) (out ++ t.back)) t.front w (pairs-across AreApart t.front (out ++ t.back) apart) a) i d l name
        | inr b ↦ elim (Contains-append_cases put t.back w b) [
          | inl c ↦ t.fresh w c both.0 v own (sym name)
          | inr c ↦ All-contains (AreApart v) t.back w (pairs-across AreApart out t.back (pairs-right AreApart t.front (out ++ t.back) apart) i d l) c (sym name)
        ]
      ])

  -- and one that is put in was not live
  come : All (λ v. v.live ≡ true → is_live_key es v.key ≡ false) put
  come = λ i d l live.
      let v = get_or put i d in
      false_from_ne_true _ (λ is.
      let r = any-there (λ u. u.live && is_same u.key v.key) es is in
      t.fresh v (All-contains_itself put i d l) live r.0 r.1 (ap node_of (same-is r.0.key v.key (and_parts r.0.live (is_same r.0.key v.key) r.2).1)))

  pub taken-are : live_only es fs ≡ live_events out
  taken-are =
      ap (λ vs. live_only vs fs) t.before
      ∙ only-mid fs t.front out t.back (there-live fs t.front (λ i d l. rw t.after (Contains-append_left t.front (put ++ t.back) (get_or t.front i d) (All-contains_itself t.front i d l)))) gone
      (there-live fs t.back (λ i d l. rw t.after (Contains-append_right t.front (put ++ t.back) (get_or t.back i d) (Contains-append_right put t.back (get_or t.back i d) (All-contains_itself t.back i d l)))))

  pub made-are : live_only fs es ≡ live_events put
  made-are =
      ap (λ vs. live_only vs es) t.after
      ∙ only-mid es t.front put t.back (there-live es t.front (λ i d l. rw t.before (Contains-append_left t.front (out ++ t.back) (get_or t.front i d) (All-contains_itself t.front i d l)))) come
      (there-live es t.back (λ i d l. rw t.before (Contains-append_right t.front (out ++ t.back) (get_or t.back i d) (Contains-append_right out t.back (get_or t.back i d) (All-contains_itself t.back i d l)))))

own-labels : (st : State) → All IsTrain st.trains → All HasOwnLabels st.trains
own-labels st trains = λ i d l. (trains i d l).labels

-- the events that are put in
unfoldable pub put_in : State → Shape → List Event
put_in st (Shapes.Cancel n from to) = map (kill_at (stretch st n from to)) (stretch st n from to)
put_in st (Shapes.Reroute n from to via) = made st n via.now
put_in st (Shapes.Extra n day route calls) = train_events (effect st (Extra n day route calls.now)) n

-- the new calls of a train have two events each
made-count : (n : ℕ) (via : List NewCall) (o : Option Train) → length (option_map_or (λ (t : Train). events_at n t.route (new_calls t.next_label via)) o []) ≤ 2 * length via
made-count n via None = omega arith
made-count n via (Some t) = omega (arith, events-count n t.route (new_calls t.next_label via), length-new t.next_label via)

-- none of those that are cancelled is live
pub none-killed : (es : List Event) → live_events (map (kill_at es) es) ≡ []
none-killed es = elim (live_events (map (kill_at es) es)) as (λ vs. map entry_of vs ≡ [] → vs ≡ []) [ [] ↦ λ h. refl | v ∷ vs ↦ λ h. absurd (cc) ] (killed-entries es)

-- the labels of a train's calls are below its next one
pub labels-used : (st : State) (n : ℕ) (t : Train) → All IsTrain st.trains → slice_get st.trains n ≡ Some t → All (λ v. v.key.label < t.next_label) (events_of n t)
labels-used st n t trains got =
    events_at-each (λ v. v.key.label < t.next_label) (λ c. c.label < t.next_label) n t.route (λ c l. (l, l)) t.calls (trains-each IsTrain st.trains trains n n t (omega arith) got).used

pub cancel-turn : (nw : Network) (st : State) (n from to : ℕ) → IsValid nw st → refusal nw st (Cancel n from to) ≡ None → let es = stretch st n from to in IsTurn st (effect st (Cancel n from to)) es (map (kill_at es) es)
cancel-turn nw st n from to valid h =
    let es = stretch st n from to in
    let x = cancel-exchange st n from to (own-labels st valid.trains) (not-false _ (accepted-by nw st (Cancel n from to) h).known) in
    record {
      front = x.front;
      back = x.back;
      before = x.before;
      after = x.after;
      fresh = λ w there live v hv same.
          let c = Contains-filter (λ (v : Event). v.live) (map (kill_at es) es) w there live in
          let d = subst (λ vs. Contains vs w) (none-killed es) c in
          let l = d.1 in absurd (omega arith);
    }

pub reroute-turn : (nw : Network) (st : State) (n from to : ℕ) (via : List NewCall) → IsValid nw st → All IsSmallCall via → refusal nw st (Reroute n from to via) ≡ None → IsTurn st (effect st (Reroute n from to via)) (events_between st n from to) (made st n via)
reroute-turn nw st n from to via valid small h =
    let s = swap-of nw st n from to via valid small h in
    let x = reroute-exchange st n from to via (own-labels st valid.trains) (and_parts (stands_before from to (calls_of st n)) _ (not-false _ (accepted-by nw st (Reroute n from to via) h).known)).0 in
    let own : s.made ≡ made st n via = sym s.is_made in
    record {
      front = x.front;
      back = x.back;
      before = x.before;
      after = x.after;
      fresh = λ w there live v hv same.
          let high = All-contains (λ v. s.train.next_label ≤ v.key.label) s.made w s.above (rw own there) in
          let train : w.key.train ≡ n = All-contains (λ v. v.key.train ≡ n) (made st n via) w (rw s.got (events_at-train n s.train.route _)) there in
          let at : v.key.train ≡ n = ap (λ m. m.train) same ∙ train in
          let line : train_events st v.key.train ≡ events_of n s.train = rw (at, s.got) refl in
          let low = All-contains (λ v. v.key.label < s.train.next_label) (events_of n s.train) v (labels-used st n s.train valid.trains s.got) (rw line at (own-event st v hv)) in
          let label : v.key.label ≡ w.key.label = ap (λ m. m.label) same in absurd (omega arith);
    }

pub extra-turn : (nw : Network) (st : State) (n day route : ℕ) (cs : List NewCall) → refusal nw st (Extra n day route cs) ≡ None → let new = effect st (Extra n day route cs) in IsTurn st new [] (train_events new n)
unfolding effect events
extra-turn nw st n day route cs h =
    let t = new_train day route cs in
    let new = effect st (Extra n day route cs) in
    let number = extra-number nw st n day route cs h in
    let own : train_events new n ≡ events_of n t = rw (number, get-push st.trains t) refl in
    record {
      front = events st;
      back = [];
      before = sym (append-nil (events st));
      after = events-push 0 n st.trains t (omega arith) ∙ rw own refl;
      fresh = λ w there live v hv same.
          let train : w.key.train ≡ n = All-contains (λ v. v.key.train ≡ n) (events_of n t) w (events_at-train n route t.calls) (rw own at there) in
          let at : v.key.train ≡ n = ap (λ m. m.train) same ∙ train in
          let r = train-there st v.key.train v (own-event st v hv) in
          let less = slice_get_within st.trains v.key.train r.0 r.1 in absurd (omega arith);
    }

pub shape-turn : (nw : Network) (st : State) (s : Shape) → let m = message_of_shape s in IsValid nw st → IsWellFormed m → refusal nw st m ≡ None → IsTurn st (effect st m) (leaving_of st s) (put_in st s)
unfolding put_in
shape-turn nw st (Shapes.Cancel n from to) valid well h = cancel-turn nw st n from to valid h
shape-turn nw st (Shapes.Reroute n from to via) valid well h = reroute-turn nw st n from to via.now valid well h
shape-turn nw st (Shapes.Extra n day route calls) valid well h = extra-turn nw st n day route calls.now h

-- those that a message puts in take spare calls, two of them one
put-few : (nw : Network) (st : State) (s : Shape) → let m = message_of_shape s in refusal nw st m ≡ None → length (live_events (put_in st s)) + 2 * (effect st m).spare_calls ≤ 2 * st.spare_calls
unfolding put_in effect
put-few nw st (Shapes.Cancel n from to) h = rw (none-killed (stretch st n from to)) (omega arith)
put-few nw st (Shapes.Reroute n from to via) h =
    let enough = spare-of st.spare_calls (length via.now) (accepted-by nw st (Reroute n from to via.now) h).room in
    omega (arith, live-le (made st n via.now), made-count n via.now (slice_get st.trains n))
put-few nw st (Shapes.Extra n day route calls) h =
    let t = new_train day route calls.now in
    let enough = extra-room nw st n day route calls.now h in
    let own : train_events (effect st (Extra n day route calls.now)) n ≡ events_of n t = rw (extra-number nw st n day route calls.now h, get-push st.trains t) refl in
    let count = ap length own in
    omega (arith, live-le (train_events (effect st (Extra n day route calls.now)) n), events-count n route t.calls, length-extra calls.now)

pub shape-made : (nw : Network) (st : State) (s : Shape) → let m = message_of_shape s in IsValid nw st → IsWellFormed m → refusal nw st m ≡ None → length (live_only (events (effect st m)) (events st)) + 2 * (effect st m).spare_calls ≤ 2 * st.spare_calls
shape-made nw st s valid well h = rw (made-are valid.trains (shape-turn nw st s valid well h)) (put-few nw st s h)
