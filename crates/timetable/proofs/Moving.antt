-- After a message: the departures that are live still, moved to their times, are the live departures.
use Rattle.timetable.proofs.Words.{◌≡◌, ◌≢◌, ◌≤◌, Bool, true, false, not, List, [], ◌∷◌, Some, unwrap_or, map, filter, length, get_or, refl, sym, ◌∙◌, ap, arith}
use Rattle.timetable.proofs.Words.{inl, inr, All, AllPairs, Contains, cases_Bool, false_from_ne_true, All-contains, All-contains_itself, All-map, AllPairs-filter}
use Rattle.timetable.proofs.Words.{Contains-append_left, Contains-append_right, Contains-filter, Contains-map, contains-unmap, length_permutation, length-map, length-filter, count_by-le-length}
use Rattle.timetable.proofs.Words.{Key, node_of, is_before, is_same, same-is, before-itself, any-there, Network, State, Event, events, live_events, is_live_key, live_only, names_of, IsTrain, IsLiveAt, StoredTimes}
use Rattle.timetable.proofs.Words.{HasItsTime, has_another, live_keys, key_order, time_change_at, time_changes_of, TimeChange, Departure, AreTimeChanges, departing, departing_then, departs, is_of_one, leaves_before, live_departures}
use Rattle.timetable.proofs.Words.{with_times, IsPrepared, IsDeparture, All-append, ◌&&◌, and_parts, or_parts, not-false, eqb-true, same-itself, stored_time, IsOrderOf}
use Rattle.propagate.proofs.StepListed.{another-is}
use Rattle.timetable.proofs.{Departing.call-there, Departing.departs-each, Departing.one-in-order, Departing.departs-in, Departing.departs-rise, Moved.parts, Moved.parts-differ}
use Rattle.propagate.proofs.{Named.any-from, Ordered.filtered, Ordered.key-live, Ordered.live-keyed, Ordered.live-ordered, Sorted.keys-ordered, Sorted.AllPairs-map}
use Rattle.timetable.proofs.{Changed.filter-map, Changed.filter-same, Changed.live-key}
use Rattle.timetable.specs.Shapes.{IsCallKept}
use Rattle.timetable.proofs.Words.{suc, AreLiveDepartures, IsPermutation, Node, Option, None, Call, None, cond, call_named, has_call, count_new, departing_at, events-unique, is_new_to, is_of_none, boarding_stop, is_same_node, may_board, option_map, option_map_or, same_node-is, same_node-itself, stop_of, sum_by-IsPermutation}

-- no more events leave than were live
pub gone-fit : (es fs : List Event) → length (names_of (live_only es fs)) ≤ length (live_keys es)
gone-fit es fs =
    let gone : Event → Bool = λ v. not (is_live_key fs v.key) in
    omega (arith, length-map (live_only es fs) (λ (v : Event). node_of v.key), length-filter gone (live_events es), count_by-le-length gone (live_events es), length-map (live_events es) (λ (v : Event). v.key))

-- how many elements pass a test
count-map : {X Y : Type 0} (p : Y → Bool) (f : X → Y) (xs : List X) → length (filter p (map f xs)) ≡ length (filter (λ x. p (f x)) xs)
count-map p f xs = ap length (sym (filter-map f p xs)) ∙ length-map (filter (λ x. p (f x)) xs) f

count-filter : {X : Type 0} (p q : X → Bool) (xs : List X) → length (filter p (filter q xs)) ≤ length (filter p xs)
count-filter p q [] = omega arith
count-filter p q (x ∷ xs) =
    let rest = count-filter p q xs in
    elim (cases_Bool (q x)) [
      | inl passes ↦ rw passes (elim (cases_Bool (p x)) [ inl t ↦ rw t (omega arith) | inr f ↦ rw f rest ])
      | inr fails ↦ rw fails (elim (cases_Bool (p x)) [ inl t ↦ rw t (omega arith) | inr f ↦ rw f rest ])
    ]

pub count-weaker : {X : Type 0} (p q : X → Bool) (xs : List X) → All (λ x. p x ≡ true → q x ≡ true) xs → length (filter p xs) ≤ length (filter q xs)
count-weaker p q [] h = omega arith
count-weaker p q (x ∷ xs) h =
    let rest = count-weaker p q xs (λ i d l. h (suc i) d (omega arith)) in
    elim (cases_Bool (p x)) [
      | inl passes ↦ rw (passes, h 0 x (omega arith) passes) (omega arith)
      | inr fails ↦ rw fails (elim (cases_Bool (q x)) [ inl t ↦ rw t (omega arith) | inr f ↦ rw f rest ])
    ]

count-permutation : {X : Type 0} (p : X → Bool) (xs ys : List X) → IsPermutation xs ys → length (filter p ys) ≡ length (filter p xs)
count-permutation p xs ys moved = length-filter p ys ∙ sum_by-IsPermutation (λ x. cond (p x) 1 0) xs ys moved ∙ sym (length-filter p xs)

mapped-or : {X Y : Type 0} (f : X → Y) (d : Y) (a b : Option X) → option_map f a ≡ option_map f b → option_map_or f a d ≡ option_map_or f b d
mapped-or f d None None h = refl
mapped-or f d None (Some b) h = absurd (cc)
mapped-or f d (Some a) None h = absurd (cc)
mapped-or f d (Some a) (Some b) h = cc

-- what is kept of a call
stop-kept : (old new : State) (k : Key) → IsCallKept old new k.train k.label → stop_of new k ≡ stop_of old k
stop-kept old new k kept = mapped-or (λ (c : Call). c.stop) 0 (call_named new k.train k.label) (call_named old k.train k.label) kept.stop

board-kept : (old new : State) (k : Key) → IsCallKept old new k.train k.label → may_board new k ≡ may_board old k
board-kept old new k kept = mapped-or (λ (c : Call). c.board) false (call_named new k.train k.label) (call_named old k.train k.label) kept.board

boarding-kept : (nw : Network) (old new : State) (k : Key) → IsCallKept old new k.train k.label → boarding_stop nw new k ≡ boarding_stop nw old k
boarding-kept nw old new k kept = rw (board-kept old new k kept, stop-kept old new k kept) refl

-- the departures but those among some events that are live no longer, are those that are live still
module _ (nw : Network) (old new : State) (trains : All IsTrain old.trains) where
  abbrev pub lives_still : Departure → Bool
  lives_still d = is_live_key (events new) d.key

  abbrev gone : List Node
  gone = names_of (live_only (events old) (events new))

  pub left-live : (d : Departure) → Contains (live_departures nw old) d → is_of_none gone d ≡ lives_still d
  left-live d there =
      let h = All-contains (IsDeparture nw old) (live_departures nw old) d (departs-each nw old) there in
      elim (cases_Bool (lives_still d)) [
        | inl still ↦ rw still (ap not (false_from_ne_true _ (λ among.
            let n = any-there (is_same_node (node_of d.key)) gone among in
            let w = contains-unmap (λ (v : Event). node_of v.key) (live_only (events old) (events new)) n.0 n.1 in
            let f = filtered (λ (v : Event). not (is_live_key (events new) v.key)) (live_events (events old)) w.0 w.1 in
            let own = filtered (λ (v : Event). v.live) (events old) w.0 f.0 in
            let one = events-unique old trains w.0 h.event own.0 h.there (w.2 ∙ sym (same_node-is (node_of d.key) n.0 n.2) ∙ ap node_of (sym h.key)) in
            let dead = rw (one, h.key) at f.1 in
            cc)))
        | inr dead ↦ rw dead (ap not
            (any-from (is_same_node (node_of d.key)) gone (node_of h.event.key)
            (Contains-map (λ (v : Event). node_of v.key) (live_only (events old) (events new)) h.event
            (Contains-filter (λ (v : Event). not (is_live_key (events new) v.key)) (live_events (events old)) h.event (Contains-filter (λ (v : Event). v.live) (events old) h.event h.there h.live) (rw (h.key, dead) refl)))
            (rw h.key (same_node-itself (node_of d.key)))))
      ]

  pub left-are : filter (is_of_none gone) (live_departures nw old) ≡ filter lives_still (live_departures nw old)
  left-are = filter-same (is_of_none gone) lives_still (live_departures nw old) (λ i d l. let y = get_or (live_departures nw old) i d in left-live y (All-contains_itself (live_departures nw old) i d l))

-- live departures are of live events
pub departures-live : (nw : Network) (st : State) → AreLiveDepartures st (live_departures nw st)
departures-live nw st = λ i d l.
    let x = get_or (live_departures nw st) i d in
    let h = departs-each nw st i d l in
    (rw h.key at (Contains-map (λ (v : Event). v.key) (live_events (events st)) h.event (Contains-filter (λ (v : Event). v.live) (events st) h.event h.there h.live)), h.departs)

-- the calls are there of events that leave
pub gone-there : (st : State) (fs : List Event) → All IsTrain st.trains → All (λ (n : Node). has_call st n.train n.label ≡ true) (names_of (live_only (events st) fs))
gone-there st fs trains =
    All-map (λ (n : Node). has_call st n.train n.label ≡ true) (λ (v : Event). node_of v.key) (live_only (events st) fs) (λ i d l.
    let v = get_or (live_only (events st) fs) i d in
    let f = filtered (λ (v : Event). not (is_live_key fs v.key)) (live_events (events st)) v (All-contains_itself (live_only (events st) fs) i d l) in
    call-there st v (filtered (λ (v : Event). v.live) (events st) v f.0).0 trains)

module _ {nw : Network} {old new : State} {times : StoredTimes} (trains : All IsTrain old.trains) (p : IsPrepared nw old new times) where
  abbrev keys : List Key
  keys = key_order (events new)

  abbrev rs : List TimeChange
  rs = time_changes_of nw new times

  -- the departures before the message that are live still
  abbrev ds : List Departure
  ds = filter (lives_still nw old new trains) (live_departures nw old)

  order : IsOrderOf (events new) keys
  order = keys-ordered new p.valid.trains

  abbrev another : Key → Bool
  another k = has_another nw new times k

  -- a departure that is live still is at the time that is stored for it, and as it was at its call
  record IsStill (d : Departure) : Type 0 where
    at : IsLiveAt (events new) d.key
    departs : d.key.dep ≡ true
    stored : stored_time times d.key ≡ d.time
    same : d ≡ departing_at nw new d.time d.key

  still : (d : Departure) → Contains ds d → IsStill d
  still d there =
      let own = filtered (lives_still nw old new trains) (live_departures nw old) d there in
      let h = All-contains (IsDeparture nw old) (live_departures nw old) d (departs-each nw old) own.0 in
      let key = rw h.key at (Contains-map (λ (v : Event). v.key) (live_events (events old)) h.event (Contains-filter (λ (v : Event). v.live) (events old) h.event h.there h.live)) in
      let stored = All-contains (HasItsTime nw old times) (live_keys (events old)) d.key p.stored.known key in
      let u = any-there (λ u. u.live && is_same u.key d.key) (events new) own.1 in
      let both = and_parts u.0.live (is_same u.0.key d.key) u.2 in
      let is = same-is u.0.key d.key both.1 in
      let kept = p.calls d.key.train d.key.label (rw h.key at (call-there old h.event h.there trains)) (rw is at (call-there new u.0 u.1 p.valid.trains)) in
      record {
        at = (u.0, u.1, is, both.0);
        departs = h.departs;
        stored = ap (λ o. unwrap_or o 0) stored ∙ sym h.time;
        same =
            let stop = h.stop ∙ sym (boarding-kept nw old new d.key kept) in
            grind arith;
      }

  in-rs : (k : Key) → Contains keys k → another k ≡ true → Contains rs (time_change_at nw new times k)
  in-rs k there differs = Contains-map (time_change_at nw new times) (filter another keys) k (Contains-filter another keys k there differs)

  of-rs : (r : TimeChange) → Contains rs r → (k : Key) × Contains keys k × (another k ≡ true) × (time_change_at nw new times k ≡ r)
  of-rs r there =
      let w = contains-unmap (time_change_at nw new times) (filter another keys) r there in
      let k = filtered another keys w.0 w.1 in
      (w.0, k.0, k.1, w.2)

  keys-apart : AllPairs (λ a b. a ≢ b) keys
  keys-apart = λ i j d l m e. let less = order.ascends i j d l m in let none = before-itself (get_or keys j d) in let same = ap (λ k. is_before k (get_or keys j d)) e in absurd (cc)

  pub time-changes-are : AreTimeChanges nw new rs ds
  time-changes-are = record {
    live = λ i d l.
        let s = still (get_or ds i d) (All-contains_itself ds i d l) in
        (live-keyed (events new) (get_or ds i d).key s.at, s.departs);
    at_calls = λ i d l. (still (get_or ds i d) (All-contains_itself ds i d l)).same;
    once = AllPairs-map (λ (a b : TimeChange). a.key ≢ b.key) (time_change_at nw new times) (filter another keys) (AllPairs-filter (λ a b. a ≢ b) another keys keys-apart);
    there = λ i d l.
        let w = of-rs (get_or rs i d) (All-contains_itself rs i d l) in
        let at = key-live (events new) keys order w.0 w.1 in
        rw (← w.3) (live-keyed (events new) w.0 at);
  }

  pub still-rise : AllPairs (λ a b. leaves_before a b ≡ true) ds
  still-rise = AllPairs-filter (λ a b. leaves_before a b ≡ true) (lives_still nw old new trains) (live_departures nw old) (departs-rise nw old trains)

  abbrev moved : List TimeChange
  moved = filter departs rs

  -- each of them is a live departure of the new state
  parts-live : All (Contains (live_departures nw new)) (parts nw new rs ds)
  parts-live =
      All-append (Contains (live_departures nw new)) (map (departing_then nw new) moved) (filter (λ d. not (is_of_one moved d)) ds)
      (All-map (Contains (live_departures nw new)) (departing_then nw new) moved (λ i d l.
      let r = get_or moved i d in
      let own = filtered departs rs r (All-contains_itself moved i d l) in
      let w = of-rs r own.0 in
      let at = key-live (events new) keys order w.0 w.1 in
      rw (← w.3, ← at.2) (departs-in nw new at.0 at.1 at.3 (rw (at.2) (rw (← w.3) at own.1)))))
      (λ i d l.
      let y = get_or (filter (λ d. not (is_of_one moved d)) ds) i d in
      let own = filtered (λ d. not (is_of_one moved d)) ds y (All-contains_itself (filter (λ d. not (is_of_one moved d)) ds) i d l) in
      let s = still y own.0 in
      elim (cases_Bool (another y.key)) [
        | inl differs ↦
            let r = time_change_at nw new times y.key in
            let there = Contains-filter departs rs r (in-rs y.key (live-ordered (events new) keys order y.key s.at) differs) s.departs in
            let one = any-from (λ q. is_same q.key y.key) moved r there (same-itself y.key) in
            let both : true ≡ false = sym own.1 ∙ ap not one in
            absurd (cc)
        | inr same ↦
            let time = sym s.stored ∙ eqb-true _ _ (not-false _ same) in
            let is : departing nw new s.at.0.key ≡ y = rw s.at.2 (ap (λ t. departing_at nw new t y.key) (sym time) ∙ sym s.same) in
            rw (← is) (departs-in nw new s.at.0 s.at.1 s.at.3 (rw s.at.2 s.departs))
      ])

  -- and each of those is one of them
  live-parts : All (Contains (parts nw new rs ds)) (live_departures nw new)
  live-parts = λ i e l.
      let d = get_or (live_departures nw new) i e in
      let h = departs-each nw new i e l in
      let at : IsLiveAt (events new) d.key = (h.event, h.there, h.key, h.live) in
      elim (cases_Bool (another d.key)) [
        | inl differs ↦
            let r = time_change_at nw new times d.key in
            let there = Contains-filter departs rs r (in-rs d.key (live-ordered (events new) keys order d.key at) differs) h.departs in
            let is : departing_then nw new r ≡ d = let time = h.time in let stop = h.stop in grind arith in
            Contains-append_left (map (departing_then nw new) moved) _ d (rw is at (Contains-map (departing_then nw new) moved r there))
        | inr same ↦
            let unchanged = sym (another-is nw old new p.valid times p.stored d.key at) ∙ same in
            let both = or_parts _ _ unchanged in
            let was = any-there (λ u. u.live && is_same u.key d.key) (events old) (not-false _ both.0) in
            let own = and_parts was.0.live (is_same was.0.key d.key) was.2 in
            let key = same-is was.0.key d.key own.1 in
            let kept = p.calls d.key.train d.key.label (rw key at (call-there old was.0 was.1 trains)) (rw h.key at (call-there new h.event h.there p.valid.trains)) in
            let is : departing nw old was.0.key ≡ d =
            let time = h.time in
            let times_same = eqb-true _ _ (not-false _ both.1) in
            let stop = h.stop ∙ boarding-kept nw old new d.key kept in
            rw key (grind arith) in
            let there = rw is at (departs-in nw old was.0 was.1 own.0 (rw key h.departs)) in
            let live = live-key (events new) d.key at in
            let none : is_of_one moved d ≡ false = false_from_ne_true _ (λ one.
            let q = any-there (λ s. is_same s.key d.key) moved one in
            let w = of-rs q.0 (filtered departs rs q.0 q.1).0 in
            let differs = rw (ap (λ (r : TimeChange). r.key) w.3 ∙ same-is q.0.key d.key q.2) at w.2 in
            absurd (cc)) in
            Contains-append_right (map (departing_then nw new) moved) _ d (Contains-filter (λ d. not (is_of_one moved d)) ds d (Contains-filter (lives_still nw old new trains) (live_departures nw old) d there live) (rw none refl))
      ]

  pub moved-live : with_times nw new rs ds ≡ live_departures nw new
  unfolding with_times
  moved-live = one-in-order (parts nw new rs ds) (live_departures nw new) (parts-differ nw new rs ds still-rise time-changes-are) (departs-rise nw new p.valid.trains) parts-live live-parts

  -- no more events get other times than are live
  pub time-changes-fit : length rs ≤ length (live_keys (events new))
  time-changes-fit = omega (arith, length-map (filter another keys) (time_change_at nw new times), length-filter another keys, count_by-le-length another keys, length_permutation (live_keys (events new)) keys order.moved)

  -- a departure that is new is that of an event that is live only now
  is-new : (k : Key) → Contains keys k → is_new_to ds (time_change_at nw new times k) ≡ true → not (is_live_key (events old) k) ≡ true
  is-new k in_keys h =
      let both = and_parts k.dep _ h in
      elim (cases_Bool (is_live_key (events old) k)) [
        | inl was ↦ absurd (
            let u = any-there (λ u. u.live && is_same u.key k) (events old) was in
            let own = and_parts u.0.live (is_same u.0.key k) u.2 in
            let key = same-is u.0.key k own.1 in
            let d = departing nw old k in
            let there = rw key at (departs-in nw old u.0 u.1 own.0 (rw key both.0)) in
            let at = key-live (events new) keys order k in_keys in
            let in_ds = Contains-filter (lives_still nw old new trains) (live_departures nw old) d there (live-key (events new) k at) in
            let any = any-from (λ (e : Departure). is_same e.key k) ds d in_ds (same-itself k) in
            let none = both.1 in
            cc)
        | inr dead ↦ rw dead refl
      ]

  -- so there are no more of them than of these events
  pub new-fit : count_new ds rs ≤ length (live_only (events new) (events old))
  new-fit =
      let dead : Key → Bool = λ k. not (is_live_key (events old) k) in
      let fresh : Key → Bool = λ k. is_new_to ds (time_change_at nw new times k) in
      let mapped = count-map (is_new_to ds) (time_change_at nw new times) (filter another keys) in
      let filtered_keys = count-filter fresh another keys in
      let weaker = count-weaker fresh dead keys (λ i d l. is-new (get_or keys i d) (All-contains_itself keys i d l)) in
      let turned = count-permutation dead (live_keys (events new)) keys order.moved in
      let events_of = count-map dead (λ (v : Event). v.key) (live_events (events new)) in
      omega (arith, mapped, filtered_keys, weaker, turned, events_of)
