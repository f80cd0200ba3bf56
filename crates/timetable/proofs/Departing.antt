-- The live departures of a state in the order of their times.
use Rattle.timetable.proofs.Words.{rules, ◌≡◌, ◌≢◌, ℕ, suc, ◌+◌, ◌<◌, ◌≤◌, Bool, true, false, nat_le, List, [], ◌∷◌, ◌++◌, map, filter, length, get_or}
use Rattle.timetable.proofs.Words.{refl, sym, ◌∙◌, ap, subst, arith, IsTotalOrder, All, AllPairs, Contains, IsNonDecreasingBy, nat_cmp}
use Rattle.timetable.proofs.Words.{ordering_then, is_lt, Ordering, Equal, Greater, leb-true, All-weaker, All-filter}
use Rattle.timetable.proofs.Words.{All-contains_itself, filter_passes, AllPairs-filter, All-permutation, IsPermutation-sym, Contains-permutation, Key, keys_total, exact_keys}
use Rattle.timetable.proofs.Words.{Network, State, Event, events, live_events, event_time, IsTrain, Contains-filter, Contains-map, contains-unmap, StoredTimes, has_time, time_of, node_of, Departure, Some, All-tail, append-nil, append_assoc}
use Rattle.timetable.proofs.Words.{departure_cmp, leaves_before, departing, stored_departure, is_departure, live_departures, departures_from, AreListed, IsDeparture, live_keys, IsSettled}
use Rattle.timetable.proofs.Words.{HasItsTime}
use Rattle.std.proofs.lemmas.Cmp.{then_total, on_total, nat_cmp_total}
use Rattle.timetable.proofs.Words.{before-itself, departing_at, has_call, in_order, is_before}
use Rattle.std.proofs.lemmas.Map.Lookups.{exact_unsigned}
use Rattle.edge_rules.proofs.Neighbours.{named-there}
use Rattle.std.specs.declared.cmp.Ordering.TheVariants.{Less}
use Rattle.mt_base.specs.Order.{key_cmp}
use Rattle.propagate.proofs.{Named.event-found, Ordered.filtered, Ordered.keyed-live, Sorted.AllPairs-map, Sorted.keys-differ, Sorted.in_order-moves, Sorted.in_order-ascends, Sorted.less-itself, Sorted.order-of, Sorted.sorted-ascends}
use Rattle.std.specs.List.Sorted.{IsSortedByKey}
use Rattle.std.proofs.lemmas.List.{get_or-map}
use Rattle.timetable.proofs.Words.{IsPermutation, IsPermutation-map, count_by-le-length, length-filter, length-map, length_permutation}

pub departures_total : IsTotalOrder departure_cmp
departures_total = then_total (on_total (λ d. d.time) nat_cmp_total) (then_total (on_total (λ d. d.key) keys_total) (on_total (λ d. d.stop) nat_cmp_total))

tied : (a b : Ordering) → ordering_then a b ≡ Equal → (a ≡ Equal) × (b ≡ Equal)
tied Less b h = absurd (cc)
tied Equal b h = (refl, h)
tied Greater b h = absurd (cc)

pub exact_departures : (a b : Departure) → departure_cmp a b ≡ Equal → a ≡ b
exact_departures a b h =
    let at = tied (nat_cmp a.time b.time) _ h in
    let key = tied (key_cmp a.key b.key) _ at.1 in
    let time = exact_unsigned a.time b.time at.0 in
    let same = exact_keys a.key b.key key.0 in
    let there = exact_unsigned a.stop b.stop key.1 in
    grind arith

-- departures put in order are in it, and are any list in order of the same departures
pub none-before-itself : (d : Departure) → leaves_before d d ≡ true → ⊥
unfolding leaves_before
none-before-itself d h = let none = less-itself departures_total exact_departures d in absurd (cc)

pub put-in-order : (ds : List Departure) → AllPairs (λ a b. a ≢ b) ds → AllPairs (λ a b. leaves_before a b ≡ true) (in_order leaves_before ds)
unfolding leaves_before
put-in-order ds apart = in_order-ascends departures_total exact_departures ds apart

pub one-in-order : (xs ys : List Departure) → AllPairs (λ a b. a ≢ b) xs → AllPairs (λ a b. leaves_before a b ≡ true) ys → All (Contains ys) xs → All (Contains xs) ys → in_order leaves_before xs ≡ ys
unfolding leaves_before
one-in-order xs ys apart up h i = order-of departures_total exact_departures xs ys apart up h i

-- an event's call is there
pub call-there : (st : State) (v : Event) → Contains (events st) v → All IsTrain st.trains → has_call st v.key.train v.key.label ≡ true
call-there st v there trains = named-there st (node_of v.key) v (event-found st v trains there)

pub calls-there : (st : State) → All IsTrain st.trains → All (λ (k : Key). has_call st k.train k.label ≡ true) (live_keys (events st))
calls-there st trains = λ i d l.
    let k = get_or (live_keys (events st)) i d in
    let at = keyed-live (events st) k (All-contains_itself (live_keys (events st)) i d l) in
    rw at.2 at (call-there st at.0 at.1 trains)

-- departures of different keys differ
differ : (g : Key → Departure) → ((k : Key) → (g k).key ≡ k) → (ks : List Key) → AllPairs (λ a b. a ≢ b) ks → AllPairs (λ a b. a ≢ b) (map g (filter is_departure ks))
differ g own ks h =
    AllPairs-map (λ a b. a ≢ b) g (filter is_departure ks)
    (λ i j d l m e. AllPairs-filter (λ a b. a ≢ b) is_departure ks h i j d l m (sym (own (get_or (filter is_departure ks) i d)) ∙ ap (λ (x : Departure). x.key) e ∙ own (get_or (filter is_departure ks) j d)))

-- the times kept for settled events are their times
kept-are : (nw : Network) (st : State) (times : StoredTimes) (ks : List Key) → All (HasItsTime nw st times) ks → map (stored_departure nw st times) (filter is_departure ks) ≡ map (departing nw st) (filter is_departure ks)
kept-are nw st times [] h = refl
kept-are nw st times (k ∷ ks) h =
    let own : stored_departure nw st times k ≡ departing nw st k = rw (h 0 k (omega arith)) refl in
    grind (arith, own, kept-are nw st times ks (λ i d l. h (suc i) d (omega arith)))

-- the departures of settled events, put in order, are the live ones
pub listed-are : (nw : Network) (st : State) (times : StoredTimes) (list : List Departure) → IsSettled nw st times → AreListed nw st times (live_keys (events st)) list → in_order leaves_before list ≡ live_departures nw st
unfolding live_departures
listed-are nw st times list is listed =
    let keys = live_keys (events st) in
    let xs = map (departing nw st) (filter is_departure keys) in
    let own = rw (kept-are nw st times keys is.times) at listed.moved in
    let apart : AllPairs (λ a b. a ≢ b) list = λ i j d l m e. let less = listed.ascends i j d l m in let none = before-itself (get_or list j d).key in let same = ap (λ (a : Departure). is_before a.key (get_or list j d).key) e in absurd (cc) in
    let differs = differ (departing nw st) (λ k. refl) keys (keys-differ st is.valid.trains) in
    let up = put-in-order xs differs in
    one-in-order list (in_order leaves_before xs) apart up
    (All-weaker (Contains xs) (Contains (in_order leaves_before xs)) (λ d there. Contains-permutation xs _ d (in_order-moves leaves_before xs) there) list (All-permutation (Contains xs) xs list own (All-contains_itself xs)))
    (All-permutation (Contains list) xs (in_order leaves_before xs) (in_order-moves leaves_before xs) (All-permutation (Contains list) list xs (IsPermutation-sym xs list own) (All-contains_itself list)))

-- no more are listed than events are live
pub listed-few : {nw : Network} {st : State} {times : StoredTimes} {keys : List Key} {ds : List Departure} → AreListed nw st times keys ds → length ds ≤ length keys
listed-few {nw = nw} {st = st} {times = times} {keys = keys} {ds = ds} h =
    omega (arith, length_permutation (map (stored_departure nw st times) (filter is_departure keys)) ds h.moved, length-map (filter is_departure keys) (stored_departure nw st times), length-filter is_departure keys, count_by-le-length is_departure keys)

-- every live departure of the state is listed
pub departs-in : (nw : Network) (st : State) (v : Event) → Contains (events st) v → v.live ≡ true → v.key.dep ≡ true → Contains (live_departures nw st) (departing nw st v.key)
unfolding live_departures
departs-in nw st v there live departs =
    let keys = live_keys (events st) in
    let own = Contains-map (λ (v : Event). v.key) (live_events (events st)) v (Contains-filter (λ (v : Event). v.live) (events st) v there live) in
    Contains-permutation (map (departing nw st) (filter is_departure keys)) _ (departing nw st v.key) (in_order-moves leaves_before _)
    (Contains-map (departing nw st) (filter is_departure keys) v.key (Contains-filter is_departure keys v.key own departs))

-- what is listed is a live departure
pub departs-each : (nw : Network) (st : State) → All (IsDeparture nw st) (live_departures nw st)
unfolding live_departures
departs-each nw st =
    let keys = live_keys (events st) in
    let xs = map (departing nw st) (filter is_departure keys) in
    All-permutation (IsDeparture nw st) xs _ (in_order-moves leaves_before xs) (λ i d l.
    let r = contains-unmap (departing nw st) (filter is_departure keys) _ (All-contains_itself xs i d l) in
    let k = filtered is_departure keys r.0 r.1 in
    let w = contains-unmap (λ (v : Event). v.key) (live_events (events st)) r.0 k.0 in
    let v = filtered (λ (v : Event). v.live) (events st) w.0 w.1 in
    subst (IsDeparture nw st) r.2 (record { event = w.0; there = v.0; live = v.1; key = w.2; departs = k.1; time = refl; stop = refl }))

-- each leaves before those after it
pub departs-rise : (nw : Network) (st : State) → All IsTrain st.trains → AllPairs (λ a b. leaves_before a b ≡ true) (live_departures nw st)
unfolding live_departures
departs-rise nw st trains =
    put-in-order (map (departing nw st) (filter is_departure (live_keys (events st)))) (differ (departing nw st) (λ k. refl) (live_keys (events st)) (keys-differ st trains))

not-later : (o : Ordering) (a b : ℕ) → is_lt (ordering_then (nat_cmp a b) o) ≡ true → a ≤ b
not-later o a b h = let gt : b < a → nat_cmp a b ≡ Greater = λ l. search rules in grind arith

-- the same of those at a time or later
pub later-in : (nw : Network) (st : State) (from : ℕ) (v : Event) → Contains (events st) v → v.live ≡ true → v.key.dep ≡ true → from ≤ event_time nw st v.key → Contains (departures_from nw st from) (departing nw st v.key)
later-in nw st from v there live departs le =
    Contains-filter (λ d. nat_le from d.time) (live_departures nw st) (departing nw st v.key) (departs-in nw st v there live departs) (search rules)

pub later-each : (nw : Network) (st : State) (from : ℕ) → All (IsDeparture nw st) (departures_from nw st from)
later-each nw st from = All-filter (λ d. nat_le from d.time) (IsDeparture nw st) (live_departures nw st) (departs-each nw st)

pub later-not-before : (nw : Network) (st : State) (from : ℕ) → All (λ d. from ≤ d.time) (departures_from nw st from)
later-not-before nw st from =
    All-weaker (λ d. nat_le from d.time ≡ true) (λ d. from ≤ d.time) (λ d h. leb-true from d.time h) (departures_from nw st from) (filter_passes (λ d. nat_le from d.time) (live_departures nw st))

pub later-rise : (nw : Network) (st : State) (from : ℕ) → All IsTrain st.trains → AllPairs (λ a b. leaves_before a b ≡ true) (departures_from nw st from)
later-rise nw st from trains = AllPairs-filter (λ a b. leaves_before a b ≡ true) (λ d. nat_le from d.time) (live_departures nw st) (departs-rise nw st trains)

-- so their times do not fall
pub times-rise : (ds : List Departure) → AllPairs (λ a b. leaves_before a b ≡ true) ds → IsNonDecreasingBy (λ d. d.time) ds
unfolding leaves_before
times-rise ds h = λ i j d l m. grind (arith, λ (lt : i < j). not-later _ (get_or ds i d).time (get_or ds j d).time (h i j d lt m))

-- departures sorted by their keys, which differ
stored-keys : (nw : Network) (st : State) (times : StoredTimes) (ks : List Key) → map (λ (d : Departure). d.key) (map (stored_departure nw st times) ks) ≡ ks
stored-keys nw st times [] = refl
stored-keys nw st times (k ∷ ks) = ap (λ ks. k ∷ ks) (stored-keys nw st times ks)

pub keys-rise : (nw : Network) (st : State) (times : StoredTimes) (list : List Departure) → All IsTrain st.trains → IsPermutation (map (stored_departure nw st times) (filter is_departure (live_keys (events st)))) list → IsSortedByKey (λ (d : Departure). d.key) key_cmp list → AllPairs (λ a b. is_before a.key b.key ≡ true) list
unfolding is_before
keys-rise nw st times list trains moved sorted =
    let key : Departure → Key = λ d. d.key in
    let ks = filter is_departure (live_keys (events st)) in
    let long = length-map list key in
    let same : IsPermutation ks (map key list) = rw (stored-keys nw st times ks) at (IsPermutation-map key (map (stored_departure nw st times) ks) list moved) in
    let differ_keys = AllPairs-filter (λ a b. a ≢ b) is_departure (live_keys (events st)) (keys-differ st trains) in
    let up = sorted-ascends keys_total exact_keys ks (map key list) differ_keys same (λ k d lo hi.
    let x = departing_at nw st 0 d in
    rw (get_or-map key list (k + 1) x d (omega arith), get_or-map key list k x d (omega arith)) (sorted k x lo (omega arith))) in
    λ i j d l m. rw (get_or-map key list i d d.key (omega arith), get_or-map key list j d d.key (omega arith)) at (up i j d.key l (omega arith))

-- part of a listing: with the events that are left all departures are listed
pub record IsListedTo (nw : Network) (st : State) (times : StoredTimes) (all left : List Key) (now : List Departure) : Type 0 where
  pub whole : now ++ map (stored_departure nw st times) (filter is_departure left) ≡ map (stored_departure nw st times) (filter is_departure all)
  pub held : All (λ k. has_time times (node_of k) ≡ true) left
  pub there : All (λ (k : Key). has_call st k.train k.label ≡ true) left

pub filter-first : {X : Type 0} (p : X → Bool) (x : X) (xs : List X) → p x ≡ true → filter p (x ∷ xs) ≡ x ∷ filter p xs
filter-first p x xs h = rw h refl

filter-next : {X : Type 0} (p : X → Bool) (x : X) (xs : List X) → p x ≡ false → filter p (x ∷ xs) ≡ filter p xs
filter-next p x xs h = rw h refl

pub none-listed : (nw : Network) (st : State) (times : StoredTimes) → All IsTrain st.trains → All (λ k. has_time times (node_of k) ≡ true) (live_keys (events st)) → (left : List Key) → left ≡ live_keys (events st) → IsListedTo nw st times (live_keys (events st)) left []
none-listed nw st times trains held left is = rw is (record { whole = refl; held = held; there = calls-there st trains })

module _ {nw : Network} {st : State} {times : StoredTimes} {all left : List Key} {now : List Departure} {k : Key} (h : IsListedTo nw st times all (k ∷ left) now) where
  pub listed-one : k.dep ≡ true → (time : ℕ) → time_of times (node_of k) ≡ Some time → (next : List Departure) → next ≡ now ++ departing_at nw st time k ∷ [] → IsListedTo nw st times all left next
  listed-one departs time stored next pushed =
      let is : stored_departure nw st times k ≡ departing_at nw st time k = rw stored refl in
      record {
        whole = rw (pushed, append_assoc) (rw (filter-first is_departure k left departs, is) at h.whole);
        held = All-tail (λ k. has_time times (node_of k) ≡ true) k left h.held;
        there = All-tail (λ (k : Key). has_call st k.train k.label ≡ true) k left h.there;
      }

  pub listed-pass : k.dep ≡ false → IsListedTo nw st times all left now
  listed-pass arrives = record {
    whole = rw (filter-next is_departure k left arrives) at h.whole;
    held = All-tail (λ k. has_time times (node_of k) ≡ true) k left h.held;
    there = All-tail (λ (k : Key). has_call st k.train k.label ≡ true) k left h.there;
  }

pub listed-all : {nw : Network} {st : State} {times : StoredTimes} {all : List Key} {now : List Departure} → IsListedTo nw st times all [] now → now ≡ map (stored_departure nw st times) (filter is_departure all)
listed-all {now = now} h = sym (append-nil now) ∙ h.whole
