-- What the numbers of an order of departures tell: each is that of one live departure, and each live departure has one.
use Rattle.std.proofs.Common.{◌≡◌, ℕ, zero, suc, ◌+◌, true, false, cond, List, [], ◌∷◌, ◌++◌, Option, Some, None, slice_get, length, get_or, refl, sym, ◌∙◌, ap, subst, inl, inr, arith}
use Rattle.std.proofs.Math.Logic.{◌≢◌}
use Rattle.std.specs.Bool.{Decides}
use Rattle.std.specs.Cmp.{IsTotalOrder}
use Rattle.std.specs.List.{All, AllPairs, Contains}
use Rattle.std.specs.List.Sorted.{IsPermutation}
use Rattle.std.specs.Option.{option_map_or}
use Rattle.std.specs.Ordering.{is_eq}
use Rattle.std.specs.declared.cmp.Ordering.{Ordering}
use Rattle.std.specs.declared.cmp.Ordering.TheVariants.{Equal}
use Rattle.std.proofs.lemmas.Cmp.{tied_itself}
use Rattle.std.proofs.lemmas.List.Elements.{All-contains, Contains-append_left, Contains-append_right}
use Rattle.std.proofs.lemmas.List.Sorted.{Contains-permutation, IsPermutation-sym}
use Rattle.std.proofs.lemmas.Map.Keys.{IsDistinct-IsPermutation}
use Rattle.std.proofs.lemmas.Map.Made.{AllPairs-from_IsDistinct, IsDistinct-from_AllPairs}
use Rattle.std.proofs.lemmas.Option.{none-some, same_Some}
use Rattle.mt_base.specs.declared.keys.Key.{Key}
use Rattle.mt_base.specs.Order.{node_of}
use Rattle.mt_base.specs.Sorted.{in_order}
use Rattle.delay_model.specs.declared.network.Network.{Network}
use Rattle.delay_model.specs.declared.state.Call.{Call}
use Rattle.delay_model.specs.declared.state.Event.{Event}
use Rattle.delay_model.specs.declared.state.State.{State}
use Rattle.delay_model.specs.declared.state.Train.{Train}
use Rattle.delay_model.specs.Events.{departure_of, event_by, events, events_at, events_from, events_of}
use Rattle.delay_model.specs.Timing.{event_time}
use Rattle.delay_model.specs.Valid.{IsTrain, IsValid}
use Rattle.delay_model.proofs.Apart.{events-unique}
use Rattle.delay_model.proofs.Lists.{AllPairs-after, AllPairs-tail, Contains-cases, Contains-there}
use Rattle.train_nodes.specs.Calls.{call_named, values_of}
use Rattle.edge_rules.proofs.Neighbours.{named-at}
use Rattle.propagate.proofs.Named.{event-found}
use Rattle.propagate.proofs.Sorted.{in_order-moves}
use Rattle.dep_order.specs.declared.departure.Departure.{Departure}
use Rattle.dep_order.specs.Departing.{departures_of, held, leaves_before}
use Rattle.dep_order.specs.Ordered.{Ordered}
use Rattle.timetable.specs.Departures.{IsDeparture, boarding_stop, departing, live_departures}
use Rattle.timetable.specs.Onward.{IsDepartureOrder}
use Rattle.timetable.proofs.Departing.{departs-each, departs-in, departs-rise, departures_total, exact_departures, none-before-itself}
use Rattle.conn_scan.proofs.NextDeparture.{AreNumbered, IsAtItsCall}

-- what has a number is among the departures, and each of those has one
held-there : (es : List (Option Departure)) (n : ℕ) (d : Departure) → held es n ≡ Some d → Contains (departures_of es) d
held-there [] n d h = absurd (none-some d h)
held-there (None ∷ es) zero d h = absurd (none-some d h)
held-there (None ∷ es) (suc n) d h = held-there es n d h
held-there (Some e ∷ es) zero d h = (0, omega arith, same_Some e d h)
held-there (Some e ∷ es) (suc n) d h = Contains-there e (departures_of es) d (held-there es n d h)

there-held : (es : List (Option Departure)) (d : Departure) → Contains (departures_of es) d → (n : ℕ) × (held es n ≡ Some d)
there-held [] d h = let l = h.1 in absurd (omega arith)
there-held (None ∷ es) d h = let r = there-held es d h in (suc r.0, r.1)
there-held (Some e ∷ es) d h = elim (Contains-cases e (departures_of es) d h) [
  | inl same ↦ (0, ap Some same)
  | inr later ↦ let r = there-held es d later in (suc r.0, r.1)
]

-- where no two departures are one, a departure has one number
held-once : (es : List (Option Departure)) → AllPairs (λ a b. a ≢ b) (departures_of es) → (i j : ℕ) (d : Departure) → held es i ≡ Some d → held es j ≡ Some d → i ≡ j
held-once [] apart i j d h k = absurd (none-some d h)
held-once (None ∷ es) apart zero j d h k = absurd (none-some d h)
held-once (None ∷ es) apart (suc i) zero d h k = absurd (none-some d k)
held-once (None ∷ es) apart (suc i) (suc j) d h k = ap suc (held-once es apart i j d h k)
held-once (Some e ∷ es) apart zero zero d h k = refl
held-once (Some e ∷ es) apart zero (suc j) d h k = absurd (All-contains (λ f. e ≢ f) (departures_of es) d (AllPairs-after (λ a b. a ≢ b) [] e (departures_of es) apart) (held-there es j d k) (same_Some e d h))
held-once (Some e ∷ es) apart (suc i) zero d h k = absurd (All-contains (λ f. e ≢ f) (departures_of es) d (AllPairs-after (λ a b. a ≢ b) [] e (departures_of es) apart) (held-there es i d h) (same_Some e d k))
held-once (Some e ∷ es) apart (suc i) (suc j) d h k = ap suc (held-once es (AllPairs-tail (λ a b. a ≢ b) e (departures_of es) apart) i j d h k)

-- elements of which no two are one, in another order
module _ {X : Type 0} {cmp : X → X → Ordering} (total : IsTotalOrder cmp) (exact : (a b : X) → cmp a b ≡ Equal → a ≡ b) where
  ties-decide : (a b : X) → Decides (is_eq (cmp a b)) (a ≡ b)
  ties-decide a b = (λ e. grind (arith, exact a b), λ e. rw e (grind (arith, tied_itself total b)))

  ties-flip : (a b : X) → is_eq (cmp a b) ≡ is_eq (cmp b a)
  ties-flip a b = grind (arith, total.antisymm a b)

  apart-moved : (xs ys : List X) → IsPermutation xs ys → AllPairs (λ a b. a ≢ b) xs → AllPairs (λ a b. a ≢ b) ys
  apart-moved xs ys moved apart = AllPairs-from_IsDistinct ties-decide ys (IsDistinct-IsPermutation (λ a b. is_eq (cmp a b)) ties-flip xs ys moved (IsDistinct-from_AllPairs ties-decide xs apart))

-- a departure among the events of its train, and of all
departure-at : (train route : ℕ) (before : List Call) (c : Call) (cs : List Call) → Contains (events_at train route (before ++ c ∷ cs)) (departure_of train route c)
departure-at train route [] c cs = (1, omega arith, refl)
departure-at train route (b ∷ before) c cs =
    let there = departure-at train route before c cs in
    (suc (suc there.0), (let l = there.1 in omega arith), there.2)

event-of_train : (v : Event) (first : ℕ) (ts : List Train) (k : ℕ) (t : Train) (n : ℕ) → slice_get ts k ≡ Some t → n ≡ first + k → Contains (events_of n t) v → Contains (events_from first ts) v
event-of_train v first [] k t n there at here = absurd (none-some t there)
event-of_train v first (s ∷ ts) zero t n there at here =
    let number : n ≡ first = omega arith in
    Contains-append_left (events_of first s) (events_from (first + 1) ts) v (subst (λ m. Contains (events_of m s) v) number (subst (λ u. Contains (events_of n u) v) (sym (same_Some s t there)) here))
event-of_train v first (s ∷ ts) (suc k) t n there at here =
    Contains-append_right (events_of first s) (events_from (first + 1) ts) v (event-of_train v (first + 1) ts k t n there (omega arith) here)

event-there : (st : State) (train : ℕ) (t : Train) (before : List Call) (c : Call) (cs : List Call) → slice_get st.trains train ≡ Some t → t.calls ≡ before ++ c ∷ cs → Contains (events st) (departure_of train t.route c)
unfolding events
event-there st train t before c cs there split =
    event-of_train (departure_of train t.route c) 0 st.trains train t train there (omega arith) (subst (λ ds. Contains (events_at train t.route ds) (departure_of train t.route c)) (sym split) (departure-at train t.route before c cs))

-- the call of an event that is a departure
record IsCallOf (st : State) (v : Event) (k : Key) : Type 0 where
  train : Train
  is_train : slice_get st.trains k.train ≡ Some train
  call : Call
  found : call_named st k.train k.label ≡ Some call
  key : (departure_of k.train train.route call).key ≡ k
  live : call.departure.live ≡ v.live

call-of : (st : State) (v : Event) → All IsTrain st.trains → Contains (events st) v → v.key.dep ≡ true → IsCallOf st v v.key
call-of st v trains there departs =
    let at = named-at st (node_of v.key) v (event-found st v trains there) in
    let n = v.key.train in
    let is : v ≡ departure_of n at.train.route at.call = subst (λ x. v ≡ event_by n at.train.route at.call.label at.call.stop x (values_of x at.call)) departs at.event in
    record {
      train = at.train;
      is_train = at.there;
      call = at.call;
      found = rw at.there at.found;
      key = ap (λ (v : Event). v.key) (sym is);
      live = ap (λ (v : Event). v.live) (sym is);
    }

at-its-call : (nw : Network) (st : State) → IsValid nw st → (d : Departure) → IsDeparture nw st d → IsAtItsCall nw st d
at-its-call nw st valid d is =
    let v = is.event in
    let by = subst (IsCallOf st v) is.key (call-of st v valid.trains is.there (ap (λ (k : Key). k.dep) is.key ∙ is.departs)) in
    record {
      train = by.train;
      is_train = by.is_train;
      call = by.call;
      found = by.found;
      live = by.live ∙ is.live;
      key = by.key;
      time = is.time;
      stop = is.stop ∙ ap (λ o. cond (option_map_or (λ (c : Call). c.board) o false) (option_map_or (λ (c : Call). c.stop) o 0) (length nw.stops)) by.found;
    }

-- live departures of one call are one
one-departure : (nw : Network) (st : State) → IsValid nw st → (d e : Departure) → IsDeparture nw st d → IsDeparture nw st e → node_of d.key ≡ node_of e.key → d ≡ e
one-departure nw st valid d e is its same =
    let one = events-unique st valid.trains is.event its.event is.there its.there (ap node_of is.key ∙ same ∙ ap node_of (sym its.key)) in
    let key : d.key ≡ e.key = sym is.key ∙ ap (λ (v : Event). v.key) one ∙ its.key in
    let time : d.time ≡ e.time = is.time ∙ ap (event_time nw st) key ∙ sym its.time in
    let stop : d.stop ≡ e.stop = is.stop ∙ ap (boarding_stop nw st) key ∙ sym its.stop in
    λ i. record { time = time i; key = key i; stop = stop i }

module _ (nw : Network) (st : State) (o : Ordered) (valid : IsValid nw st) (is : IsDepartureOrder nw st o) where
  ordered : AllPairs (λ d e. leaves_before d e ≡ true) o.departures
  ordered = subst (AllPairs (λ d e. leaves_before d e ≡ true)) (sym is.departures) (departs-rise nw st valid.trains)

  apart-held : AllPairs (λ a b. a ≢ b) (departures_of o.entries)
  apart-held =
      let ds = departures_of o.entries in
      let apart : AllPairs (λ a b. a ≢ b) o.departures = λ i j d l m e. none-before-itself (get_or o.departures j d) (subst (λ x. leaves_before x (get_or o.departures j d) ≡ true) e (ordered i j d l m)) in
      apart-moved departures_total exact_departures (in_order leaves_before ds) ds (IsPermutation-sym ds (in_order leaves_before ds) (in_order-moves leaves_before ds)) (subst (AllPairs (λ a b. a ≢ b)) is.entries apart)

  listed-held : (n : ℕ) (d : Departure) → held o.entries n ≡ Some d → Contains o.departures d
  listed-held n d there = let ds = departures_of o.entries in subst (λ xs. Contains xs d) (sym is.entries) (Contains-permutation ds (in_order leaves_before ds) d (in_order-moves leaves_before ds) (held-there o.entries n d there))

  held-listed : (d : Departure) → Contains o.departures d → (n : ℕ) × (held o.entries n ≡ Some d)
  held-listed d h =
      let ds = departures_of o.entries in
      let moved = IsPermutation-sym ds (in_order leaves_before ds) (in_order-moves leaves_before ds) in
      there-held o.entries d (Contains-permutation (in_order leaves_before ds) ds d moved (subst (λ xs. Contains xs d) is.entries h))

  -- each number is that of a live departure
  pub held-live : (n : ℕ) (d : Departure) → held o.entries n ≡ Some d → IsDeparture nw st d
  held-live n d there = All-contains (IsDeparture nw st) (live_departures nw st) d (departs-each nw st) (subst (λ xs. Contains xs d) is.departures (listed-held n d there))

  -- what the numbers of the order of departures of a valid state tell
  pub numbered : AreNumbered nw st o
  numbered = record {
    valid = valid;
    each = λ n d there. at-its-call nw st valid d (held-live n d there);
    all = λ train t before c cs there split live.
        let v = departure_of train t.route c in
        let listed = departs-in nw st v (event-there st train t before c cs there split) live refl in
        let r = held-listed (departing nw st v.key) (subst (λ xs. Contains xs (departing nw st v.key)) (sym is.departures) listed) in
        (r.0, departing nw st v.key, r.1, refl);
    one = λ i j d e at_i at_j same.
        let one = one-departure nw st valid d e (held-live i d at_i) (held-live j e at_j) same in
        held-once o.entries apart-held i j e (at_i ∙ ap Some one) at_j;
    onward = is.onward;
    order = ordered;
    listed = listed-held;
    numbered = held-listed;
  }
