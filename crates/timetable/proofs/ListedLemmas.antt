-- The departures that are listed at load: of different calls, each of which has a place for its number, and not too many.
use Rattle.timetable.proofs.Words.{◌≡◌, ℕ, ◌+◌, ◌*◌, ◌≤◌, List, true, false, map, filter, length, get_or, sym, refl, ◌∙◌, ap, arith, All, AllPairs, All-map, All-permutation, All-contains_itself, Contains, false_from_ne_true}
use Rattle.timetable.proofs.Words.{Network, State, Key, node_of, is_before, before-itself, events, IsTrain, StoredTimes, Departure, AreListed, is_departure, live_keys, stored_departure, events-unique}
use Rattle.propagate.proofs.{Ordered.filtered, Ordered.keyed-live}
use Rattle.dep_order.specs.Ordered.{HasPlace, is_of_call}
use Rattle.timetable.proofs.HeldLemmas.{of-call}
use Rattle.timetable.proofs.LabelPlaces.{has-place}
use Rattle.timetable.specs.Settled.{next_labels}
use Rattle.std.proofs.Common.{Option, Some, None, Result, Ok, Err, IfOk, ◌++◌, replicate, length-append}
use Rattle.std.proofs.lemmas.List.{length-map, length-replicate}
use Rattle.timetable.proofs.Words.{length_permutation, IsSettled, in_order, leaves_before}
use Rattle.dep_order.specs.Ordered.{Ordered, spare}
use Rattle.timetable.proofs.Departing.{listed-are}
use Rattle.timetable.specs.Loaded.{AreLoaded}

-- it is the departure of a live event
abbrev IsOfLive : State → Departure → Type 0
IsOfLive st d = (d.key.dep ≡ true) × Contains (live_keys (events st)) d.key

module _ {nw : Network} {st : State} {times : StoredTimes} {list : List Departure} (trains : All IsTrain st.trains) (listed : AreListed nw st times (live_keys (events st)) list) where
  keys : List Key
  keys = filter is_departure (live_keys (events st))

  each : All (IsOfLive st) list
  unfolding keys
  each =
      All-permutation (IsOfLive st) (map (stored_departure nw st times) keys) list listed.moved
      (All-map (IsOfLive st) (stored_departure nw st times) keys (λ i d l.
      let own = filtered is_departure (live_keys (events st)) (get_or keys i d) (All-contains_itself keys i d l) in
      (own.1, own.0)))

  pub listed-depart : All (λ d. d.key.dep ≡ true) list
  listed-depart = λ i d l. (each i d l).0

  pub listed-placed : All (λ d. HasPlace (next_labels st) d.key) list
  listed-placed = λ i d l. has-place st trains (get_or list i d).key (each i d l).1

  -- two departures of one call have one key
  one-key : (a b : Departure) → IsOfLive st a → IsOfLive st b → a.key.train ≡ b.key.train → a.key.label ≡ b.key.label → a.key ≡ b.key
  one-key a b h i train label =
      let u = keyed-live (events st) a.key h.1 in
      let v = keyed-live (events st) b.key i.1 in
      let dep : a.key.dep ≡ b.key.dep = h.0 ∙ sym i.0 in
      let node : node_of a.key ≡ node_of b.key = rw (train, label, dep) refl in
      let same = events-unique st trains u.0 v.0 u.1 v.1 (ap node_of u.2 ∙ node ∙ sym (ap node_of v.2)) in
      sym u.2 ∙ ap (λ e. e.key) same ∙ v.2

  pub listed-apart : AllPairs (λ a b. is_of_call a.key.train a.key.label b ≡ false) list
  listed-apart = λ i j d l m.
      let a = get_or list i d in
      let b = get_or list j d in
      false_from_ne_true (is_of_call a.key.train a.key.label b) (λ hit.
      let call = of-call a.key.train a.key.label b hit in
      let same = one-key b a (each j d m) (each i d (omega (arith, l, m))) call.0 call.1 in
      let less = listed.ascends i j d l m in
      let none = before-itself a.key in
      let both : is_before a.key a.key ≡ true = ap (is_before a.key) (sym same) ∙ less in
      absurd (cc))

  -- no more than are live, and as many as are listed among these
  listed-long : length list ≡ length keys
  unfolding keys
  listed-long = length_permutation (map (stored_departure nw st times) (filter is_departure (live_keys (events st)))) list listed.moved ∙ length-map (filter is_departure (live_keys (events st))) (stored_departure nw st times)

  -- put in order with places and room, they are those of the state
  pub loaded : IsSettled nw st times → (o : Ordered) → o.departures ≡ in_order leaves_before list → o.entries ≡ map (λ d. Some d) list ++ replicate (2 * st.spare_calls) None → o.used ≡ length list → o.labels ≡ next_labels st → o.spare_trains ≡ st.spare_trains → o.spare_calls ≡ st.spare_calls → AreLoaded nw st o
  unfolding keys
  loaded settled o departures entries used labels spare_trains spare_calls =
      let many : length o.entries ≡ length list + 2 * st.spare_calls =
      ap length entries ∙ length-append (map (λ d. Some d) list) (replicate (2 * st.spare_calls) None)
      ∙ ap (λ n. n + length (replicate {A = Option Departure} (2 * st.spare_calls) None)) (length-map list (λ d. Some d))
      ∙ ap (λ n. length list + n) (length-replicate (2 * st.spare_calls) None) in
      record {
        departures = departures ∙ listed-are nw st times list settled listed;
        places = record { labels = labels; spare_trains = spare_trains; spare_calls = spare_calls };
        numbers = many ∙ ap (λ n. n + 2 * st.spare_calls) listed-long;
        room = omega (arith, many, used);
      }

pub order-loaded : {E : Type 0} {nw : Network} {st : State} {times : StoredTimes} {list : List Departure} (result : Result Ordered E) → (settled : IsSettled nw st times) → AreListed nw st times (live_keys (events st)) list
    → IfOk result (λ o. o.departures ≡ in_order leaves_before list) → IfOk result (λ o. o.entries ≡ map (λ d. Some d) list ++ replicate (2 * st.spare_calls) None) → IfOk result (λ o. o.used ≡ length list)
    → IfOk result (λ o. o.labels ≡ next_labels st) → IfOk result (λ o. o.spare_trains ≡ st.spare_trains) → IfOk result (λ o. o.spare_calls ≡ st.spare_calls) → IfOk result (AreLoaded nw st)
order-loaded (Err e) settled listed d e1 u l t s = tt
order-loaded (Ok o) settled listed d e1 u l t s = loaded settled.valid.trains listed settled o d e1 u l t s
