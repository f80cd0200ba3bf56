-- Rides run forward, and a change takes a second at least.
use Rattle.std.proofs.Common.{◌≡◌, ℕ, zero, suc, ◌+◌, ◌≤◌, ◌<◌, max, true, cond, ◌&&◌, nat_eq, List, [], ◌∷◌, ◌++◌, Option, Some, None, slice_get, refl, ◌∙◌, ap, subst, arith}
use Rattle.std.specs.List.{All}
use Rattle.std.specs.Option.{IfSome, option_map_or}
use Rattle.std.proofs.lemmas.Bool.{and_from, cond_both, cond-true}
use Rattle.std.proofs.lemmas.List.Elements.{All-cons, All-contains, All-get_or, All-head, All-nil, All-tail, Contains-append_right}
use Rattle.std.proofs.lemmas.Option.{get_or_from_slice_get, none-some, same_Some, slice_get_within}
use Rattle.mt_base.specs.declared.journeys.PlanRide.{PlanRide}
use Rattle.mt_base.specs.declared.keys.Key.{Key}
use Rattle.mt_base.specs.declared.options.Opts.{Opts}
use Rattle.mt_base.specs.declared.tables.TransferRow.{TransferRow}
use Rattle.mt_base.specs.Options.{IsInRange}
use Rattle.delay_model.specs.declared.network.Network.{Network}
use Rattle.delay_model.specs.declared.state.Call.{Call}
use Rattle.delay_model.specs.declared.state.Edge.{Edge}
use Rattle.delay_model.specs.declared.state.Event.{Event}
use Rattle.delay_model.specs.declared.state.State.{State}
use Rattle.delay_model.specs.declared.state.Train.{Train}
use Rattle.delay_model.specs.Changes.{is_stop, station, change, change_by, change_without_row, deciding_row}
use Rattle.delay_model.specs.Edges.{edge_on, edges_along, train_edge, train_edges}
use Rattle.delay_model.specs.Events.{arrival_of, departure_of, events_at, events_of}
use Rattle.delay_model.specs.Journeys.{IsInTime, IsRide, StopsAndGoesOn}
use Rattle.delay_model.specs.Timing.{event_time}
use Rattle.delay_model.specs.Valid.{IsValid}
use Rattle.delay_model.specs.AtStops.{AreAtStops, IsAtStop}
use Rattle.delay_model.proofs.Lists.{Contains-there}
use Rattle.delay_model.proofs.AlongTrains.{times-rise}

seconds-least : (default : ℕ) (o : Option ℕ) → 1 ≤ default → 1 ≤ option_map_or (λ s. max 1 s) o default
seconds-least default None h = h
seconds-least default (Some s) h = omega arith

row-least : (default : ℕ) (row : Option TransferRow) (rest : Option ℕ) → 1 ≤ default → IfSome rest (λ w. 1 ≤ w) → IfSome (option_map_or (change_by default) row rest) (λ w. 1 ≤ w)
row-least default None rest h k = k
row-least default (Some row) rest h k =
    let seconds = option_map_or (λ s. max 1 s) row.seconds default in
    let P : Option ℕ → Type 0 = λ o. IfSome o (λ w. 1 ≤ w) in
    cond_both (nat_eq row.kind 3) None (cond (nat_eq row.kind 2) (Some seconds) (Some default)) P (λ _. tt) (λ _.
    cond_both (nat_eq row.kind 2) (Some seconds) (Some default) P (λ _. seconds-least default row.seconds h) (λ _. h))

-- a change takes a second at least
change-least : (nw : Network) → IsInRange nw.opts → (a b w : ℕ) → change nw.stops nw.transfers nw.opts.change a b ≡ Some w → 1 ≤ w
unfolding change
change-least nw ranges a b w h =
    let P : Option ℕ → Type 0 = λ o. IfSome o (λ w. 1 ≤ w) in
    subst P h (row-least nw.opts.change (deciding_row nw.stops nw.transfers a b) (change_without_row nw.stops nw.opts.change a b) ranges.change_least
    (cond_both (nat_eq (station nw.stops a) (station nw.stops b)) (Some nw.opts.change) None P (λ _. ranges.change_least) (λ _. tt)))

-- so what is reached by a change is reached later
pub in_time-later : (nw : Network) → IsInRange nw.opts → (a t b s : ℕ) → IsInTime nw a t b s → t < s
in_time-later nw ranges a t b s h = let least = change-least nw ranges a b h.0 h.1 in let by = h.2 in omega arith

module _ {X : Type 0} (P : X → Type 0) where
  pub All-right : (xs ys : List X) → All P (xs ++ ys) → All P ys
  All-right [] ys h = h
  All-right (x ∷ xs) ys h = All-right xs ys (All-tail P x (xs ++ ys) h)

  pub All-left : (xs ys : List X) → All P (xs ++ ys) → All P xs
  All-left [] ys h = All-nil P
  All-left (x ∷ xs) ys h = All-cons P x xs (All-head P x (xs ++ ys) h) (All-left xs ys (All-tail P x (xs ++ ys) h))

module _ (P : Edge → Type 0) (o : Opts) where
  along-rest : (u : Event) (vs : List Event) → All P (edges_along o (u ∷ vs)) → All P (edges_along o vs)
  along-rest u vs h = All-right P (edge_on o u vs) (edges_along o vs) h

  along-first : (u v : Event) (vs : List Event) → u.live ≡ true → v.live ≡ true → All P (edges_along o (u ∷ v ∷ vs)) → P (train_edge o u v)
  along-first u v vs from to h =
      let e = train_edge o u v in
      let rest = edges_along o (v ∷ vs) in
      All-head P e rest (subst (λ es. All P (es ++ rest)) (cond-true (u.live && v.live) (e ∷ []) [] (and_from u.live v.live from to)) h)

  train-edges : (first : ℕ) (ts : List Train) (k : ℕ) (t : Train) → slice_get ts k ≡ Some t → All P (train_edges o first ts) → (n : ℕ) → n ≡ first + k → All P (edges_along o (events_of n t))
  train-edges first [] k t there h n at = absurd (none-some t there)
  train-edges first (s ∷ ts) zero t there h n at =
      let along = All-left P (edges_along o (events_of first s)) (train_edges o (first + 1) ts) h in
      let number : first ≡ n = omega arith in
      subst (λ m. All P (edges_along o (events_of m t))) number (subst (λ u. All P (edges_along o (events_of first u))) (same_Some s t there) along)
  train-edges first (s ∷ ts) (suc k) t there h n at =
      train-edges (first + 1) ts k t there (All-right P (edges_along o (events_of first s)) (train_edges o (first + 1) ts) h) n (omega arith)

  from-departure : (train route : ℕ) (before : List Call) (c : Call) (cs : List Call) → All P (edges_along o (events_at train route (before ++ c ∷ cs))) → All P (edges_along o (departure_of train route c ∷ events_at train route cs))
  from-departure train route [] c cs h = along-rest (arrival_of train route c) (departure_of train route c ∷ events_at train route cs) h
  from-departure train route (d ∷ before) c cs h =
      let rest = events_at train route (before ++ c ∷ cs) in
      from-departure train route before c cs (along-rest (departure_of train route d) rest (along-rest (arrival_of train route d) (departure_of train route d ∷ rest) h))

abbrev Rises : (Key → ℕ) → Edge → Type 0
Rises t e = t e.from ≤ t e.to

-- from a departure to a later arrival along live events the time does not fall
runs-forward : (o : Opts) (t : Key → ℕ) (train route : ℕ) (c : Call) (between : List Call) (a : Call) (after : List Call) → c.departure.live ≡ true → All StopsAndGoesOn between → a.arrival.live ≡ true → All (Rises t) (edges_along o (departure_of train route c ∷ events_at train route (between ++ a ∷ after))) → t (departure_of train route c).key ≤ t (arrival_of train route a).key
runs-forward o t train route c [] a after departs passes arrives h =
    along-first (Rises t) o (departure_of train route c) (arrival_of train route a) (departure_of train route a ∷ events_at train route after) departs arrives h
runs-forward o t train route c (b ∷ between) a after departs passes arrives h =
    let rest = events_at train route (between ++ a ∷ after) in
    let from = departure_of train route c in
    let at = arrival_of train route b in
    let on = departure_of train route b in
    let lives = All-head StopsAndGoesOn b between passes in
    let here = along-rest (Rises t) o from (at ∷ on ∷ rest) h in
    let one : t from.key ≤ t at.key = along-first (Rises t) o from at (on ∷ rest) departs lives.0 h in
    let two : t at.key ≤ t on.key = along-first (Rises t) o at on rest lives.0 lives.1 here in
    let three = runs-forward o t train route b between a after lives.1 (All-tail StopsAndGoesOn b between passes) arrives (along-rest (Rises t) o at (on ∷ rest) here) in
    omega arith

-- a ride arrives not before it departs
pub ride-forward : (nw : Network) (st : State) → IsValid nw st → (r : PlanRide) → IsRide nw st r → r.board_time ≤ r.alight_time
ride-forward nw st valid r ride =
    let t = event_time nw st in
    let route = ride.by_train.route in
    let cs = ride.calls_between ++ ride.alighted ∷ ride.calls_after in
    let along = train-edges (Rises t) nw.opts 0 st.trains r.train ride.by_train ride.is_train (times-rise nw st valid) r.train (omega arith) in
    let from =
    from-departure (Rises t) nw.opts r.train route ride.calls_before ride.boarded cs
    (subst (λ ds. All (Rises t) (edges_along nw.opts (events_at r.train route ds))) ride.are_calls along)
    in
    let le = runs-forward nw.opts t r.train route ride.boarded ride.calls_between ride.alighted ride.calls_after ride.departs ride.passes ride.arrives from in
    let at_board = ride.board_time in
    let at_alight = ride.alight_time in
    omega arith

-- a ride begins at a stop, where every call is at one
pub ride-at_stop : (nw : Network) (st : State) → AreAtStops nw.stops st → (r : PlanRide) → IsRide nw st r → is_stop nw.stops r.board_stop ≡ true
ride-at_stop nw st at_stops r ride =
    let Each : Train → Type 0 = λ t. All (IsAtStop nw.stops) t.calls in
    let t = ride.by_train in
    let of_train = subst Each (get_or_from_slice_get st.trains r.train t t ride.is_train) (All-get_or Each st.trains r.train t (slice_get_within st.trains r.train t ride.is_train) at_stops) in
    let rest = ride.boarded ∷ (ride.calls_between ++ ride.alighted ∷ ride.calls_after) in
    ap (is_stop nw.stops) ride.board_stop ∙ All-contains (IsAtStop nw.stops) (ride.calls_before ++ rest) ride.boarded (subst (All (IsAtStop nw.stops)) ride.are_calls of_train) (Contains-append_right ride.calls_before rest ride.boarded (0, omega arith, refl))

-- a ride ends at a stop
pub alights-at_stop : (nw : Network) (st : State) → AreAtStops nw.stops st → (r : PlanRide) → IsRide nw st r → is_stop nw.stops r.alight_stop ≡ true
alights-at_stop nw st at_stops r ride =
    let Each : Train → Type 0 = λ t. All (IsAtStop nw.stops) t.calls in
    let t = ride.by_train in
    let of_train = subst Each (get_or_from_slice_get st.trains r.train t t ride.is_train) (All-get_or Each st.trains r.train t (slice_get_within st.trains r.train t ride.is_train) at_stops) in
    let there = Contains-append_right ride.calls_before (ride.boarded ∷ (ride.calls_between ++ ride.alighted ∷ ride.calls_after)) ride.alighted (Contains-there ride.boarded _ ride.alighted (Contains-append_right ride.calls_between (ride.alighted ∷ ride.calls_after) ride.alighted (0, omega arith, refl))) in
    ap (is_stop nw.stops) ride.alight_stop ∙ All-contains (IsAtStop nw.stops) (ride.calls_before ++ ride.boarded ∷ (ride.calls_between ++ ride.alighted ∷ ride.calls_after)) ride.alighted (subst (All (IsAtStop nw.stops)) ride.are_calls of_train) there
