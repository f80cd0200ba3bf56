-- Stretches of trains: how they are put together, and the rides along them.
use Rattle.std.proofs.Common.{◌≡◌, ℕ, zero, suc, ◌≤◌, ◌<◌, Bool, true, false, cond, nat_lt, ◌⊎◌, List, [], ◌∷◌, ◌++◌, Some, slice_get, length, unwrap_or, drop, refl, sym, ◌∙◌, ap, subst, inl, inr, arith, rules}
use Rattle.std.specs.List.{All}
use Rattle.std.proofs.lemmas.Bool.{ltb-true}
use Rattle.std.proofs.lemmas.List.{append_assoc}
use Rattle.std.proofs.lemmas.List.Elements.{All-contains, All-get_or, All-head, All-nil, All-push, All-tail, Contains-append_right}
use Rattle.std.proofs.lemmas.Option.{get_or_from_slice_get, same_Some, slice_get_within}
use Rattle.mt_base.specs.declared.journeys.PlanRide.{PlanRide}
use Rattle.mt_base.specs.declared.keys.Key.{Key}
use Rattle.mt_base.specs.declared.keys.Node.{Node}
use Rattle.mt_base.specs.declared.tables.StopRow.{StopRow}
use Rattle.delay_model.specs.declared.network.Network.{Network}
use Rattle.delay_model.specs.declared.state.Call.{Call}
use Rattle.delay_model.specs.declared.state.State.{State}
use Rattle.delay_model.specs.declared.state.Train.{Train}
use Rattle.delay_model.specs.Changes.{is_stop}
use Rattle.delay_model.specs.AtStops.{AreAtStops, IsAtStop}
use Rattle.delay_model.specs.Cuts.{after}
use Rattle.delay_model.specs.Effect.{is_call}
use Rattle.delay_model.specs.Events.{arrival_of, calls_of, departure_of}
use Rattle.delay_model.specs.Journeys.{IsRide, StopsAndGoesOn}
use Rattle.delay_model.specs.Timing.{event_time}
use Rattle.delay_model.specs.Valid.{HasDistinctLabels}
use Rattle.train_nodes.specs.Calls.{call_named, first_label, label_after}
use Rattle.dep_order.specs.declared.departure.Departure.{Departure}
use Rattle.dep_order.specs.Departing.{held, leaves_before}
use Rattle.dep_order.specs.Ordered.{Ordered, onward_at}
use Rattle.conn_scan.specs.Stretches.{IsAfter, IsHeld, IsRideOf, IsStretch, departure_at, may_alight, may_board, ride_of}
use Rattle.conn_scan.proofs.TrainLine.{cut-at, labelled-at}
use Rattle.conn_scan.proofs.NextDeparture.{AreNumbered, leaves-not-later, leaves-on, next-one, calls-are, goes-on, goes-on-to, has-next, is-later, next-later, train-good}

module _ (o : Ordered) where
  -- both ends of a stretch are numbers of departures
  pub after-first : (k b e : ℕ) → IsAfter o k b e → IsHeld o b
  after-first zero b e h = h.0
  after-first (suc k) b e h = after-first k b h.0 h.1

  pub after-last : (k b e : ℕ) → IsAfter o k b e → IsHeld o e
  after-last zero b e h = subst (IsHeld o) h.1 h.0
  after-last (suc k) b e h = h.3

  -- one departure more, behind the last
  pub stretch-more : (b m e : ℕ) → IsStretch o b m → (onward_at o m).next ≡ e → IsHeld o e → IsStretch o b e
  stretch-more b m e h next there = (suc h.0, (m, h.1, next, there))

  pub stretch-none : (b : ℕ) → IsHeld o b → IsStretch o b b
  stretch-none b there = (zero, (there, refl))

  -- one departure more, before the first
  pub after-more : (k b e : ℕ) → IsHeld o b → IsAfter o k (onward_at o b).next e → IsAfter o (suc k) b e
  after-more zero b e there h = (b, (there, refl), h.1, subst (IsHeld o) h.1 h.0)
  after-more (suc k) b e there h = (h.0, after-more k b h.0 there h.1, h.2, h.3)

  -- stretches are joined where one begins with the departure with which the other ends
  pub after-join : (j k b m e : ℕ) → IsAfter o j b m → IsAfter o k m e → IsStretch o b e
  after-join j zero b m e h r = (j, subst (IsAfter o j b) r.1 h)
  after-join j (suc k) b m e h r = stretch-more b r.0 e (after-join j k b m r.0 h r.1) r.2 r.3

  pub stretch-join : (b m e : ℕ) → IsStretch o b m → IsStretch o m e → IsStretch o b e
  stretch-join b m e h r = after-join h.0 r.0 b m e h.1 r.1

  -- a stretch that is longer than a departure: from its last but one
  pub record IsLastStep (b e : ℕ) : Type 0 where
    pub before : ℕ
    pub stretch : IsStretch o b before
    pub next : (onward_at o before).next ≡ e
    pub there : IsHeld o e

  pub last-step : (k b e : ℕ) → IsAfter o (suc k) b e → IsLastStep b e
  last-step k b e h = record { before = h.0; stretch = (k, h.1); next = h.2; there = h.3 }

  pub last-or-none : (b e : ℕ) → IsStretch o b e → (b ≡ e) ⊎ IsLastStep b e
  last-or-none b e h = by-last h.0 h.1
    where
      by-last : (k : ℕ) → IsAfter o k b e → (b ≡ e) ⊎ IsLastStep b e
      by-last zero r = inl r.1
      by-last (suc k) r = inr (last-step k b e r)

  -- and to its first but one
  pub record IsFirstStep (b e : ℕ) : Type 0 where
    pub there : IsHeld o b
    pub stretch : IsStretch o (onward_at o b).next e

  pub after-rest : (k b e : ℕ) → IsAfter o (suc k) b e → IsAfter o k (onward_at o b).next e
  after-rest zero b e h =
      let next : (onward_at o b).next ≡ e = ap (λ n. (onward_at o n).next) h.1.1 ∙ h.2 in
      (subst (IsHeld o) (sym next) h.3, next)
  after-rest (suc k) b e h = (h.0, after-rest k b h.0 h.1, h.2, h.3)

  pub first-step : (k b e : ℕ) → IsAfter o (suc k) b e → IsFirstStep b e
  first-step k b e h = record { there = after-first (suc k) b e h; stretch = (k, after-rest k b e h) }

  pub first-or-none : (b e : ℕ) → IsStretch o b e → (b ≡ e) ⊎ IsFirstStep b e
  first-or-none b e h = by-first h.0 h.1
    where
      by-first : (k : ℕ) → IsAfter o k b e → (b ≡ e) ⊎ IsFirstStep b e
      by-first zero r = inl r.1
      by-first (suc k) r = inr (first-step k b e r)

  -- a stretch is cut after any count of departures
  pub after-cut : (j n b e : ℕ) → j ≤ n → IsAfter o n b e → (m : ℕ) × IsAfter o j b m × IsStretch o m e
  after-cut zero n b e le h = (b, (after-first n b e h, refl), (n, h))
  after-cut (suc j) zero b e le h = absurd (omega arith)
  after-cut (suc j) (suc n) b e le h =
      let r = after-cut j n (onward_at o b).next e (omega arith) (after-rest n b e h) in
      (r.0, after-more j b r.0 (after-first (suc n) b e h) r.1, r.2)

  -- two stretches that begin with one departure: the end of the one is on the other
  pub after-two : (j k b m e : ℕ) → IsAfter o j b m → IsAfter o k b e → j ≤ k → IsStretch o m e
  after-two zero k b m e h r le = subst (λ n. IsStretch o n e) h.1 (k, r)
  after-two (suc j) zero b m e h r le = absurd (omega arith)
  after-two (suc j) (suc k) b m e h r le = after-two j k (onward_at o b).next m e (after-rest j b m h) (after-rest k b e r) (omega arith)

same-head : {X : Type 0} {x y : X} {xs ys : List X} → x ∷ xs ≡ y ∷ ys → x ≡ y
same-head {x = x} {y = y} h = same_Some x y (ap (λ zs. slice_get zs 0) h)

same-tail : {X : Type 0} {x y : X} {xs ys : List X} → x ∷ xs ≡ y ∷ ys → xs ≡ ys
same-tail h = ap (λ zs. drop 1 zs) h

-- the number of a stop is one of a place
pub stop-below : (stops : List StopRow) (b : ℕ) → is_stop stops b ≡ true → b < length stops
stop-below [] b h = absurd (cc)
stop-below (s ∷ stops) zero h = omega arith
stop-below (s ∷ stops) (suc b) h = let l = stop-below stops b h in omega arith

-- each call is at a stop
call-at_stop : (nw : Network) (st : State) → AreAtStops nw.stops st → (train : ℕ) (t : Train) → slice_get st.trains train ≡ Some t → (before : List Call) (c : Call) (cs : List Call) → t.calls ≡ before ++ c ∷ cs → is_stop nw.stops c.stop ≡ true
call-at_stop nw st stops train t there before c cs split =
    let Each : Train → Type 0 = λ t. All (IsAtStop nw.stops) t.calls in
    let own : All (IsAtStop nw.stops) t.calls = subst Each (get_or_from_slice_get st.trains train t t there) (All-get_or Each st.trains train t (slice_get_within st.trains train t there) stops) in
    All-contains (IsAtStop nw.stops) (before ++ c ∷ cs) c (subst (All (IsAtStop nw.stops)) split own) (Contains-append_right before (c ∷ cs) c (0, omega arith, refl))

named-at_stop : (nw : Network) (st : State) → AreAtStops nw.stops st → (train : ℕ) (t : Train) → slice_get st.trains train ≡ Some t → (label : ℕ) (c : Call) → call_named st train label ≡ Some c → is_stop nw.stops c.stop ≡ true
named-at_stop nw st stops train t there label c found =
    let cs = calls_of st train in
    let cut = cut-at label cs c found in
    call-at_stop nw st stops train t there cut.earlier c (after (is_call label) cs) (sym (calls-are st train t there) ∙ cut.split)

at-stop : (nw : Network) (st : State) → AreAtStops nw.stops st → (train : ℕ) (t : Train) → slice_get st.trains train ≡ Some t → (before : List Call) (c : Call) (cs : List Call) → t.calls ≡ before ++ c ∷ cs → nat_lt c.stop (length nw.stops) ≡ true
at-stop nw st stops train t there before c cs split =
    let below = stop-below nw.stops c.stop (call-at_stop nw st stops train t there before c cs split) in
    search (rules, below)

alight-there : (nw : Network) (st : State) → AreAtStops nw.stops st → (r : PlanRide) → IsRide nw st r → nat_lt r.alight_stop (length nw.stops) ≡ true
alight-there nw st stops r ride =
    let before = ride.calls_before ++ ride.boarded ∷ ride.calls_between in
    subst (λ s. nat_lt s (length nw.stops) ≡ true) (sym ride.alight_stop) (at-stop nw st stops r.train ride.by_train ride.is_train before ride.alighted ride.calls_after (ride.are_calls ∙ sym (append_assoc ride.calls_before (ride.boarded ∷ ride.calls_between) (ride.alighted ∷ ride.calls_after))))

board-there : (nw : Network) (st : State) → AreAtStops nw.stops st → (r : PlanRide) → IsRide nw st r → nat_lt r.board_stop (length nw.stops) ≡ true
board-there nw st stops r ride = subst (λ s. nat_lt s (length nw.stops) ≡ true) (sym ride.board_stop) (at-stop nw st stops r.train ride.by_train ride.is_train ride.calls_before ride.boarded (ride.calls_between ++ ride.alighted ∷ ride.calls_after) ride.are_calls)

-- the departure of a number
pub departure-is : (o : Ordered) (n : ℕ) (d : Departure) → held o.entries n ≡ Some d → departure_at o n ≡ d
departure-is o n d there = rw there refl

-- a ride begins with a departure
record BoardsBy (d : Departure) (r : PlanRide) : Type 0 where
  train : d.key.train ≡ r.train
  label : d.key.label ≡ r.board
  stop : d.stop ≡ r.board_stop
  time : d.time ≡ r.board_time

-- the departure with which a ride begins, with the calls that follow
record Boards (nw : Network) (st : State) (o : Ordered) (r : PlanRide) (rest : List Call) : Type 0 where
  number : ℕ
  departure : Departure
  there : held o.entries number ≡ Some departure
  train : departure.key.train ≡ r.train
  label : departure.key.label ≡ r.board
  stop : departure.stop ≡ r.board_stop
  time : departure.time ≡ r.board_time
  follows : after (is_call departure.key.label) (calls_of st departure.key.train) ≡ rest

-- a ride ends where the train arrives after a departure
record Alights (st : State) (o : Ordered) (r : PlanRide) (e : ℕ) (f : Departure) : Type 0 where
  label : unwrap_or (label_after (calls_of st f.key.train) f.key.label) 0 ≡ r.alight
  stop : (onward_at o e).to ≡ r.alight_stop
  time : (onward_at o e).arrival ≡ r.alight_time

same-ride : (st : State) (o : Ordered) (r : PlanRide) (b e : ℕ) → BoardsBy (departure_at o b) r → (f : Departure) → departure_at o e ≡ f → Alights st o r e f → ride_of st o b e ≡ r
same-ride st o r b e begins f last ends =
    let label : unwrap_or (label_after (calls_of st (departure_at o e).key.train) (departure_at o e).key.label) 0 ≡ r.alight = subst (λ (x : Departure). unwrap_or (label_after (calls_of st x.key.train) x.key.label) 0 ≡ r.alight) (sym last) ends.label in
    λ i. record { train = begins.train i; board = begins.label i; board_stop = begins.stop i; board_time = begins.time i; alight = label i; alight_stop = ends.stop i; alight_time = ends.time i }

-- the train of one departure goes on to another
pub record IsAlong (nw : Network) (st : State) (o : Ordered) (b e : ℕ) : Type 0 where
  pub from : Departure
  pub from_there : held o.entries b ≡ Some from
  pub last : Departure
  pub last_there : held o.entries e ≡ Some last
  pub train : last.key.train ≡ from.key.train
  pub between : List Call
  pub split : after (is_call from.key.label) (calls_of st from.key.train) ≡ between ++ after (is_call last.key.label) (calls_of st from.key.train)
  pub passes : All StopsAndGoesOn between

module _ (nw : Network) (st : State) (o : Ordered) (are : AreNumbered nw st o) where
  along : (k b e : ℕ) → IsAfter o k b e → IsAlong nw st o b e
  along zero b e h =
      let d = h.0.0 in
      record { from = d; from_there = h.0.1; last = d; last_there = subst (λ n. held o.entries n ≡ Some d) h.1 h.0.1; train = refl; between = []; split = refl; passes = All-nil StopsAndGoesOn }
  along (suc k) b e h =
      let so_far = along k b h.0 h.1 in
      let d = so_far.last in
      let f = h.3.0 in
      let train = so_far.from.key.train in
      let cs = calls_of st train in
      let next = has-next nw st o are h.0 d so_far.last_there in
      let on = goes-on-to nw st o are h.0 d f next (ap (held o.entries) h.2 ∙ h.3.1) in
      let its_train : f.key.train ≡ d.key.train = ap (λ (n : Node). n.train) on.named in
      let its_label : f.key.label ≡ next.call.label = ap (λ (n : Node). n.label) on.named in
      let c = next.call in
      let ends : after (is_call d.key.label) cs ≡ c ∷ after (is_call f.key.label) cs =
      subst (λ t. after (is_call d.key.label) (calls_of st t) ≡ c ∷ after (is_call c.label) (calls_of st t)) so_far.train next.split
      ∙ ap (λ l. c ∷ after (is_call l) cs) (sym its_label)
      in
      record {
        from = so_far.from;
        from_there = so_far.from_there;
        last = f;
        last_there = h.3.1;
        train = its_train ∙ so_far.train;
        between = so_far.between ++ c ∷ [];
        split = so_far.split ∙ ap (λ ds. so_far.between ++ ds) ends ∙ sym (append_assoc so_far.between (c ∷ []) (after (is_call f.key.label) cs));
        passes = All-push StopsAndGoesOn so_far.between c so_far.passes (next.arrives, on.departs);
      }

  boards-there : (b : Bool) (stop : ℕ) → nat_lt (cond b stop (length nw.stops)) (length nw.stops) ≡ true → b ≡ true
  boards-there true stop h = refl
  boards-there false stop h = let l = ltb-true (length nw.stops) (length nw.stops) h in absurd (omega arith)

  -- what is boarded and left along a stretch is a ride
  ride-along : (b e : ℕ) (h : IsAlong nw st o b e) → may_board nw h.from ≡ true → may_alight nw (onward_at o e) ≡ true → IsRide nw st (ride_of st o b e)
  ride-along b e h boards alights =
      let d = h.from in
      let f = h.last in
      let train = d.key.train in
      let cs = calls_of st train in
      let at = are.each b d h.from_there in
      let next = has-next nw st o are e f h.last_there in
      let c = at.call in
      let a = next.call in
      let t = at.train in
      let cut = cut-at d.key.label cs c at.found in
      let ends : after (is_call f.key.label) cs ≡ a ∷ after (is_call a.label) cs = subst (λ k. after (is_call f.key.label) (calls_of st k) ≡ a ∷ after (is_call a.label) (calls_of st k)) h.train next.split in
      let may : c.board ≡ true = boards-there c.board c.stop (rw at.stop at boards) in
      let lets : a.alight ≡ true = boards-there a.alight a.stop (rw next.to at alights) in
      let from : departure_at o b ≡ d = departure-is o b d h.from_there in
      let last : departure_at o e ≡ f = departure-is o e f h.last_there in
      let label : unwrap_or (label_after (calls_of st f.key.train) f.key.label) 0 ≡ a.label = rw next.split refl in
      let own_train : (departure_at o b).key.train ≡ train = ap (λ (x : Departure). x.key.train) from in
      record {
        by_train = t;
        calls_before = cut.earlier;
        boarded = c;
        calls_between = h.between;
        alighted = a;
        calls_after = after (is_call a.label) cs;
        is_train = subst (λ k. slice_get st.trains k ≡ Some t) (sym own_train) at.is_train;
        are_calls = sym (calls-are st train t at.is_train) ∙ cut.split ∙ ap (λ ds. cut.earlier ++ c ∷ ds) (h.split ∙ ap (λ ds. h.between ++ ds) ends);
        board_label = ap (λ (x : Departure). x.key.label) from ∙ sym cut.named;
        board_stop = ap (λ (x : Departure). x.stop) from ∙ at.stop ∙ rw may refl;
        board_time = ap (λ (x : Departure). x.time) from ∙ at.time ∙ ap (event_time nw st) (sym at.key) ∙ ap (λ k. event_time nw st (departure_of k t.route c).key) (sym own_train);
        alight_label = ap (λ (x : Departure). unwrap_or (label_after (calls_of st x.key.train) x.key.label) 0) last ∙ label;
        alight_stop = next.to ∙ rw lets refl;
        alight_time = next.arrival ∙ ap (λ k. event_time nw st (arrival_of k t.route a).key) (h.train ∙ sym own_train);
        departs = at.live;
        passes = h.passes;
        arrives = next.arrives;
        may_board = may;
        may_alight = lets;
      }

  pub stretch-ride : (b e : ℕ) → IsStretch o b e → may_board nw (departure_at o b) ≡ true → may_alight nw (onward_at o e) ≡ true → IsRide nw st (ride_of st o b e)
  stretch-ride b e h boards alights =
      let by = along h.0 b e h.1 in
      ride-along b e by (subst (λ d. may_board nw d ≡ true) (departure-is o b by.from by.from_there) boards) alights

  -- from a departure on, the train comes to the one whose next arrival is at a call after it
  reaches : (m : ℕ) (d : Departure) → held o.entries m ≡ Some d → (between : List Call) (a : Call) (rest : List Call) → after (is_call d.key.label) (calls_of st d.key.train) ≡ between ++ a ∷ rest → All StopsAndGoesOn between → (e : ℕ) × (f : Departure) × (held o.entries e ≡ Some f) × IsStretch o m e × (f.key.train ≡ d.key.train) × (after (is_call f.key.label) (calls_of st d.key.train) ≡ a ∷ rest)
  reaches m d there [] a rest split passes = (m, d, there, stretch-none o m (d, there), refl, split)
  reaches m d there (c ∷ between) a rest split passes =
      let lives = All-head StopsAndGoesOn c between passes in
      let h = has-next nw st o are m d there in
      let cs = calls_of st d.key.train in
      let both : c ∷ (between ++ a ∷ rest) ≡ h.call ∷ after (is_call h.call.label) cs = sym split ∙ h.split in
      let same : c ≡ h.call = same-head both in
      let ends : between ++ a ∷ rest ≡ after (is_call h.call.label) cs = same-tail both in
      let on = goes-on nw st o are m d h (ap (λ (c : Call). c.departure.live) (sym same) ∙ lives.1) in
      let f = on.0 in
      let n = (onward_at o m).next in
      let its_train : f.key.train ≡ d.key.train = ap (λ (k : Node). k.train) on.2.named in
      let its_label : f.key.label ≡ h.call.label = ap (λ (k : Node). k.label) on.2.named in
      let begins : after (is_call f.key.label) (calls_of st f.key.train) ≡ between ++ a ∷ rest =
      (λ i. after (is_call (its_label i)) (calls_of st (its_train i))) ∙ sym ends
      in
      let r = reaches n f on.1 between a rest begins (All-tail StopsAndGoesOn c between passes) in (
        r.0,
        r.1,
        r.2,
        stretch-join o m n r.0 (stretch-more o m m n (stretch-none o m (d, there)) refl (f, on.1)) r.3,
        r.4 ∙ its_train,
        subst (λ t. after (is_call r.1.key.label) (calls_of st t) ≡ a ∷ rest) its_train r.5,
      )

  -- the departure with which a ride begins
  boards-at : (r : PlanRide) (ride : IsRide nw st r) → Boards nw st o r (ride.calls_between ++ ride.alighted ∷ ride.calls_after)
  boards-at r ride =
      let t = ride.by_train in
      let c = ride.boarded in
      let train = r.train in
      let rest = ride.calls_between ++ ride.alighted ∷ ride.calls_after in
      let first = are.all train t ride.calls_before c rest ride.is_train ride.are_calls ride.departs in
      let d = first.1 in
      let at = are.each first.0 d first.2 in
      let its_train : d.key.train ≡ train = ap (λ (k : Key). k.train) first.3 in
      let its_label : d.key.label ≡ c.label = ap (λ (k : Key). k.label) first.3 in
      let calls = calls-are st train t ride.is_train in
      let good = (train-good st are.valid.trains train t ride.is_train).labels in
      let by = labelled-at ride.calls_before c rest (subst HasDistinctLabels ride.are_calls good) in
      let found : call_named st train c.label ≡ Some c = rw (calls, ride.are_calls) by.0 in
      let follows : after (is_call c.label) (calls_of st train) ≡ rest = rw (calls, ride.are_calls) by.1 in
      let named : call_named st d.key.train d.key.label ≡ call_named st train c.label = λ i. call_named st (its_train i) (its_label i) in
      let same : at.call ≡ c = same_Some at.call c (sym at.found ∙ (named ∙ found)) in
      let may : at.call.board ≡ true = ap (λ (c : Call). c.board) same ∙ ride.may_board in
      let stop : d.stop ≡ at.call.stop = at.stop ∙ (rw may refl) in
      record {
        number = first.0;
        departure = d;
        there = first.2;
        train = its_train;
        label = its_label ∙ sym ride.board_label;
        stop = stop ∙ (ap (λ (c : Call). c.stop) same ∙ sym ride.board_stop);
        time = at.time ∙ (ap (event_time nw st) first.3 ∙ sym ride.board_time);
        follows = subst (λ k. after (is_call d.key.label) (calls_of st k) ≡ rest) (sym its_train) (subst (λ l. after (is_call l) (calls_of st train) ≡ rest) (sym its_label) follows);
      }

  -- and the last one before its end
  alights-at : (r : PlanRide) (ride : IsRide nw st r) (e : ℕ) (f : Departure) → held o.entries e ≡ Some f → f.key.train ≡ r.train → after (is_call f.key.label) (calls_of st f.key.train) ≡ ride.alighted ∷ ride.calls_after → Alights st o r e f
  alights-at r ride e f there its_train ends =
      let next = has-next nw st o are e f there in
      let c = next.call in
      let a = ride.alighted in
      let same : c ≡ a = same-head (sym next.split ∙ ends) in
      let lets : c.alight ≡ true = ap (λ (c : Call). c.alight) same ∙ ride.may_alight in
      let stop : (onward_at o e).to ≡ c.stop = next.to ∙ (rw lets refl) in
      let key : (arrival_of f.key.train 0 c).key ≡ (arrival_of r.train ride.by_train.route a).key = λ i. (arrival_of (its_train i) 0 (same i)).key in
      record {
        label = ap (λ (cs : List Call). unwrap_or (first_label cs) 0) ends ∙ sym ride.alight_label;
        stop = stop ∙ (ap (λ (c : Call). c.stop) same ∙ sym ride.alight_stop);
        time = next.arrival ∙ (ap (event_time nw st) key ∙ sym ride.alight_time);
      }

  -- each ride is along a stretch
  pub ride-stretch : AreAtStops nw.stops st → (r : PlanRide) → IsRide nw st r → IsRideOf nw st o r
  ride-stretch stops r ride =
      let begins = boards-at r ride in
      let d = begins.departure in
      let far = reaches begins.number d begins.there ride.calls_between ride.alighted ride.calls_after begins.follows ride.passes in
      let e = far.0 in
      let f = far.1 in
      let ends : after (is_call f.key.label) (calls_of st f.key.train) ≡ ride.alighted ∷ ride.calls_after =
      subst (λ k. after (is_call f.key.label) (calls_of st k) ≡ ride.alighted ∷ ride.calls_after) (sym far.4) far.5
      in
      let until = alights-at r ride e f far.2 (far.4 ∙ begins.train) ends in
      let own = subst (λ (x : Departure). BoardsBy x r) (sym (departure-is o begins.number d begins.there)) (record { train = begins.train; label = begins.label; stop = begins.stop; time = begins.time }) in
      record {
        board = begins.number;
        last = e;
        stretch = far.3;
        boards = subst (λ s. nat_lt s (length nw.stops) ≡ true) (sym own.stop) (board-there nw st stops r ride);
        alights = subst (λ s. nat_lt s (length nw.stops) ≡ true) (sym until.stop) (alight-there nw st stops r ride);
        is = same-ride st o r begins.number e own f (departure-is o e f far.2) until;
      }

  -- a stretch that is longer than a departure leads to one that leaves later
  pub after-later : (k b e : ℕ) (d f : Departure) → IsAfter o (suc k) b e → held o.entries b ≡ Some d → held o.entries e ≡ Some f → leaves_before d f ≡ true
  after-later zero b e d f h at_b at_e = next-later nw st o are b d f at_b (ap (λ n. held o.entries (onward_at o n).next) h.1.1 ∙ ap (held o.entries) h.2 ∙ at_e)
  after-later (suc k) b e d f h at_b at_e =
      let m = after-last o (suc k) b h.0 h.1 in
      leaves-on d m.0 f (after-later k b h.0 d m.0 h.1 at_b m.1) (next-later nw st o are h.0 m.0 f m.1 (ap (held o.entries) h.2 ∙ at_e))

  -- along a stretch the times do not fall
  pub stretch-times : (b e : ℕ) (d f : Departure) → IsStretch o b e → held o.entries b ≡ Some d → held o.entries e ≡ Some f → (d.time ≤ f.time) × (f.time ≤ (onward_at o e).arrival)
  stretch-times b e d f h at_b at_e = (rises h.0 h.1, (is-later nw st o are e f at_e).arrives)
    where
      rises : (k : ℕ) → IsAfter o k b e → d.time ≤ f.time
      rises zero r = let same = same_Some d f (sym at_b ∙ ap (held o.entries) r.1 ∙ at_e) in omega (arith, ap (λ (x : Departure). x.time) same)
      rises (suc k) r = leaves-not-later d f (after-later k b e d f r at_b at_e)

  -- two stretches that end with one departure: the beginning of the one is on the other
  pub after-back : (j k b m e : ℕ) → IsAfter o j m e → IsAfter o k b e → j ≤ k → IsStretch o b m
  after-back zero k b m e h r le = subst (IsStretch o b) (sym h.1) (k, r)
  after-back (suc j) zero b m e h r le = absurd (omega arith)
  after-back (suc j) (suc k) b m e h r le =
      let p = after-last o j m h.0 h.1 in
      let q = after-last o k b r.0 r.1 in
      let same = next-one nw st o are h.0 r.0 e p.0 q.0 h.3.0 p.1 q.1 h.3.1 h.2 r.2 in
      after-back j k b m h.0 h.1 (subst (IsAfter o k b) (sym same) r.1) (omega arith)

  -- a stop where passengers may board or alight is a stop or platform
  pub boards-at_stop : AreAtStops nw.stops st → (n : ℕ) (d : Departure) → held o.entries n ≡ Some d → may_board nw d ≡ true → is_stop nw.stops d.stop ≡ true
  boards-at_stop stops n d there boards =
      let at = are.each n d there in
      let may : at.call.board ≡ true = boards-there at.call.board at.call.stop (rw at.stop at boards) in
      let own : d.stop ≡ at.call.stop = at.stop ∙ (rw may refl) in
      subst (λ s. is_stop nw.stops s ≡ true) (sym own) (named-at_stop nw st stops d.key.train at.train at.is_train d.key.label at.call at.found)

  pub alights-at_stop : AreAtStops nw.stops st → (n : ℕ) (d : Departure) → held o.entries n ≡ Some d → may_alight nw (onward_at o n) ≡ true → is_stop nw.stops (onward_at o n).to ≡ true
  alights-at_stop stops n d there alights =
      let next = has-next nw st o are n d there in
      let lets : next.call.alight ≡ true = boards-there next.call.alight next.call.stop (rw next.to at alights) in
      let own : (onward_at o n).to ≡ next.call.stop = next.to ∙ (rw lets refl) in
      subst (λ s. is_stop nw.stops s ≡ true) (sym own) (named-at_stop nw st stops d.key.train next.at.train next.at.is_train next.call.label next.call next.found)
