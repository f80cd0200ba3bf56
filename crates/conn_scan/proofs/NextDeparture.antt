-- The call of a departure, and what its train does next.
use Rattle.std.proofs.Common.{◌≡◌, ℕ, ◌≤◌, true, cond, List, ◌∷◌, ◌++◌, Option, Some, None, slice_get, length, refl, sym, ◌∙◌, ap, subst, inl, inr, arith}
use Rattle.std.specs.List.{All, AllPairs, Contains}
use Rattle.std.specs.Option.{option_map}
use Rattle.std.specs.Cmp.{IsTotalOrder}
use Rattle.std.specs.Ordering.{is_lt, ordering_reverse}
use Rattle.std.specs.declared.cmp.Ordering.{Ordering}
use Rattle.std.specs.declared.cmp.Ordering.TheVariants.{Equal, Greater, Less}
use Rattle.std.proofs.lemmas.Cmp.{nat_cmp_total, on_total, then_total}
use Rattle.mt_base.proofs.KeyLemmas.{keys_total}
use Rattle.std.proofs.lemmas.Bool.{true≢false, cases_Bool, cases_lt}
use Rattle.std.proofs.lemmas.List.Elements.{All-get_or}
use Rattle.std.proofs.lemmas.Option.{get_or_from_slice_get, none-some, same_Some, slice_get_within}
use Rattle.mt_base.specs.declared.keys.Key.{Key}
use Rattle.mt_base.specs.declared.keys.Node.{Node}
use Rattle.mt_base.specs.Order.{is_before, node_of}
use Rattle.delay_model.specs.declared.network.Network.{Network}
use Rattle.delay_model.specs.declared.state.Call.{Call}
use Rattle.delay_model.specs.declared.state.State.{State}
use Rattle.delay_model.specs.declared.state.Train.{Train}
use Rattle.delay_model.specs.Cuts.{after}
use Rattle.delay_model.specs.Effect.{is_call, node_at}
use Rattle.delay_model.specs.Events.{arrival_of, calls_of, departure_of}
use Rattle.delay_model.specs.Timing.{event_time}
use Rattle.delay_model.specs.Valid.{HasDistinctLabels, IsTrain, IsValid}
use Rattle.train_nodes.specs.Calls.{call_named}
use Rattle.dep_order.specs.declared.departure.Departure.{Departure}
use Rattle.dep_order.specs.Departing.{departure_cmp, held, leaves_before}
use Rattle.dep_order.specs.Ordered.{Ordered, onward_at}
use Rattle.timetable.specs.Onward.{IsOnward}
use Rattle.conn_scan.proofs.TrainLine.{cut-at, next-at, one-before, rises-at}

-- a live departure, at its call of its train
pub record IsAtItsCall (nw : Network) (st : State) (d : Departure) : Type 0 where
  pub train : Train
  pub is_train : slice_get st.trains d.key.train ≡ Some train
  pub call : Call
  pub found : call_named st d.key.train d.key.label ≡ Some call
  pub live : call.departure.live ≡ true
  pub key : (departure_of d.key.train train.route call).key ≡ d.key
  pub time : d.time ≡ event_time nw st d.key
  pub stop : d.stop ≡ cond call.board call.stop (length nw.stops)

-- what the numbers of departures tell: each is that of one live departure, each live departure has one, and beside it stands what its train does next
pub record AreNumbered (nw : Network) (st : State) (o : Ordered) : Type 0 where
  pub valid : IsValid nw st
  pub each : (n : ℕ) (d : Departure) → held o.entries n ≡ Some d → IsAtItsCall nw st d
  pub all : (train : ℕ) (t : Train) (before : List Call) (c : Call) (cs : List Call) → slice_get st.trains train ≡ Some t → t.calls ≡ before ++ c ∷ cs → c.departure.live ≡ true → (n : ℕ) × (d : Departure) × (held o.entries n ≡ Some d) × (d.key ≡ (departure_of train t.route c).key)
  pub one : (i j : ℕ) (d e : Departure) → held o.entries i ≡ Some d → held o.entries j ≡ Some e → node_of d.key ≡ node_of e.key → i ≡ j
  pub onward : (n : ℕ) (d : Departure) → held o.entries n ≡ Some d → IsOnward nw st o.entries d.key (onward_at o n)
  pub order : AllPairs (λ d e. leaves_before d e ≡ true) o.departures
  pub listed : (n : ℕ) (d : Departure) → held o.entries n ≡ Some d → Contains o.departures d
  pub numbered : (d : Departure) → Contains o.departures d → (n : ℕ) × (held o.entries n ≡ Some d)

pub calls-are : (st : State) (train : ℕ) (t : Train) → slice_get st.trains train ≡ Some t → calls_of st train ≡ t.calls
calls-are st train t there = rw there refl

pub train-good : (st : State) → All IsTrain st.trains → (train : ℕ) (t : Train) → slice_get st.trains train ≡ Some t → IsTrain t
train-good st good train t there = subst IsTrain (get_or_from_slice_get st.trains train t t there) (All-get_or IsTrain st.trains train t (slice_get_within st.trains train t there) good)

-- where the train of a departure arrives next
pub record HasNext (nw : Network) (st : State) (o : Ordered) (n : ℕ) (d : Departure) : Type 0 where
  pub at : IsAtItsCall nw st d
  pub call : Call
  pub found : call_named st d.key.train call.label ≡ Some call
  pub split : after (is_call d.key.label) (calls_of st d.key.train) ≡ call ∷ after (is_call call.label) (calls_of st d.key.train)
  pub arrives : call.arrival.live ≡ true
  pub arrival : (onward_at o n).arrival ≡ event_time nw st (arrival_of d.key.train 0 call).key
  pub to : (onward_at o n).to ≡ cond call.alight call.stop (length nw.stops)
  pub next : option_map (λ (f : Departure). node_of f.key) (held o.entries (onward_at o n).next) ≡ cond call.departure.live (Some (node_at d.key.train call.label true)) None

-- how it goes on to its next departure
pub record GoesOnTo {nw : Network} {st : State} {o : Ordered} {n : ℕ} {d : Departure} (h : HasNext nw st o n d) (f : Departure) : Type 0 where
  pub departs : h.call.departure.live ≡ true
  pub named : node_of f.key ≡ node_at d.key.train h.call.label true

next-named : (st : State) (train label : ℕ) (call : Call) (f : Option Departure) (g : Departure) → option_map (λ (f : Departure). node_of f.key) f ≡ cond call.departure.live (Some (node_at train label true)) None → f ≡ Some g → (call.departure.live ≡ true) × (node_of g.key ≡ node_at train label true)
next-named st train label call f g next is = elim (cases_Bool call.departure.live) [
  | inl live ↦ (live, same_Some _ _ (rw (is, live) at next))
  | inr dead ↦ absurd (none-some _ (sym (rw (is, dead) at next)))
]

next-there : (train label : ℕ) (call : Call) (f : Option Departure) → option_map (λ (f : Departure). node_of f.key) f ≡ cond call.departure.live (Some (node_at train label true)) None → call.departure.live ≡ true → (g : Departure) × (f ≡ Some g) × (node_of g.key ≡ node_at train label true)
next-there train label call None next live = absurd (none-some _ (rw live at next))
next-there train label call (Some g) next live = (g, refl, same_Some _ _ (rw live at next))

-- both are departures
pub departs-both : {nw : Network} {st : State} (d e : Departure) → IsAtItsCall nw st d → IsAtItsCall nw st e → d.key.dep ≡ e.key.dep
departs-both d e h k = ap (λ (k : Key). k.dep) (sym h.key) ∙ ap (λ (k : Key). k.dep) k.key

module _ (nw : Network) (st : State) (o : Ordered) (are : AreNumbered nw st o) where
  distinct-at : (train : ℕ) (t : Train) → slice_get st.trains train ≡ Some t → HasDistinctLabels (calls_of st train)
  distinct-at train t there = subst HasDistinctLabels (sym (calls-are st train t there)) (train-good st are.valid.trains train t there).labels

  pub has-next : (n : ℕ) (d : Departure) → held o.entries n ≡ Some d → HasNext nw st o n d
  has-next n d there =
      let at = are.each n d there in
      let on = are.onward n d there in
      let by = next-at (calls_of st d.key.train) (distinct-at d.key.train at.train at.is_train) d.key.label on.label on.call on.is_next on.found in
      let named = by.named in
      record {
        at = at;
        call = on.call;
        found = subst (λ l. call_named st d.key.train l ≡ Some on.call) (sym named) on.found;
        split = by.split ∙ ap (λ l. on.call ∷ after (is_call l) (calls_of st d.key.train)) (sym named);
        arrives = on.arrives;
        arrival = on.arrival;
        to = on.to;
        next = rw named on.next;
      }

  pub goes-on-to : (n : ℕ) (d f : Departure) (h : HasNext nw st o n d) → held o.entries (onward_at o n).next ≡ Some f → GoesOnTo h f
  goes-on-to n d f h there =
      let by = next-named st d.key.train h.call.label h.call (held o.entries (onward_at o n).next) f h.next there in
      record { departs = by.0; named = by.1 }

  pub goes-on : (n : ℕ) (d : Departure) (h : HasNext nw st o n d) → h.call.departure.live ≡ true → (f : Departure) × (held o.entries (onward_at o n).next ≡ Some f) × GoesOnTo h f
  goes-on n d h live =
      let by = next-there d.key.train h.call.label h.call (held o.entries (onward_at o n).next) h.next live in
      (by.0, by.1, record { departs = live; named = by.2 })

  -- two departures of which one departure is the next are one
  pub next-one : (i j m : ℕ) (d e f : Departure) → held o.entries i ≡ Some d → held o.entries j ≡ Some e → held o.entries m ≡ Some f → (onward_at o i).next ≡ m → (onward_at o j).next ≡ m → i ≡ j
  next-one i j m d e f at_i at_j at_m next_i next_j =
      let h = has-next i d at_i in
      let k = has-next j e at_j in
      let on = goes-on-to i d f h (ap (held o.entries) next_i ∙ at_m) in
      let too = goes-on-to j e f k (ap (held o.entries) next_j ∙ at_m) in
      let both : node_at d.key.train h.call.label true ≡ node_at e.key.train k.call.label true = sym on.named ∙ too.named in
      let train : d.key.train ≡ e.key.train = ap (λ (n : Node). n.train) both in
      let label : h.call.label ≡ k.call.label = ap (λ (n : Node). n.label) both in
      let cs = calls_of st d.key.train in
      let its : call_named st d.key.train h.call.label ≡ Some k.call = subst (λ l. call_named st d.key.train l ≡ Some k.call) (sym label) (subst (λ t. call_named st t k.call.label ≡ Some k.call) (sym train) k.found) in
      let same : k.call ≡ h.call = same_Some k.call h.call (sym its ∙ h.found) in
      let split : after (is_call e.key.label) cs ≡ h.call ∷ after (is_call h.call.label) cs =
      subst (λ t. after (is_call e.key.label) (calls_of st t) ≡ k.call ∷ after (is_call k.call.label) (calls_of st t)) (sym train) k.split
      ∙ ap (λ (c : Call). c ∷ after (is_call c.label) cs) same
      in
      let calls = one-before cs d.key.label e.key.label h.call (after (is_call h.call.label) cs) h.split split in
      are.one i j d e at_i at_j (λ t. record { train = train t; label = calls t; dep = departs-both d e (are.each i d at_i) (are.each j e at_j) t })

departures_order : IsTotalOrder departure_cmp
departures_order = then_total (on_total (λ d. d.time) nat_cmp_total) (then_total (on_total (λ d. d.key) keys_total) (on_total (λ d. d.stop) nat_cmp_total))

less-is : (o : Ordering) → is_lt o ≡ true → o ≡ Less
less-is Less h = refl
less-is Equal h = absurd (cc)
less-is Greater h = absurd (cc)

pub leaves-on : (a b c : Departure) → leaves_before a b ≡ true → leaves_before b c ≡ true → leaves_before a c ≡ true
unfolding leaves_before
leaves-on a b c h k = ap is_lt (departures_order.trans a b c (less-is (departure_cmp a b) h) (less-is (departure_cmp b c) k))

-- of two departures at most one leaves before the other
pub never-both : (a b : Departure) → leaves_before a b ≡ true → leaves_before b a ≡ true → ⊥
unfolding leaves_before
never-both a b h k = true≢false (sym k ∙ ap is_lt (departures_order.antisymm b a ∙ ap ordering_reverse (less-is (departure_cmp a b) h)))

-- what leaves before another is not later
pub leaves-not-later : (a b : Departure) → leaves_before a b ≡ true → a.time ≤ b.time
unfolding leaves_before
leaves-not-later a b h = elim (cases_lt b.time a.time) [ inl lt ↦ grind arith | inr ge ↦ ge ]

-- from a departure to the next arrival of its train, and on to the next departure
pub record IsLater (o : Ordered) (n : ℕ) (d : Departure) : Type 0 where
  pub arrives : d.time ≤ (onward_at o n).arrival
  pub departs : (f : Departure) → held o.entries (onward_at o n).next ≡ Some f → ((onward_at o n).arrival ≤ f.time) × (is_before d.key f.key ≡ true)

-- a departure of the same second or earlier, with a key before
pub leaves-from : (d f : Departure) → d.time ≤ f.time → is_before d.key f.key ≡ true → leaves_before d f ≡ true
unfolding leaves_before is_before
leaves-from d f le before = elim (cases_lt d.time f.time) [ inl lt ↦ grind arith | inr ge ↦ (let same : d.time ≡ f.time = omega arith in grind arith) ]

module _ (nw : Network) (st : State) (o : Ordered) (are : AreNumbered nw st o) where
  pub is-later : (n : ℕ) (d : Departure) → held o.entries n ≡ Some d → IsLater o n d
  is-later n d there =
      let h = has-next nw st o are n d there in
      let at = h.at in
      let t = at.train in
      let train = d.key.train in
      let calls = calls-are st train t at.is_train in
      let cut = cut-at d.key.label (calls_of st train) at.call at.found in
      let whole : t.calls ≡ cut.earlier ++ at.call ∷ h.call ∷ after (is_call h.call.label) (calls_of st train) = sym calls ∙ cut.split ∙ ap (λ cs. cut.earlier ++ at.call ∷ cs) h.split in
      let rise = rises-at nw st are.valid train t at.is_train cut.earlier at.call h.call (after (is_call h.call.label) (calls_of st train)) whole at.live h.arrives in
      let leaves : event_time nw st (departure_of train t.route at.call).key ≡ d.time = ap (event_time nw st) at.key ∙ sym at.time in
      let travel = rise.travel in
      let arrival = h.arrival in
      record {
        arrives = omega arith;
        departs = λ f there_f.
            let on = goes-on-to nw st o are n d f h there_f in
            let too = are.each (onward_at o n).next f there_f in
            let its_train : f.key.train ≡ train = ap (λ (m : Node). m.train) on.named in
            let its_label : f.key.label ≡ h.call.label = ap (λ (m : Node). m.label) on.named in
            let found : call_named st train h.call.label ≡ Some too.call = subst (λ l. call_named st train l ≡ Some too.call) its_label (subst (λ k. call_named st k f.key.label ≡ Some too.call) its_train too.found) in
            let same : too.call ≡ h.call = same_Some too.call h.call (sym found ∙ h.found) in
            let key : (departure_of train t.route h.call).key ≡ f.key = (λ i. (departure_of (sym its_train i) t.route (sym same i)).key) ∙ too.key in
            let stay = rise.stay on.departs in
            let goes : event_time nw st (departure_of train t.route h.call).key ≡ f.time = ap (event_time nw st) key ∙ sym too.time in
            ((omega arith), subst (λ k. is_before k f.key ≡ true) at.key (subst (λ k. is_before (departure_of train t.route at.call).key k ≡ true) key (rise.latest on.departs)));
      }

  -- a train's next departure leaves later, or stands later in the same second
  pub next-later : (n : ℕ) (d f : Departure) → held o.entries n ≡ Some d → held o.entries (onward_at o n).next ≡ Some f → leaves_before d f ≡ true
  next-later n d f there next =
      let later = is-later n d there in
      let on = later.departs f next in
      let first = later.arrives in
      let then = on.0 in
      leaves-from d f (omega arith) on.1
