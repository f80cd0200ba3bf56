-- The ride of a name, along the calls of its train.
use Rattle.std.proofs.Common.{◌≡◌, inl, inr, ℕ, suc, Bool, true, false, cond, nat_eq, List, [], ◌∷◌, ◌++◌, Option, Some, None, is_some, find, length, slice_get, ◌<◌, refl, sym, ◌∙◌, ap, subst, arith}
use Rattle.std.specs.List.{All}
use Rattle.std.specs.Option.{option_and_then, option_map, option_map_or}
use Rattle.std.proofs.lemmas.Bool.{cases_Bool, eqb-true}
use Rattle.std.proofs.lemmas.List.{append_assoc}
use Rattle.std.proofs.lemmas.List.Elements.{All-cons, All-nil}
use Rattle.std.proofs.lemmas.Option.{none-some, same_Some}
use Rattle.mt_base.specs.declared.certificates.CertRide.{CertRide}
use Rattle.mt_base.specs.declared.journeys.PlanRide.{PlanRide}
use Rattle.mt_base.specs.declared.keys.Node.{Node}
use Rattle.delay_model.specs.declared.network.Network.{Network}
use Rattle.delay_model.specs.declared.state.Call.{Call}
use Rattle.delay_model.specs.declared.state.State.{State}
use Rattle.delay_model.specs.Cuts.{after}
use Rattle.delay_model.specs.Effect.{is_call}
use Rattle.delay_model.specs.Events.{calls_of, is_live}
use Rattle.delay_model.specs.Journeys.{StopsAndGoesOn}
use Rattle.delay_model.specs.Valid.{HasDistinctLabels, IsValid}
use Rattle.train_nodes.specs.Calls.{call_named, has_call, label_after, values_of}
use Rattle.train_nodes.proofs.EventLemmas.{live-named}
use Rattle.timetable.specs.LiveTimes.{live_time}
use Rattle.journey_laws.specs.Rides.{ride_between}
use Rattle.journey_laws.proofs.RideLemmas.{is-at, labelled}
use Rattle.journey_cert.proofs.CallLemmas.{IsNextCall, calls-distinct, next-named, time-of_call}
use Rattle.standing_laws.specs.Standings.{reached_call, ride_from, ride_now}

-- the calls of a train after the one with a label
abbrev pub calls_behind : State → ℕ → ℕ → List Call
calls_behind st train label = after (is_call label) (calls_of st train)

-- the arrival (dep false) or the departure (dep true) of a call
abbrev node : ℕ → ℕ → Bool → Node
node train label dep = record { train = train; label = label; dep = dep }

-- a call is live where its event is
live-of : (nw : Network) (st : State) → IsValid nw st → (train label : ℕ) (dep : Bool) (c : Call)
    → call_named st train label ≡ Some c → is_live st (node train label dep) ≡ (values_of dep c).live
live-of nw st valid train label dep c named =
    live-named st (node train label dep) (calls-distinct st valid.trains train) ∙ ap (λ o. option_map_or (λ (c : Call). (values_of dep c).live) o false) named

-- the last call: nothing is reached behind it
pub reached-none : (nw : Network) (st : State) (train label alight : ℕ) → None ≡ label_after (calls_of st train) label → false ≡ is_some (reached_call alight (calls_behind st train label))
reached-none nw st train label alight none = by (calls_behind st train label) refl
  where
    by : (cs : List Call) → calls_behind st train label ≡ cs → false ≡ is_some (reached_call alight cs)
    by [] is = refl
    by (c ∷ cs) is = absurd (none-some c.label (none ∙ ap (λ (cs : List Call). option_map (λ (c : Call). c.label) (slice_get cs 0)) is))

module _ (nw : Network) (st : State) (valid : IsValid nw st) (train label : ℕ) (there : has_call st train label ≡ true) (alight next : ℕ)
    (after : Some next ≡ label_after (calls_of st train) label) where
  at : IsNextCall st train label next
  at = next-named nw st valid train label there next (sym after)

  -- what is reached behind a call, by the next one
  step : reached_call alight (calls_behind st train label) ≡ cond at.call.arrival.live
      (cond (nat_eq next alight) (Some at.call) (cond at.call.departure.live (reached_call alight (calls_behind st train next)) None)) None
  step =
      ap (reached_call alight) at.split
      ∙ ap (λ l. cond at.call.arrival.live (cond (nat_eq l alight) (Some at.call) (cond at.call.departure.live (reached_call alight at.rest) None)) None) at.named
      ∙ ap (λ cs. cond at.call.arrival.live (cond (nat_eq next alight) (Some at.call) (cond at.call.departure.live (reached_call alight cs) None)) None) (sym at.onward)

  arrives : is_live st (node train next false) ≡ at.call.arrival.live
  arrives = live-of nw st valid train next false at.call at.found

  departs : is_live st (node train next true) ≡ at.call.departure.live
  departs = live-of nw st valid train next true at.call at.found

  pub by-dead : false ≡ is_live st (node train next false) → false ≡ is_some (reached_call alight (calls_behind st train label))
  by-dead dead =
      let not : at.call.arrival.live ≡ false = sym arrives ∙ sym dead in
      sym (ap {B = Bool} is_some step ∙ rw not refl)

  pub by-here : true ≡ is_live st (node train next false) → nat_eq next alight ≡ true → true ≡ is_some (reached_call alight (calls_behind st train label))
  by-here live here =
      let arr : at.call.arrival.live ≡ true = sym arrives ∙ sym live in
      sym (ap {B = Bool} is_some step ∙ rw (arr, here) refl)

  pub by-end : true ≡ is_live st (node train next false) → nat_eq next alight ≡ false → false ≡ is_live st (node train next true)
      → false ≡ is_some (reached_call alight (calls_behind st train label))
  by-end live apart ends =
      let arr : at.call.arrival.live ≡ true = sym arrives ∙ sym live in
      let dep : at.call.departure.live ≡ false = sym departs ∙ sym ends in
      sym (ap {B = Bool} is_some step ∙ rw (arr, apart, dep) refl)

  pub by-later : true ≡ is_live st (node train next false) → nat_eq next alight ≡ false → true ≡ is_live st (node train next true)
      → is_some (reached_call alight (calls_behind st train next)) ≡ is_some (reached_call alight (calls_behind st train label))
  by-later live apart goes =
      let arr : at.call.arrival.live ≡ true = sym arrives ∙ sym live in
      let dep : at.call.departure.live ≡ true = sym departs ∙ sym goes in
      sym (ap {B = Bool} is_some step ∙ rw (arr, apart, dep) refl)

  pub is-next : has_call st train next ≡ true
  is-next = ap is_some at.found

  pub fewer : length (calls_behind st train next) < length (calls_behind st train label)
  fewer =
      let size : length (calls_behind st train label) ≡ suc (length at.rest) = ap length at.split in
      let less : length (calls_behind st train next) ≡ length at.rest = ap length at.onward in
      omega arith

-- the call that is reached, among those behind which it stands
pub record IsReached (alight : ℕ) (cs : List Call) (d : Call) : Type 0 where
  pub earlier : List Call
  pub later : List Call
  pub split : cs ≡ earlier ++ d ∷ later
  pub label : d.label ≡ alight
  pub passes : All StopsAndGoesOn earlier
  pub live : d.arrival.live ≡ true

reached-by : (alight : ℕ) (c : Call) (cs : List Call) (d : Call) → (reached_call alight cs ≡ Some d → IsReached alight cs d) → (arrives here goes : Bool) → c.arrival.live ≡ arrives
    → nat_eq c.label alight ≡ here → c.departure.live ≡ goes
    → cond arrives (cond here (Some c) (cond goes (reached_call alight cs) None)) None ≡ Some d → IsReached alight (c ∷ cs) d
reached-by alight c cs d more false here goes live named leaves reached = absurd (none-some d reached)
reached-by alight c cs d more true true goes live named leaves reached =
    let same : c ≡ d = same_Some c d reached in
    record {
      earlier = [];
      later = cs;
      split = λ i. same i ∷ cs;
      label = sym (ap (λ (x : Call). x.label) same) ∙ eqb-true c.label alight named;
      passes = All-nil StopsAndGoesOn;
      live = sym (ap (λ (x : Call). x.arrival.live) same) ∙ live;
    }
reached-by alight c cs d more true false false live named leaves reached = absurd (none-some d reached)
reached-by alight c cs d more true false true live named leaves reached =
    let r = more reached in
    record {
      earlier = c ∷ r.earlier;
      later = r.later;
      split = λ i. c ∷ r.split i;
      label = r.label;
      passes = All-cons StopsAndGoesOn c r.earlier (live, leaves) r.passes;
      live = r.live;
    }

pub reached-split : (alight : ℕ) (cs : List Call) (d : Call) → reached_call alight cs ≡ Some d → IsReached alight cs d
reached-split alight [] d reached = absurd (none-some d reached)
reached-split alight (c ∷ cs) d reached =
    reached-by alight c cs d (reached-split alight cs d) c.arrival.live (nat_eq c.label alight) c.departure.live refl refl refl reached

-- both calls of a ride that is there
pub record HasCalls (nw : Network) (st : State) (train board alight : ℕ) : Type 0 where
  pub first : Call
  pub last : Call
  pub boarded : call_named st train board ≡ Some first
  pub reached : reached_call alight (calls_behind st train board) ≡ Some last
  pub alighted : call_named st train alight ≡ Some last
  pub arrives : last.arrival.live ≡ true

some-of : {X : Type 0} (o : Option X) → is_some o ≡ true → (x : X) × (o ≡ Some x)
some-of None there = absurd (cc)
some-of (Some x) there = (x, refl)

pub none-of : {X : Type 0} (o : Option X) → is_some o ≡ false → o ≡ None
none-of None there = refl
none-of (Some x) there = absurd (cc)

pub has-calls : (nw : Network) (st : State) → IsValid nw st → (train board alight : ℕ) → has_call st train board ≡ true
    → is_some (reached_call alight (calls_behind st train board)) ≡ true
    → HasCalls nw st train board alight
has-calls nw st valid train board alight there runs =
    let c = some-of (call_named st train board) there in
    let d = some-of (reached_call alight (calls_behind st train board)) runs in
    let r = reached-split alight (calls_behind st train board) d.0 d.1 in
    let at = is-at board (calls_of st train) c.0 c.1 in
    let before = at.earlier ++ c.0 ∷ r.earlier in
    let whole : calls_of st train ≡ before ++ d.0 ∷ r.later =
    at.split ∙ ap (λ es. at.earlier ++ c.0 ∷ es) r.split ∙ sym (append_assoc at.earlier (c.0 ∷ r.earlier) (d.0 ∷ r.later)) in
    let apart = subst HasDistinctLabels whole (calls-distinct st valid.trains train) in
    let found : find (is_call d.0.label) (calls_of st train) ≡ Some d.0 = subst (λ cs. find (is_call d.0.label) cs ≡ Some d.0) (sym whole) (labelled before d.0 r.later apart).0 in
    record { first = c.0; last = d.0; boarded = c.1; reached = d.1; alighted = subst (λ l. call_named st train l ≡ Some d.0) r.label found; arrives = r.live }

module _ (nw : Network) (st : State) (valid : IsValid nw st) (name : CertRide) where
  abbrev train : ℕ
  train = name.train

  -- no such call
  pub no-board : has_call st train name.board ≡ false → None ≡ ride_now nw st name
  no-board none = sym (ap (option_and_then (λ (c : Call). ride_from nw st train name.alight c (calls_behind st train name.board))) (none-of (call_named st train name.board) none))

  -- not reached from there
  pub no-run : is_some (reached_call name.alight (calls_behind st train name.board)) ≡ false → None ≡ ride_now nw st name
  no-run none =
      let far = none-of (reached_call name.alight (calls_behind st train name.board)) none in
      by far (call_named st train name.board) refl
    where
      by : reached_call name.alight (calls_behind st train name.board) ≡ None → (o : Option Call) → call_named st train name.board ≡ o
          → None ≡ option_and_then (λ (c : Call). ride_from nw st train name.alight c (calls_behind st train name.board)) o
      by far None is = refl
      by far (Some c) is = elim (cases_Bool c.departure.live) [
        | inl live ↦ rw (live, far) refl
        | inr dead ↦ rw dead refl
      ]

  module _ (calls : HasCalls nw st train name.board name.alight) where
    abbrev ride : PlanRide
    ride = ride_between nw st train 0 calls.first calls.last

    is-ride : ride_now nw st name ≡ cond calls.first.departure.live (Some ride) None
    is-ride = rw (calls.boarded, calls.reached) refl

    departs-at : live_time nw st (node train name.board true) ≡ cond calls.first.departure.live (Some ride.board_time) None
    departs-at = time-of_call nw st valid (node train name.board true) calls.first calls.boarded

    arrives-at : live_time nw st (node train name.alight false) ≡ Some ride.alight_time
    arrives-at = time-of_call nw st valid (node train name.alight false) calls.last calls.alighted ∙ rw calls.arrives refl

    -- it does not depart
    pub no-departure : live_time nw st (node train name.board true) ≡ None → None ≡ ride_now nw st name
    no-departure dead = elim (cases_Bool calls.first.departure.live) [
      | inl live ↦ absurd (none-some ride.board_time (sym dead ∙ rw live at departs-at))
      | inr not ↦ sym (rw not at is-ride)
    ]

    -- it arrives
    pub arrival-there : live_time nw st (node train name.alight false) ≡ None → ⊥
    arrival-there dead = none-some ride.alight_time (sym dead ∙ arrives-at)

    pub call-there : has_call st train name.alight ≡ true
    call-there = ap is_some calls.alighted

    pub ride-is : (board_stop board_time alight_stop alight_time : ℕ)
        → live_time nw st (node train name.board true) ≡ Some board_time
        → live_time nw st (node train name.alight false) ≡ Some alight_time
        → option_map (λ (c : Call). c.stop) (call_named st train name.board) ≡ Some board_stop
        → option_map (λ (c : Call). c.stop) (call_named st train name.alight) ≡ Some alight_stop
        → Some (record { train = train; board = name.board; board_stop = board_stop; board_time = board_time; alight = name.alight; alight_stop = alight_stop; alight_time = alight_time })
        ≡ ride_now nw st name
    ride-is board_stop board_time alight_stop alight_time departs arrives from to = elim (cases_Bool calls.first.departure.live) [
      | inr not ↦ absurd (none-some board_time (sym (rw not at departs-at) ∙ departs))
      | inl live ↦
          let b : ride.board_time ≡ board_time = same_Some ride.board_time board_time (sym (rw live at departs-at) ∙ departs) in
          let a : ride.alight_time ≡ alight_time = same_Some ride.alight_time alight_time (sym arrives-at ∙ arrives) in
          let f : calls.first.stop ≡ board_stop = same_Some calls.first.stop board_stop (rw calls.boarded at from) in
          let t : calls.last.stop ≡ alight_stop = same_Some calls.last.stop alight_stop (rw calls.alighted at to) in
          let own : calls.first.label ≡ name.board = (is-at name.board (calls_of st train) calls.first calls.boarded).named in
          let end : calls.last.label ≡ name.alight = (is-at name.alight (calls_of st train) calls.last calls.alighted).named in
          (λ i. Some (record { train = train; board = sym own i; board_stop = sym f i; board_time = sym b i; alight = sym end i; alight_stop = sym t i; alight_time = sym a i }))
          ∙ sym (rw live at is-ride)
    ]
