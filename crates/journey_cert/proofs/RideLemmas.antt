-- A ride by its name: along the calls of its train, and among all rides.
use Rattle.std.proofs.Common.{◌≡◌, inl, inr, ℕ, suc, Bool, true, false, cond, ◌&&◌, nat_eq, List, [], ◌∷◌, Option, Some, None, is_some, find, length, slice_get, ◌<◌, refl, sym, ◌∙◌, ap, subst, arith}
use Rattle.std.specs.List.{Contains}
use Rattle.std.specs.Option.{option_and_then, option_map, option_map_or}
use Rattle.std.proofs.lemmas.Bool.{cases_Bool, eq-eqb, eqb-true}
use Rattle.std.proofs.lemmas.List.Elements.{All-contains}
use Rattle.std.proofs.lemmas.Option.{none-some, same_Some}
use Rattle.mt_base.specs.declared.certificates.CertRide.{CertRide}
use Rattle.mt_base.specs.declared.journeys.PlanRide.{PlanRide}
use Rattle.mt_base.specs.declared.keys.Node.{Node}
use Rattle.delay_model.specs.declared.network.Network.{Network}
use Rattle.delay_model.specs.declared.state.Call.{Call}
use Rattle.delay_model.specs.declared.state.State.{State}
use Rattle.delay_model.specs.declared.state.Train.{Train}
use Rattle.delay_model.specs.Cuts.{after}
use Rattle.delay_model.specs.Effect.{is_call}
use Rattle.delay_model.specs.Events.{calls_of}
use Rattle.delay_model.specs.Valid.{IsValid}
use Rattle.train_nodes.specs.Calls.{call_named, has_call}
use Rattle.timetable.specs.LiveTimes.{live_time}
use Rattle.journey_laws.specs.Certificates.{name_of}
use Rattle.journey_laws.specs.Checked.{ride_named}
use Rattle.journey_laws.specs.Rides.{BeginsWith, all_rides, departure_of_ride, rides_along, rides_at, rides_from}
use Rattle.journey_laws.proofs.CheckedLemmas.{find-some, find-there, named-ride, ride-named}
use Rattle.journey_laws.proofs.RideLemmas.{is-at, ride-listed, rides-begin}
use Rattle.journey_cert.specs.Calls.{arrival_at, arrival_by, boarding_at, boarding_of, calls_after, first_arrival, ride_to}
use Rattle.journey_cert.specs.declared.ride.Arrival.{Arrival}
use Rattle.journey_cert.specs.declared.ride.Boarding.{Boarding}
use Rattle.journey_cert.proofs.CallLemmas.{calls-distinct, next-call, time-of_call}

named-of : (o : Option Call) → is_some o ≡ true → (c : Call) × (o ≡ Some c)
named-of None there = absurd (cc)
named-of (Some c) there = (c, refl)

module _ (nw : Network) (st : State) (valid : IsValid nw st) (train label : ℕ) (there : has_call st train label ≡ true) where
  abbrev departing : Node
  departing = record { train = train; label = label; dep = true }

  -- who may board nowhere where the train does not depart
  pub boards-none : live_time nw st departing ≡ None → None ≡ boarding_at nw st train label
  boards-none dead =
      let c = named-of (call_named st train label) there in
      let time = time-of_call nw st valid departing c.0 c.1 in
      elim (cases_Bool c.0.departure.live) [
        | inl live ↦ absurd (none-some _ (sym dead ∙ rw live at time))
        | inr not ↦ rw (c.1, not) refl
      ]

  pub boards-at : (time stop : ℕ) → live_time nw st departing ≡ Some time → option_map (λ (c : Call). c.board) (call_named st train label) ≡ Some true → option_map (λ (c : Call). c.stop) (call_named st train label) ≡ Some stop → Some (record { train = train; label = label; stop = stop; time = time }) ≡ boarding_at nw st train label
  boards-at time stop live may at =
      let c = named-of (call_named st train label) there in
      let its = time-of_call nw st valid departing c.0 c.1 in
      let board : c.0.board ≡ true = same_Some c.0.board true (rw c.1 at may) in
      let same : c.0.stop ≡ stop = same_Some c.0.stop stop (rw c.1 at at) in
      elim (cases_Bool c.0.departure.live) [
        | inr not ↦ absurd (none-some time (sym (rw not at its) ∙ live))
        | inl goes ↦
            let by : (boarding_of nw st train label c.0).time ≡ time = same_Some _ time (sym (rw goes at its) ∙ live) in
            rw (c.1, goes, board) (λ i. Some (record { train = train; label = label; stop = sym same i; time = sym by i }))
      ]

-- the call of an arrival, and what stands after it
record IsArrival (nw : Network) (st : State) (train label : ℕ) (a : Arrival) : Type 0 where
  call : Call
  rest : List Call
  split : calls_after st train label ≡ call ∷ rest
  live : call.arrival.live ≡ true
  is : arrival_at nw st train call ≡ a
  found : call_named st train a.label ≡ Some call
  onward : calls_after st train a.label ≡ rest

module _ (nw : Network) (st : State) (valid : IsValid nw st) (train label : ℕ) (there : has_call st train label ≡ true) where
  first-of : (a : Arrival) (cs : List Call) → calls_after st train label ≡ cs → first_arrival nw st train cs ≡ Some a → IsArrival nw st train label a
  first-of a [] split first = absurd (none-some a first)
  first-of a (d ∷ ds) split first = elim (cases_Bool d.arrival.live) [
    | inr dead ↦ absurd (none-some a (rw dead at first))
    | inl live ↦
        let is = same_Some (arrival_at nw st train d) a (rw live at first) in
        let c = named-of (call_named st train label) there in
        let by = next-call (calls_of st train) (calls-distinct st valid.trains train) label c.0 c.1 d ds split in
        let same : d.label ≡ a.label = ap (λ (a : Arrival). a.label) is in
        record { call = d; rest = ds; split = split; live = live; is = is; found = subst (λ l. call_named st train l ≡ Some d) same by.0; onward = subst (λ l. calls_after st train l ≡ ds) same by.1 }
  ]

  arrives-of : (a : Arrival) → first_arrival nw st train (calls_after st train label) ≡ Some a → IsArrival nw st train label a
  arrives-of a first = first-of a (calls_after st train label) refl first

  live-first : (d : Call) (ds : List Call) → d.arrival.live ≡ true → first_arrival nw st train (d ∷ ds) ≡ Some (arrival_at nw st train d)
  live-first d ds live = rw live refl

  none-of : (alight : ℕ) (cs : List Call) → first_arrival nw st train cs ≡ None → None ≡ arrival_by nw st train alight cs
  none-of alight [] none = refl
  none-of alight (d ∷ ds) none = elim (cases_Bool d.arrival.live) [
    | inl live ↦ absurd (none-some (arrival_at nw st train d) (sym none ∙ live-first d ds live))
    | inr dead ↦ rw dead refl
  ]

  -- where the train arrives nowhere it does not arrive there
  pub by-none : (alight : ℕ) → first_arrival nw st train (calls_after st train label) ≡ None → None ≡ arrival_by nw st train alight (calls_after st train label)
  by-none alight none = none-of alight (calls_after st train label) none

  module _ (alight : ℕ) (a : Arrival) (first : first_arrival nw st train (calls_after st train label) ≡ Some a) where
    at : IsArrival nw st train label a
    at = arrives-of a first

    -- the next arrival is the one, or the last one, or the one is among those behind it
    step : arrival_by nw st train alight (calls_after st train label) ≡ cond (a.alights && nat_eq a.label alight) (Some a) (cond a.goes_on (arrival_by nw st train alight (calls_after st train a.label)) None)
    step =
        let d = at.call in
        let behind = arrival_by nw st train alight at.rest in
        let P : Arrival → Type 0 = λ a. arrival_by nw st train alight (d ∷ at.rest) ≡ cond (a.alights && nat_eq a.label alight) (Some a) (cond a.goes_on behind None) in
        ap (arrival_by nw st train alight) at.split ∙ subst P at.is (rw at.live refl)
        ∙ ap (λ cs. cond (a.alights && nat_eq a.label alight) (Some a) (cond a.goes_on (arrival_by nw st train alight cs) None)) (sym at.onward)

    pub by-here : (a.alights && nat_eq a.label alight) ≡ true → Some a ≡ arrival_by nw st train alight (calls_after st train label)
    by-here here = sym (rw here at step)

    pub by-end : (a.alights && nat_eq a.label alight) ≡ false → a.goes_on ≡ false → None ≡ arrival_by nw st train alight (calls_after st train label)
    by-end apart ends = sym (rw (apart, ends) at step)

    pub by-later : (a.alights && nat_eq a.label alight) ≡ false → a.goes_on ≡ true → arrival_by nw st train alight (calls_after st train a.label) ≡ arrival_by nw st train alight (calls_after st train label)
    by-later apart goes = sym (rw (apart, goes) at step)

    pub is-call : has_call st train a.label ≡ true
    is-call = ap is_some at.found

    pub fewer : length (calls_after st train a.label) < length (calls_after st train label)
    fewer =
        let size : length (calls_after st train label) ≡ suc (length at.rest) = ap length at.split in
        let less : length (calls_after st train a.label) ≡ length at.rest = ap length at.onward in
        omega arith

-- the ride to an arrival is among those along the calls, by the label where it ends
abbrev ends_at : ℕ → PlanRide → Bool
ends_at label r = nat_eq r.alight label

along : (nw : Network) (st : State) (train route label alight : ℕ) (c : Call) → c.label ≡ label → (ds : List Call) → find (ends_at alight) (rides_along nw st train route c ds) ≡ option_map (ride_to (boarding_of nw st train label c)) (arrival_by nw st train alight ds)
along nw st train route label alight c named [] = refl
along nw st train route label alight c named (d ∷ ds) =
    let rest = along nw st train route label alight c named ds in
    elim (cases_Bool d.arrival.live) [
      | inr dead ↦ rw dead refl
      | inl live ↦ elim (cases_Bool d.alight) [
        | inr not ↦ elim (cases_Bool d.departure.live) [
          | inl goes ↦ rw (live, not, goes) rest
          | inr ends ↦ rw (live, not, ends) refl
        ]
        | inl may ↦ elim (cases_Bool (nat_eq d.label alight)) [
          | inl here ↦ rw (live, may, here) (ap (λ l. Some (ride_to (boarding_of nw st train l c) (arrival_at nw st train d))) named)
          | inr apart ↦ elim (cases_Bool d.departure.live) [
            | inl goes ↦ rw (live, may, apart, goes) rest
            | inr ends ↦ rw (live, may, apart, ends) refl
          ]
        ]
      ]
    ]

-- the ride from one call to another of a train
abbrev pub ride_between_calls : Network → State → ℕ → ℕ → ℕ → Option PlanRide
ride_between_calls nw st train board alight =
    option_and_then (λ (b : Boarding). option_map (ride_to b) (arrival_by nw st train alight (calls_after st train board))) (boarding_at nw st train board)

module _ (nw : Network) (st : State) (train board alight : ℕ) where
  abbrev begun : List Call → Option Call → Option PlanRide
  begun cs o = option_and_then (λ (b : Boarding). option_map (ride_to b) (arrival_by nw st train alight (after (is_call board) cs))) (option_and_then (λ (c : Call). cond (c.departure.live && c.board) (Some (boarding_of nw st train board c)) None) o)

  by-call : (route : ℕ) (cs : List Call) (f : Option Call) → find (is_call board) cs ≡ f → find (ends_at alight) (option_map_or (λ (c : Call). cond (c.departure.live && c.board) (rides_along nw st train route c (after (is_call board) cs)) []) f []) ≡ begun cs f
  by-call route cs None found = refl
  by-call route cs (Some c) found =
      elim (cases_Bool (c.departure.live && c.board)) [
        | inl both ↦ rw both (along nw st train route board alight c (is-at board cs c found).named (after (is_call board) cs))
        | inr neither ↦ rw neither refl
      ]

  by-train : (o : Option Train) → find (ends_at alight) (option_map_or (λ (t : Train). rides_at nw st train t.route board t.calls) o []) ≡ begun (option_map_or (λ (t : Train). t.calls) o []) (find (is_call board) (option_map_or (λ (t : Train). t.calls) o []))
  by-train None = refl
  by-train (Some t) = by-call t.route t.calls (find (is_call board) t.calls) refl

  from-calls : find (ends_at alight) (rides_from nw st (record { train = train; label = board; dep = true })) ≡ ride_between_calls nw st train board alight
  unfolding rides_from
  from-calls = by-train (slice_get st.trains train)

module _ (nw : Network) (st : State) (valid : IsValid nw st) (c : CertRide) where
  abbrev from : Node
  from = record { train = c.train; label = c.board; dep = true }

  -- what is found along the calls has the name
  found-named : (r : PlanRide) → find (ends_at c.alight) (rides_from nw st from) ≡ Some r → ride_named (all_rides nw st) c ≡ Some r
  found-named r found =
      let there = find-some (ends_at c.alight) (rides_from nw st from) r found in
      let begins = All-contains (BeginsWith nw st from) (rides_from nw st from) r (rides-begin nw st from refl) there.0 in
      let alight = eqb-true r.alight c.alight there.1 in
      let name : name_of r ≡ c = λ i. record { train = (begins.departure i).train; board = (begins.departure i).label; alight = alight i } in
      subst (λ c. ride_named (all_rides nw st) c ≡ Some r) name (ride-named nw st valid r begins.ride)

  -- and where nothing is, no ride has it
  none-named : (o : Option PlanRide) → ride_named (all_rides nw st) c ≡ o → find (ends_at c.alight) (rides_from nw st from) ≡ None → o ≡ None
  none-named None named none = refl
  none-named (Some r) named none =
      let is = named-ride nw st valid c r named in
      let there = ride-listed nw st valid r is.0 in
      let same : departure_of_ride r ≡ from = λ i. record { train = (is.1 i).train; label = (is.1 i).board; dep = true } in
      let found = find-there (ends_at c.alight) (rides_from nw st from) r (subst (λ n. Contains (rides_from nw st n) r) same there) (eq-eqb r.alight c.alight (ap (λ (c : CertRide). c.alight) is.1)) in
      absurd (none-some found.0 (sym none ∙ found.1))

  same-found : (o : Option PlanRide) → find (ends_at c.alight) (rides_from nw st from) ≡ o → o ≡ ride_named (all_rides nw st) c
  same-found None none = sym (none-named (ride_named (all_rides nw st) c) refl none)
  same-found (Some r) found = sym (found-named r found)

  -- the ride between the calls of a name is the one that has it among all rides
  pub between-named : ride_between_calls nw st c.train c.board c.alight ≡ ride_named (all_rides nw st) c
  between-named = same-found (ride_between_calls nw st c.train c.board c.alight) (from-calls nw st c.train c.board c.alight)
