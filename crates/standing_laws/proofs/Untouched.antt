-- A message that changes no event of a journey's trains leaves its standing.
use Rattle.state_laws.proofs.Words.{◌≡◌, ℕ, suc, ◌+◌, Bool, false, cond, List, [], ◌∷◌, Option, Some, None, nat_eq, refl, arith, or_parts, eq-eqb, list_any, list_any_at, All, All-cons, All-nil}
use Rattle.state_laws.proofs.Words.{Contains, slice_get, option_map_or}
use Rattle.state_laws.proofs.Words.{Message, Network, State, Train, Event, Node, changed, node_of, effect, event_time, calls_of, IsValid, IsWellFormed, refusal}
use Rattle.std.proofs.lemmas.Bool.{both_ways}
use Rattle.mt_base.specs.declared.certificates.CertRide.{CertRide}
use Rattle.mt_base.specs.declared.journeys.PlanRide.{PlanRide}
use Rattle.mt_base.specs.declared.journeys.Query.{Query}
use Rattle.standing_laws.specs.declared.standings.Standing.TheVariants.{Broken}
use Rattle.journey_laws.specs.Checked.{is_from_origin, is_in_time}
use Rattle.standing_laws.specs.Standings.{ride_now, standing, standing_after}
use Rattle.standing_laws.specs.Standings.{is_on_one}
use Rattle.standing_laws.proofs.Bare.{AgreeAt, same-ride}
use Rattle.standing_laws.proofs.CallsAlike.{calls-alike}
use Rattle.standing_laws.proofs.Unchanged.{IsUnchanged, times-agree}

-- the times of a train's calls agree where none of its events is changed
agree-calls : (nw : Network) (old new : State) (n : ℕ) → IsUnchanged nw old new n → (o : Option Train) → slice_get old.trains n ≡ o
    → All (AgreeAt (event_time nw old) (event_time nw new) n) (option_map_or (λ (t : Train). t.calls) o [])
agree-calls nw old new n free None got = All-nil (AgreeAt (event_time nw old) (event_time nw new) n)
agree-calls nw old new n free (Some t) got = times-agree nw old new n free t got

-- rides that are as they were have the standing that they had
after-same : (nw : Network) (old new : State) (rides : List CertRide) (a t n : ℕ) → All (λ c. ride_now nw new c ≡ ride_now nw old c) rides
    → standing_after nw new a t n rides ≡ standing_after nw old a t n rides
after-same nw old new [] a t n h = refl
after-same nw old new (c ∷ cs) a t n h =
    let here : ride_now nw new c ≡ ride_now nw old c = h 0 c (omega arith) in
    let later = λ (r : PlanRide). after-same nw old new cs r.alight_stop r.alight_time (n + 1) (λ i d l. h (suc i) d (omega arith)) in
    λ i. option_map_or (λ (r : PlanRide). cond (is_in_time nw a t r.board_stop r.board_time) (later r i) (Broken n)) (here i) (Broken n)

standing-same : (nw : Network) (old new : State) (q : Query) (rides : List CertRide)
    → All (λ c. ride_now nw new c ≡ ride_now nw old c) rides → standing nw new q rides ≡ standing nw old q rides
standing-same nw old new q [] h = refl
standing-same nw old new q (c ∷ cs) h =
    let here : ride_now nw new c ≡ ride_now nw old c = h 0 c (omega arith) in
    let later = λ (r : PlanRide). after-same nw old new cs r.alight_stop r.alight_time 1 (λ i d l. h (suc i) d (omega arith)) in
    λ i. option_map_or (λ (r : PlanRide). cond (is_from_origin nw q r.board_stop r.board_time) (later r i) (Broken 0)) (here i) (Broken 0)

-- a train of which no event is among the names of those that are changed
unchanged-by : (nw : Network) (old new : State) (nodes : List Node) → ((v : Event) → Contains (changed nw old new) v → Contains nodes (node_of v.key)) → (train : ℕ)
    → list_any (λ (n : Node). nat_eq n.train train) nodes ≡ false → IsUnchanged nw old new train
unchanged-by nw old new nodes each train none v h own =
    let there = each v h in
    let p : Node → Bool = λ n. nat_eq n.train train in
    both_ways (list_any p nodes) none (list_any_at p nodes there.0 (node_of v.key) there.1 (rw there.2 (eq-eqb v.key.train train own)))

module _ (nw : Network) (st : State) (m : Message) (valid : IsValid nw st) (well : IsWellFormed m) (accepted : refusal nw st m ≡ None) where
  -- the ride of a name on it is as it was
  ride-same : (name : CertRide) → IsUnchanged nw st (effect st m) name.train → ride_now nw (effect st m) name ≡ ride_now nw st name
  ride-same name free =
      let n = name.train in
      same-ride (event_time nw st) (event_time nw (effect st m)) name (calls_of st n) (calls_of (effect st m) n) (calls-alike nw st m valid well accepted n free)
      (agree-calls nw st (effect st m) n free (slice_get st.trains n) refl)

  module _ (nodes : List Node) (each : (v : Event) → Contains (changed nw st (effect st m)) v → Contains nodes (node_of v.key)) where
    rides-same : (rides : List CertRide) → is_on_one nodes rides ≡ false → All (λ c. ride_now nw (effect st m) c ≡ ride_now nw st c) rides
    rides-same [] none = All-nil _
    rides-same (c ∷ cs) none =
        let both = or_parts (list_any (λ (n : Node). nat_eq n.train c.train) nodes) (is_on_one nodes cs) none in
        All-cons (λ c. ride_now nw (effect st m) c ≡ ride_now nw st c) c cs (ride-same c (unchanged-by nw st (effect st m) nodes each c.train both.0)) (rides-same cs both.1)

    -- so its rides have the standing that they had
    pub untouched : (q : Query) (rides : List CertRide) → is_on_one nodes rides ≡ false → standing nw (effect st m) q rides ≡ standing nw st q rides
    untouched q rides none = standing-same nw st (effect st m) q rides (rides-same rides none)
