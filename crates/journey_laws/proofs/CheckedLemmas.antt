-- The tests of a certificate say whether it is good.
use Rattle.std.proofs.Common.{◌≡◌, inl, inr, ℕ, ◌+◌, ◌≤◌, Bool, true, false, ◌&&◌, not, nat_eq, nat_lt, nat_le, cond, List, [], ◌∷◌, length, map, Option, Some, None, MatchBool, find, refl, sym, ◌∙◌, ap, subst, arith}
use Rattle.std.specs.Prelude.{◌↔◌}
use Rattle.std.specs.List.{All, AllPairs, Contains, list_all, list_any}
use Rattle.std.specs.Option.{option_map_or}
use Rattle.std.proofs.lemmas.Bool.{and_from, and_parts, both_ways, cases_Bool, eq-eqb, eqb-true, le-leb, leb-true, lt-ltb, ltb-true, not-true, not_from_false, or_cases, or_left, or_right}
use Rattle.std.proofs.lemmas.List.Elements.{All-cons, All-contains, All-contains_itself, All-head, All-nil, All-tail, All-weaker}
use Rattle.std.proofs.lemmas.List.Folds.{Any-from_list_any, list_any-from_Any}
use Rattle.std.proofs.lemmas.List.Kept.{AllPairs-cons}
use Rattle.std.proofs.lemmas.Option.{none-some, same_Some}
use Rattle.mt_base.specs.declared.journeys.PlanRide.{PlanRide}
use Rattle.mt_base.specs.declared.journeys.Query.{Query}
use Rattle.delay_model.specs.declared.network.Network.{Network}
use Rattle.delay_model.specs.declared.state.State.{State}
use Rattle.delay_model.specs.Changes.{change, is_stop}
use Rattle.delay_model.specs.Journeys.{GoesOn, IsInTime, IsJourney, IsRide, is_one_station}
use Rattle.delay_model.specs.Valid.{IsValid}
use Rattle.delay_model.proofs.Lists.{AllPairs-after, AllPairs-nil, AllPairs-tail, Contains-cases, Contains-there}
use Rattle.journey_laws.specs.Certificates.{AreEarlyStops, AreJourney, AreRidesUntil, IsEarlyStop, IsGoodCertificate, name_of, time_in}
use Rattle.journey_laws.specs.Checked.{are_journey, are_rising, goes_on, has_arrivals, has_arrived, is_at_once, is_early, is_early_stop, is_empty, is_from_origin, is_good, is_in_time, is_missing, is_named, may_board, ride_named}
use Rattle.journey_laws.specs.Reached.{HasArrivals, HasArrived, IsAtOnce, IsEarly, IsFromOrigin, IsOpen, MayBoard}
use Rattle.journey_laws.specs.Rides.{all_rides}
use Rattle.mt_base.specs.declared.certificates.CertRide.{CertRide}
use Rattle.mt_base.specs.declared.certificates.Cert.{Cert}
use Rattle.mt_base.specs.declared.certificates.Reach.{Reach}
use Rattle.journey_laws.proofs.BestArrivals.{Rises, all-found, each-found}
use Rattle.journey_laws.proofs.RideLemmas.{ride-there, trains-rides}
use Rattle.journey_laws.proofs.SameRides.{same-ride}

-- a test says whether a fact holds
abbrev pub Says : Bool → Type 0 → Type 0
Says b P = (b ≡ true) ↔ P

and-says : (b c : Bool) (P Q : Type 0) → Says b P → Says c Q → Says (b && c) (P × Q)
and-says b c P Q p q = ((λ h. let both = and_parts b c h in (p.0 both.0, q.0 both.1)), (λ h. and_from b c (p.1 h.0) (q.1 h.1)))

all-says : {X : Type 0} (p : X → Bool) (P : X → Type 0) → ((x : X) → Says (p x) (P x)) → (xs : List X) → Says (list_all p xs) (All P xs)
all-says p P says [] = ((λ _. All-nil P), (λ _. refl))
all-says p P says (x ∷ xs) =
    let rest = all-says p P says xs in
    ((λ h. let both = and_parts (p x) (list_all p xs) h in All-cons P x xs ((says x).0 both.0) (rest.0 both.1)), (λ h. and_from (p x) (list_all p xs) ((says x).1 (All-head P x xs h)) (rest.1 (All-tail P x xs h))))

-- a test that does not pass
pub not-says : (b : Bool) → Says (not b) (b ≡ false)
not-says b = (not-true b, not_from_false b)

pub early-says : (best : Option ℕ) (t : ℕ) → Says (is_early best t) (IsEarly best t)
early-says None t = ((λ _. tt), (λ _. refl))
early-says (Some at) t = (ltb-true t at, lt-ltb t at)

-- a number that is there and no more than a bound
bounded-says : (o : Option ℕ) (s t : ℕ) → Says (option_map_or (λ w. nat_le (s + w) t) o false) ((w : ℕ) × (o ≡ Some w) × (s + w ≤ t))
bounded-says None s t = ((λ h. absurd (cc)), (λ by. absurd (none-some by.0 by.1)))
bounded-says (Some w) s t = ((λ h. (w, refl, leb-true (s + w) t h)), (λ by. let same = same_Some w by.0 by.1 in let le = by.2 in le-leb (s + w) t (omega arith)))

pub until-says : (o : Option ℕ) (t : ℕ) → Says (option_map_or (λ s. nat_le s t) o false) ((s : ℕ) × (o ≡ Some s) × (s ≤ t))
until-says None t = ((λ h. absurd (cc)), (λ by. absurd (none-some by.0 by.1)))
until-says (Some s) t = ((λ h. (s, refl, leb-true s t h)), (λ by. let same = same_Some s by.0 by.1 in let le = by.2 in le-leb s t (omega arith)))

rising-says : (xs : List Reach) → Says (are_rising xs) (AllPairs Rises xs)
rising-says [] = ((λ _. AllPairs-nil Rises), (λ _. refl))
rising-says (x ∷ xs) =
    let first = all-says (λ (y : Reach). nat_lt x.stop y.stop) (Rises x) (λ y. (ltb-true x.stop y.stop, lt-ltb x.stop y.stop)) xs in
    let both = and-says (list_all (λ (y : Reach). nat_lt x.stop y.stop) xs) (are_rising xs) (All (Rises x) xs) (AllPairs Rises xs) first (rising-says xs) in
    ((λ h. let parts = both.0 h in AllPairs-cons Rises x xs parts.0 parts.1), (λ h. both.1 (AllPairs-after Rises [] x xs h, AllPairs-tail Rises x xs h)))

empty-says : (cs : List CertRide) → Says (is_empty cs) (cs ≡ [])
empty-says [] = ((λ _. refl), (λ _. refl))
empty-says (c ∷ cs) = ((λ h. absurd (cc)), (λ h. absurd (cc)))

at_once-by : (x : Bool) (best : Option ℕ) (t : ℕ) → Says (cond x (option_map_or (λ at. nat_eq at t) best false) true) (x ≡ true → best ≡ Some t)
at_once-by false best t = ((λ _ one. absurd (cc)), (λ _. refl))
at_once-by true None t = ((λ h. absurd (cc)), (λ h. absurd (none-some t (h refl))))
at_once-by true (Some at) t = ((λ h _. ap Some (eqb-true at t h)), (λ h. eq-eqb at t (same_Some at t (h refl))))

pub find-there : {X : Type 0} (p : X → Bool) (xs : List X) (x : X) → Contains xs x → p x ≡ true → (y : X) × (find p xs ≡ Some y)
find-there p [] x there passes = let l = there.1 in absurd (omega arith)
find-there p (w ∷ xs) x there passes = elim (cases_Bool (p w)) [
  | inl here ↦ (w, rw here refl)
  | inr apart ↦ elim (Contains-cases w xs x there) [
    | inl same ↦ absurd (both_ways (p w) apart (ap p same ∙ passes))
    | inr later ↦ let found = find-there p xs x later passes in (found.0, rw apart found.1)
  ]
]

pub find-some : {X : Type 0} (p : X → Bool) (xs : List X) (y : X) → find p xs ≡ Some y → Contains xs y × (p y ≡ true)
find-some p [] y found = absurd (none-some y found)
find-some p (w ∷ xs) y found = elim (cases_Bool (p w)) [
  | inl here ↦ let same = same_Some w y (rw here at found) in (subst (Contains (w ∷ xs)) same (0, omega arith, refl), ap p (sym same) ∙ here)
  | inr apart ↦ let rest = find-some p xs y (rw apart at found) in (Contains-there w xs y rest.0, rest.1)
]

module _ (nw : Network) (q : Query) where
  pub in_time-says : (a s b t : ℕ) → Says (is_in_time nw a s b t) (IsInTime nw a s b t)
  in_time-says a s b t = bounded-says (change nw.stops nw.transfers nw.opts.change a b) s t

  origin-by : (x : Bool) (b t : ℕ) → Says (cond x (nat_le q.time t) (is_in_time nw q.from_stop q.time b t)) (MatchBool x (q.time ≤ t) (IsInTime nw q.from_stop q.time b t))
  origin-by true b t = (leb-true q.time t, le-leb q.time t)
  origin-by false b t = in_time-says q.from_stop q.time b t

  pub origin-says : (b t : ℕ) → Says (is_from_origin nw q b t) (IsFromOrigin nw q b t)
  origin-says b t = origin-by (is_one_station nw q.from_stop b) b t

  pub at_once-says : (best : Option ℕ) → Says (is_at_once nw q best) (IsAtOnce nw q best)
  at_once-says best = at_once-by (is_one_station nw q.from_stop q.to_stop) best q.time

  pub early_stop-says : (best : Option ℕ) (x : Reach) → Says (is_early_stop nw best x) (IsEarlyStop nw best x)
  early_stop-says best x = and-says (is_stop nw.stops x.stop) (is_early best x.time) (is_stop nw.stops x.stop ≡ true) (IsEarly best x.time) ((λ h. h), (λ h. h)) (early-says best x.time)

  module _ (list : List Reach) (rising : AllPairs Rises list) where
    changes-said : (b t : ℕ) → list_any (λ (x : Reach). is_in_time nw x.stop x.time b t) list ≡ true → (a s : ℕ) × (time_in list a ≡ Some s) × IsInTime nw a s b t
    changes-said b t h =
        let one = Any-from_list_any (λ (x : Reach). is_in_time nw x.stop x.time b t) list h in
        let x = one.1 in
        (x.stop, x.time, All-contains (λ x. time_in list x.stop ≡ Some x.time) list x (all-found list rising) (one.0, one.2, one.3), (in_time-says x.stop x.time b t).0 one.4)

    pub board-from : (b t : ℕ) → may_board nw q list b t ≡ true → MayBoard nw q (time_in list) b t
    board-from b t h = elim (or_cases (is_from_origin nw q b t) (list_any (λ (x : Reach). is_in_time nw x.stop x.time b t) list) h) [
      | inl first ↦ inl ((origin-says b t).0 first)
      | inr change ↦ inr (changes-said b t change)
    ]

  pub board-to : (st : State) (list : List Reach) (b t : ℕ) → MayBoard nw q (time_in list) b t → may_board nw q list b t ≡ true
  board-to st list b t (inl first) = or_left (is_from_origin nw q b t) _ ((origin-says b t).1 first)
  board-to st list b t (inr (a, s, at, change)) =
      let x = each-found nw st q (Contains list) list (All-contains_itself list) a s at in
      let within = x.3 in
      let done : is_in_time nw x.0.stop x.0.time b t ≡ true = (in_time-says x.0.stop x.0.time b t).1 (subst (λ a. IsInTime nw a x.0.time b t) (sym x.1) (subst (λ s. IsInTime nw a s b t) (sym x.2) change)) in
      or_right (is_from_origin nw q b t) (list_any (λ (x : Reach). is_in_time nw x.stop x.time b t) list) (list_any-from_Any (λ (x : Reach). is_in_time nw x.stop x.time b t) list (within.0, x.0, within.1, within.2, done))

  pub arrived-says : (list : List Reach) (b t : ℕ) → Says (has_arrived list b t) (HasArrived (time_in list) b t)
  arrived-says list b t = until-says (time_in list b) t

  -- nothing is missing of a ride
  missing-from : (st : State) (best : Option ℕ) (before after : List Reach) (r : PlanRide) → not (is_missing nw q best before after r) ≡ true → IsOpen nw q (time_in before) r → IsEarly best r.board_time → IsEarly best r.alight_time → HasArrived (time_in after) r.alight_stop r.alight_time
  missing-from st best before after r h can leaves early = elim (cases_Bool (has_arrived after r.alight_stop r.alight_time)) [
    | inl by ↦ (arrived-says after r.alight_stop r.alight_time).0 by
    | inr none ↦
        let missing : is_missing nw q best before after r ≡ true = and_from _ _ (board-to st before r.board_stop r.board_time can) (and_from _ _ ((early-says best r.board_time).1 leaves) (and_from _ _ ((early-says best r.alight_time).1 early) (not_from_false _ none))) in
        absurd (both_ways _ (not-true _ h) missing)
  ]

  missing-to : (best : Option ℕ) (before after : List Reach) → AllPairs Rises before → (r : PlanRide) → (IsOpen nw q (time_in before) r → IsEarly best r.board_time → IsEarly best r.alight_time → HasArrived (time_in after) r.alight_stop r.alight_time) → not (is_missing nw q best before after r) ≡ true
  missing-to best before after rising r h = elim (cases_Bool (is_missing nw q best before after r)) [
    | inr none ↦ not_from_false _ none
    | inl missing ↦
        let parts = and_parts (may_board nw q before r.board_stop r.board_time) _ missing in
        let times = and_parts (is_early best r.board_time) _ parts.1 in
        let rest = and_parts (is_early best r.alight_time) _ times.1 in
        let by = h (board-from before rising r.board_stop r.board_time parts.0) ((early-says best r.board_time).0 times.0) ((early-says best r.alight_time).0 rest.0) in
        absurd (both_ways _ (not-true _ rest.1) ((arrived-says after r.alight_stop r.alight_time).1 by))
  ]

module _ (nw : Network) (st : State) (valid : IsValid nw st) where
  -- the ride of a name
  pub named-ride : (c : CertRide) (r : PlanRide) → ride_named (all_rides nw st) c ≡ Some r → IsRide nw st r × (name_of r ≡ c)
  named-ride c r found =
      let there = find-some (is_named c) (all_rides nw st) r found in
      let train = and_parts (nat_eq r.train c.train) _ there.1 in
      let labels = and_parts (nat_eq r.board c.board) _ train.1 in
      (All-contains (IsRide nw st) (all_rides nw st) r (trains-rides nw st (length st.trains)) there.0, (λ i. record { train = eqb-true r.train c.train train.0 i; board = eqb-true r.board c.board labels.0 i; alight = eqb-true r.alight c.alight labels.1 i }))

  pub ride-named : (r : PlanRide) → IsRide nw st r → ride_named (all_rides nw st) (name_of r) ≡ Some r
  ride-named r ride =
      let found = find-there (is_named (name_of r)) (all_rides nw st) r (ride-there nw st valid r ride) (and_from _ _ (eq-eqb r.train r.train refl) (and_from _ _ (eq-eqb r.board r.board refl) (eq-eqb r.alight r.alight refl))) in
      let is = named-ride (name_of r) found.0 found.1 in
      found.1 ∙ ap Some (same-ride nw st valid found.0 r is.0 ride (ap (λ (c : CertRide). c.train) is.1) (ap (λ (c : CertRide). c.board) is.1) (ap (λ (c : CertRide). c.alight) is.1))

module _ (nw : Network) (st : State) (valid : IsValid nw st) (q : Query) where
  pub arrivals-from : (best : Option ℕ) (before after : List Reach) → has_arrivals nw (all_rides nw st) q best before after ≡ true → HasArrivals nw st q best (time_in before) (time_in after)
  arrivals-from best before after h r ride can leaves early =
      let each = (all-says (λ r. not (is_missing nw q best before after r)) (λ r. not (is_missing nw q best before after r) ≡ true) (λ r. ((λ h. h), (λ h. h))) (all_rides nw st)).0 h in
      missing-from nw q st best before after r (All-contains (λ r. not (is_missing nw q best before after r) ≡ true) (all_rides nw st) r each (ride-there nw st valid r ride)) can leaves early

  pub arrivals-to : (best : Option ℕ) (before after : List Reach) → AllPairs Rises before → HasArrivals nw st q best (time_in before) (time_in after) → has_arrivals nw (all_rides nw st) q best before after ≡ true
  arrivals-to best before after rising h =
      (all-says (λ r. not (is_missing nw q best before after r)) (λ r. not (is_missing nw q best before after r) ≡ true) (λ r. ((λ h. h), (λ h. h))) (all_rides nw st)).1
      (All-weaker (IsRide nw st) (λ r. not (is_missing nw q best before after r) ≡ true) (λ r ride. missing-to nw q best before after rising r (h r ride)) (all_rides nw st) (trains-rides nw st (length st.trains)))

  goes-from : (to at : ℕ) (cs : List CertRide) (a t : ℕ) → goes_on nw (all_rides nw st) a t cs to at ≡ true → (rides : List PlanRide) × (map name_of rides ≡ cs) × GoesOn nw st a t rides to at
  goes-from to at [] a t h = let both = and_parts (is_one_station nw a to) (nat_eq t at) h in ([], refl, (both.0, eqb-true t at both.1))
  goes-from to at (c ∷ cs) a t h = by (ride_named (all_rides nw st) c) refl (λ b s. goes-from to at cs b s) h
    where
      by : (o : Option PlanRide) → ride_named (all_rides nw st) c ≡ o → ((b s : ℕ) → goes_on nw (all_rides nw st) b s cs to at ≡ true → (rides : List PlanRide) × (map name_of rides ≡ cs) × GoesOn nw st b s rides to at) → option_map_or (λ (r : PlanRide). is_in_time nw a t r.board_stop r.board_time && goes_on nw (all_rides nw st) r.alight_stop r.alight_time cs to at) o false ≡ true → (rides : List PlanRide) × (map name_of rides ≡ c ∷ cs) × GoesOn nw st a t rides to at
      by None found later h = absurd (cc)
      by (Some r) found later h =
          let is = named-ride nw st valid c r found in
          let both = and_parts (is_in_time nw a t r.board_stop r.board_time) (goes_on nw (all_rides nw st) r.alight_stop r.alight_time cs to at) h in
          let rest = later r.alight_stop r.alight_time both.1 in
          (r ∷ rest.0, (λ i. is.1 i ∷ rest.1 i), (is.0, (in_time-says nw q a t r.board_stop r.board_time).0 both.0, rest.2))

  goes-to : (to at : ℕ) (rides : List PlanRide) (a t : ℕ) → GoesOn nw st a t rides to at → goes_on nw (all_rides nw st) a t (map name_of rides) to at ≡ true
  goes-to to at [] a t h = and_from (is_one_station nw a to) (nat_eq t at) h.0 (eq-eqb t at h.1)
  goes-to to at (r ∷ rs) a t h = rw (ride-named nw st valid r h.0) (and_from _ _ ((in_time-says nw q a t r.board_stop r.board_time).1 h.1) (goes-to to at rs r.alight_stop r.alight_time h.2))

  journey-from : (cs : List CertRide) (at : ℕ) → are_journey nw (all_rides nw st) q cs at ≡ true → AreJourney nw st q cs at
  journey-from [] at h = let both = and_parts (is_one_station nw q.from_stop q.to_stop) (nat_eq q.time at) h in ([], refl, (both.0, eqb-true q.time at both.1))
  journey-from (c ∷ cs) at h = by (ride_named (all_rides nw st) c) refl h
    where
      by : (o : Option PlanRide) → ride_named (all_rides nw st) c ≡ o → option_map_or (λ (r : PlanRide). is_from_origin nw q r.board_stop r.board_time && goes_on nw (all_rides nw st) r.alight_stop r.alight_time cs q.to_stop at) o false ≡ true → AreJourney nw st q (c ∷ cs) at
      by None found h = absurd (cc)
      by (Some r) found h =
          let is = named-ride nw st valid c r found in
          let both = and_parts (is_from_origin nw q r.board_stop r.board_time) (goes_on nw (all_rides nw st) r.alight_stop r.alight_time cs q.to_stop at) h in
          let rest = goes-from q.to_stop at cs r.alight_stop r.alight_time both.1 in
          (r ∷ rest.0, (λ i. is.1 i ∷ rest.1 i), (is.0, (origin-says nw q r.board_stop r.board_time).0 both.0, rest.2))

  journey-to : (rides : List PlanRide) (at : ℕ) → IsJourney nw st q rides at → are_journey nw (all_rides nw st) q (map name_of rides) at ≡ true
  journey-to [] at h = and_from (is_one_station nw q.from_stop q.to_stop) (nat_eq q.time at) h.0 (eq-eqb q.time at h.1)
  journey-to (r ∷ rs) at h = rw (ride-named nw st valid r h.0) (and_from _ _ ((origin-says nw q r.board_stop r.board_time).1 h.1) (goes-to q.to_stop at rs r.alight_stop r.alight_time h.2))

  pub until-rides : (best : Option ℕ) (cs : List CertRide) → Says (option_map_or (are_journey nw (all_rides nw st) q cs) best (is_empty cs)) (AreRidesUntil nw st q best cs)
  until-rides None cs = empty-says cs
  until-rides (Some at) cs = (journey-from cs at, (λ h. subst (λ cs. are_journey nw (all_rides nw st) q cs at ≡ true) h.1 (journey-to h.0 at h.2)))

  pub stops-says : (best : Option ℕ) (list : List Reach) → Says (are_rising list && list_all (is_early_stop nw best) list) (AreEarlyStops nw best list)
  stops-says best list = and-says (are_rising list) (list_all (is_early_stop nw best) list) (AllPairs Rises list) (All (IsEarlyStop nw best) list) (rising-says list) (all-says (is_early_stop nw best) (IsEarlyStop nw best) (early_stop-says nw q best) list)

  pub elsewhere-says : (list : List Reach) → Says (list_all (λ (x : Reach). not (is_one_station nw x.stop q.to_stop)) list) (All (λ x. is_one_station nw x.stop q.to_stop ≡ false) list)
  elsewhere-says list = all-says (λ (x : Reach). not (is_one_station nw x.stop q.to_stop)) (λ x. is_one_station nw x.stop q.to_stop ≡ false) (λ x. not-says (is_one_station nw x.stop q.to_stop)) list

  good-from : (c : Cert) → is_good nw (all_rides nw st) q c ≡ true → IsGoodCertificate nw st q c
  good-from c h =
      let first = and_parts (are_rising c.reached && list_all (is_early_stop nw c.arrives) c.reached) _ h in
      let second = and_parts (option_map_or (are_journey nw (all_rides nw st) q c.rides) c.arrives (is_empty c.rides) && is_at_once nw q c.arrives) _ first.1 in
      let journey = and_parts (option_map_or (are_journey nw (all_rides nw st) q c.rides) c.arrives (is_empty c.rides)) (is_at_once nw q c.arrives) second.0 in
      let third = and_parts (has_arrivals nw (all_rides nw st) q c.arrives c.reached c.reached) _ second.1 in
      record {
        early = (stops-says c.arrives c.reached).0 first.0;
        journey = ((until-rides c.arrives c.rides).0 journey.0, (at_once-says nw q c.arrives).0 journey.1);
        arrivals = arrivals-from c.arrives c.reached c.reached third.0;
        elsewhere = (elsewhere-says c.reached).0 third.1;
      }

  good-to : (c : Cert) → IsGoodCertificate nw st q c → is_good nw (all_rides nw st) q c ≡ true
  good-to c good =
      and_from _ _ ((stops-says c.arrives c.reached).1 good.early)
      (and_from _ _ (and_from _ _ ((until-rides c.arrives c.rides).1 good.journey.0) ((at_once-says nw q c.arrives).1 good.journey.1))
      (and_from _ _ (arrivals-to c.arrives c.reached c.reached good.early.0 good.arrivals) ((elsewhere-says c.reached).1 good.elsewhere)))

  -- the test says whether a certificate is good
  pub good-says : (c : Cert) → (is_good nw (all_rides nw st) q c ≡ true) ↔ IsGoodCertificate nw st q c
  good-says c = (good-from c, good-to c)
