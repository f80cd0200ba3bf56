-- The way back from a ride, one ride less at each step, as a journey.
use Rattle.conn_scan.proofs.Words.{◌≡◌, ℕ, zero, suc, ◌≤◌, true, List, [], ◌∷◌, ◌++◌, length, reverse, Option, Some, None, MatchOption, refl, sym, ap, subst, arith, option_and_then, option_map, option_map_or, append_assoc, none-some, same_Some, PlanRide, Query, Network, State, is_one_station, IsJourney, Ordered, onward_at, IsFromOrigin, Access, CanBoard, IsBehind, IsPossible, ride_along, ride_at, ride_before, time_at, IsTakeable}
use Rattle.conn_scan.specs.declared.stop_rides.Stretch.{Stretch}
use Rattle.std.proofs.lemmas.Grind.{reverse_onto}
use Rattle.std.proofs.lemmas.List.{length-reverse}
use Rattle.delay_model.specs.Journeys.{GoesOn}
use Rattle.conn_scan.proofs.Kept.{takeable-possible}
use Rattle.conn_scan.proofs.NextDeparture.{AreNumbered}
use Rattle.conn_scan.proofs.WaysBack.{origin-later}
use Rattle.pareto_scan.specs.Traced.{access_at, traced, way_back}
use Rattle.pareto_scan.specs.declared.level.Level.{Level}
use Rattle.pareto_scan.proofs.Kept.{IsExplained, openings_at}

suc-same : (a b : ℕ) → suc a ≡ suc b → a ≡ b
suc-same a b same = omega arith

module _ (nw : Network) (st : State) (o : Ordered) (are : AreNumbered nw st o) (q : Query)
    (ls : List Level) (explained : (k b t : ℕ) → time_at (openings_at ls k).times b ≡ Some t → IsExplained nw q o ls k b t (ride_at (openings_at ls k) b)) where
  -- one gets to a stop straight from the origin, or behind a ride that can be taken after fewer rides
  abbrev IsFound : ℕ → ℕ → ℕ → Option PlanRide → Type 0
  IsFound k b t behind = MatchOption behind (IsFromOrigin nw q b t) (λ (r : PlanRide). (j : ℕ) × (k ≡ suc j) × IsPossible nw st (access_at st o ls j) r × IsBehind nw r b t)

  access-found : (k b : ℕ) (a : Access) → access_at st o ls k b ≡ Some a → IsFound k b a.time a.ride
  access-found k b a at = by (time_at (openings_at ls k).times b) refl at
    where
      behind : (t : ℕ) (x : Option Stretch) → IsExplained nw q o ls k b t x → IsFound k b t (option_map (ride_along st o) x)
      behind t None h = h
      behind t (Some r) h = (h.0, h.1, takeable-possible nw st o are (openings_at ls h.0) r h.2, h.3)

      by : (x : Option ℕ) → time_at (openings_at ls k).times b ≡ x
          → option_map (λ t. record { time = t; ride = option_map (ride_along st o) (ride_at (openings_at ls k) b) }) x ≡ Some a → IsFound k b a.time a.ride
      by None is at = absurd (none-some a at)
      by (Some t) is at = subst (λ (a : Access). IsFound k b a.time a.ride) (same_Some _ a at) (behind t (ride_at (openings_at ls k) b) (explained k b t is))

  found-later : (k b s t : ℕ) (behind : Option PlanRide) → s ≤ t → IsFound k b s behind → IsFound k b t behind
  found-later k b s t None le h = origin-later nw st q (is_one_station nw q.from_stop b) b s t le h
  found-later k b s t (Some r) le h = let by = h.3.2 in (h.0, h.1, h.2, (h.3.0, h.3.1, omega arith))

  -- how a passenger comes to a ride that can be boarded
  boards : (k : ℕ) (r : PlanRide) → CanBoard (access_at st o ls k) r → IsFound k r.board_stop r.board_time (ride_before (access_at st o ls k) r)
  boards k r h =
      let a = h.0 in
      let there : a.ride ≡ ride_before (access_at st o ls k) r = ap (option_and_then (λ (a : Access). a.ride)) (sym h.1) in
      subst (IsFound k r.board_stop r.board_time) there (found-later k r.board_stop a.time r.board_time a.ride h.2 (access-found k r.board_stop a h.1))

  -- with the way back to a ride that can be taken, what goes on behind it is a journey
  abbrev LeadsOn : ℕ → Type 0
  LeadsOn k = (r : PlanRide) (rest : List PlanRide) (arrives : ℕ) → IsPossible nw st (access_at st o ls k) r
      → GoesOn nw st r.alight_stop r.alight_time rest q.to_stop arrives → IsJourney nw st q (reverse (way_back st o ls k r) ++ r ∷ rest) arrives

  first-leads : LeadsOn zero
  first-leads r rest arrives possible goes = by (ride_before (access_at st o ls zero) r) (boards zero r possible.1)
    where
      by : (x : Option PlanRide) → IsFound zero r.board_stop r.board_time x → IsJourney nw st q (r ∷ rest) arrives
      by None may = (possible.0, may, goes)
      by (Some before) h = let none = h.1 in absurd (omega arith)

  more-leads : (k : ℕ) → LeadsOn k → LeadsOn (suc k)
  more-leads k leads r rest arrives possible goes = by (ride_before (access_at st o ls (suc k)) r) (boards (suc k) r possible.1)
    where
      by : (x : Option PlanRide) → IsFound (suc k) r.board_stop r.board_time x
          → IsJourney nw st q (reverse (option_map_or (λ (before : PlanRide). before ∷ way_back st o ls k before) x []) ++ r ∷ rest) arrives
      by None may = (possible.0, may, goes)
      by (Some before) h =
          let possible_before = subst (λ j. IsPossible nw st (access_at st o ls j) before) (sym (suc-same k h.0 h.1)) h.2 in
          rw (reverse_onto (way_back st o ls k before) before [], append_assoc (reverse (way_back st o ls k before)) (before ∷ []) (r ∷ rest))
          (leads before (r ∷ rest) arrives possible_before (possible.0, h.3, goes))

  way-leads : (k : ℕ) → LeadsOn k
  way-leads zero = first-leads
  way-leads (suc k) = more-leads k (way-leads k)

  -- and has no more rides than that
  few-by : (k : ℕ) (x : Option PlanRide) → ((before : PlanRide) → length (way_back st o ls k before) ≤ k)
      → length (option_map_or (λ (before : PlanRide). before ∷ way_back st o ls k before) x []) ≤ suc k
  few-by k None rest = omega arith
  few-by k (Some before) rest = let few = rest before in omega arith

  way-few : (k : ℕ) (r : PlanRide) → length (way_back st o ls k r) ≤ k
  way-few zero r = omega arith
  way-few (suc k) r = few-by k (ride_before (access_at st o ls (suc k)) r) (way-few k)

  -- the rides that lead to one that can be taken, and which ends in the destination's station, are a
  -- journey
  pub traced-arrives : (k : ℕ) (r : Stretch) → IsTakeable nw o (openings_at ls k) r
      → is_one_station nw (onward_at o r.last).to q.to_stop ≡ true → IsJourney nw st q (traced st o ls k r) (onward_at o r.last).arrival
  traced-arrives k r takeable there =
      rw (reverse_onto (way_back st o ls k (ride_along st o r)) (ride_along st o r) [])
      (way-leads k (ride_along st o r) [] (onward_at o r.last).arrival (takeable-possible nw st o are (openings_at ls k) r takeable) (there, refl))

  pub traced-few : (k : ℕ) (r : Stretch) → length (traced st o ls k r) ≤ suc k
  traced-few k r = let few = way-few k (ride_along st o r) in let same = length-reverse (ride_along st o r ∷ way_back st o ls k (ride_along st o r)) in omega arith
