-- What an arrival makes of what is known after a number of rides.
use Rattle.conn_scan.proofs.Words.{Bool, both_ways, ◌≡◌, ◌⊎◌, inl, inr, ℕ, ◌+◌, ◌≤◌, ◌<◌, ◌&&◌, true, false, List, Option, Some, None, length, refl, sym, subst, arith, All, All-contains, and_parts, cond_both, none-some, same_Some, Query, Network, is_stop, is_one_station, IsInTime, Leaving, Change, HasArrived, IsEarly, MayBoard, IsBestBy, ends_there, is_before, is_by, never, time_at, reached, HasOpened, ride_at}
use Rattle.conn_scan.specs.declared.known.Ending.{Ending}
use Rattle.conn_scan.specs.declared.stop_rides.Stretch.{Stretch}
use Rattle.conn_scan.proofs.ChangeLemmas.{change-listed, changes_of, reached-each, reached-within}
use Rattle.conn_scan.proofs.Kept.{AreOpened, IsNoLater, best_time}
use Rattle.conn_scan.proofs.KeptSteps.{arrival-taken, best-taken}
use Rattle.conn_scan.proofs.OpeningsLemmas.{ArePlaces, lowered-from, lowered-kept, lowered-there}
use Rattle.pareto_scan.specs.Levels.{arrived, HasLevelRoom}
use Rattle.pareto_scan.specs.declared.level.Level.{Level}

-- by the ride at departure x a passenger has come to stop c at time s; where `T`, it was one who
-- has taken that many rides
pub record IsNewArrival (nw : Network) (q : Query) (x : Leaving) (T : Type 0) (more : Bool) (new : Level) (c s : ℕ) : Type 0 where
  pub taken : T
  pub stop : c ≡ x.to
  pub time : s ≡ x.arrival
  pub best : is_one_station nw x.to q.to_stop ≡ true → IsBestBy (best_time new.best) x.arrival
  pub opens : more ≡ true → (a t : ℕ) → is_stop nw.stops a ≡ true → t < never → IsInTime nw x.to x.arrival a t → HasOpened new.openings a t

-- behind it one can board at stop a from time t on
pub record IsNewOpening (nw : Network) (x : Leaving) (r : Stretch) (T : Type 0) (new : Level) (a t : ℕ) : Type 0 where
  pub taken : T
  pub ride : ride_at new.openings a ≡ Some r
  pub change : IsInTime nw x.to x.arrival a t
  pub within : a < length nw.stops
  pub there : HasArrived (time_at new.held) x.to x.arrival

-- it ends in the destination's station
pub record IsNewBest (nw : Network) (q : Query) (x : Leaving) (r : Stretch) (T : Type 0) (e : Ending) : Type 0 where
  pub taken : T
  pub is : e ≡ record { time = x.arrival; ride = r }
  pub there : is_one_station nw x.to q.to_stop ≡ true

-- nothing is later than before, and what is new is that ride's
pub record IsStepped (nw : Network) (q : Query) (x : Leaving) (r : Stretch) (T : Type 0) (more : Bool) (old new : Level) : Type 0 where
  pub later : IsNoLater old.openings new.openings
  pub no_later : (c s : ℕ) → HasArrived (time_at old.held) c s → HasArrived (time_at new.held) c s
  pub held_from : (c s : ℕ) → time_at new.held c ≡ Some s → (time_at old.held c ≡ Some s) ⊎ IsNewArrival nw q x T more new c s
  pub opens_from : (a t : ℕ) → time_at new.openings.times a ≡ Some t → ((time_at old.openings.times a ≡ Some t) × (ride_at new.openings a ≡ ride_at old.openings a)) ⊎ IsNewOpening nw x r T new a t
  pub no_worse : (s : ℕ) → IsBestBy (best_time old.best) s → IsBestBy (best_time new.best) s
  pub best_from : (e : Ending) → new.best ≡ Some e → (old.best ≡ Some e) ⊎ IsNewBest nw q x r T e

pub same-stepped : (nw : Network) (q : Query) (x : Leaving) (r : Stretch) (T : Type 0) (more : Bool) (v : Level) → IsStepped nw q x r T more v v
same-stepped nw q x r T more v = record {
  later = λ b t h. h;
  no_later = λ c s h. h;
  held_from = λ c s at. inl at;
  opens_from = λ a t at. inl (at, refl);
  no_worse = λ s h. h;
  best_from = λ e at. inl at;
}

module _ (nw : Network) (q : Query) (x : Leaving) (r : Stretch) (T : Type 0)
    (taken : T) (old : Level) (room : HasLevelRoom (length nw.stops) old) (within : x.to < length nw.stops) (late : is_by old.held x.to x.arrival ≡ false) where
  abbrev new : Level
  new = arrived (changes_of nw) q x r true old

  abbrev cs : List Change
  cs = reached (changes_of nw) x.to

  are-places : ArePlaces old.openings cs
  are-places = λ i c l. record {
    times = reached-within (changes_of nw) x.to (length old.openings.times) (let fits = room.times in omega arith) i c l;
    rides = reached-within (changes_of nw) x.to (length old.openings.rides) (let fits = room.rides in omega arith) i c l;
  }

  taking : Rattle.journey_laws.specs.Scans.IsArrivalTaken x.to x.arrival (time_at old.held) (time_at new.held)
  taking = arrival-taken old.held x.to x.arrival (let fits = room.held in omega arith) late

  opens-behind : (a t : ℕ) → is_stop nw.stops a ≡ true → t < never → IsInTime nw x.to x.arrival a t → HasOpened new.openings a t
  opens-behind a t stop fits change =
      let w = change.0 in
      let ends = change.2 in
      let there = All-contains (λ (c : Change). (x.arrival + c.seconds < never) → HasOpened new.openings c.stop (x.arrival + c.seconds)) cs
      (record { stop = a; seconds = w }) (lowered-there x.arrival (Some r) cs old.openings are-places)
      (change-listed (changes_of nw) x.to a w stop change.1) (omega arith) in
      let le = there.2 in
      (there.0, there.1, omega arith)

  each-behind : All (λ (c : Change). IsInTime nw x.to x.arrival c.stop (x.arrival + c.seconds) × (c.stop < length nw.stops)) cs
  each-behind = λ i c l. let is = reached-each (changes_of nw) x.to i c l in ((_, is.change, omega arith), reached-within (changes_of nw) x.to (length nw.stops) (omega arith) i c l)

  best-now : (e : Ending) → new.best ≡ Some e → (old.best ≡ Some e) ⊎ IsNewBest nw q x r T e
  best-now e = cond_both (ends_there (changes_of nw) q x.to && is_before x.arrival old.best)
      (Some (record { time = x.arrival; ride = r })) old.best (λ best. best ≡ Some e → (old.best ≡ Some e) ⊎ IsNewBest nw q x r T e)
      (λ both at. inr (record { taken = taken; is = sym (same_Some _ e at); there = (and_parts _ _ both).0 }))
      (λ _ at. inl at)

  abbrev last : Level
  last = arrived (changes_of nw) q x r false old

  -- where the arrival is earlier than what was held, and passengers may take a ride more
  taken-more : IsStepped nw q x r T true old new
  taken-more = record {
    later = lowered-kept x.arrival (Some r) cs old.openings are-places;
    no_later = taking.no_later;
    held_from = λ c s at. elim (taking.others c s at) [
      | inl before ↦ inl before
      | inr here ↦ inr (record { taken = taken; stop = here.0; time = here.1; best = (best-taken nw q x r old.best).there; opens = λ _. opens-behind })
    ];
    opens_from = λ a t at. elim (lowered-from x.arrival (Some r) (λ a s. IsInTime nw x.to x.arrival a s × (a < length nw.stops)) cs old.openings are-places each-behind a t at) [
      | inl before ↦ inl before
      | inr here ↦ inr (record { taken = taken; ride = here.0; change = here.1.0; within = here.1.1; there = taking.there })
    ];
    no_worse = (best-taken nw q x r old.best).no_later;
    best_from = best-now;
  }

  -- and where they may not
  taken-last : IsStepped nw q x r T false old last
  taken-last = record {
    later = λ b t h. h;
    no_later = taking.no_later;
    held_from = λ c s at. elim (taking.others c s at) [
      | inl before ↦ inl before
      | inr here ↦ inr (record { taken = taken; stop = here.0; time = here.1; best = (best-taken nw q x r old.best).there; opens = λ is. absurd (both_ways false refl is) })
    ];
    opens_from = λ a t at. inl (at, refl);
    no_worse = (best-taken nw q x r old.best).no_later;
    best_from = best-now;
  }

  pub taken-stepped : (more : Bool) → IsStepped nw q x r T more old (arrived (changes_of nw) q x r more old)
  taken-stepped true = taken-more
  taken-stepped false = taken-last

  pub taken-there : (more : Bool) → HasArrived (time_at (arrived (changes_of nw) q x r more old).held) x.to x.arrival
  taken-there more = taking.there

-- ---- what follows of a step

-- before the best arrival now is before that of then
pub early-then : (old new : Option ℕ) (t : ℕ) → ((s : ℕ) → IsBestBy old s → IsBestBy new s) → IsEarly new t → IsEarly old t
early-then None new t no_worse early = tt
early-then (Some at) new t no_worse early = by new (no_worse at (at, refl, omega arith)) early
  where
    by : (new : Option ℕ) → IsBestBy new at → IsEarly new t → t < at
    by None h early = absurd (none-some h.0 h.1)
    by (Some s) h early = let same : s ≡ h.0 = same_Some s h.0 h.1 in let le = h.2 in omega arith

module _ (nw : Network) (q : Query) (x : Leaving) (r : Stretch) (T : Type 0) (more : Bool) (old new : Level) (step : IsStepped nw q x r T more old new) where
  still-board : (a t : ℕ) → MayBoard nw q (time_at old.held) a t → MayBoard nw q (time_at new.held) a t
  still-board a t (inl straight) = inl straight
  still-board a t (inr (c, s, is, change)) =
      let now = step.no_later c s (s, is, omega arith) in
      let le = now.2 in
      let ends = change.2 in
      inr (c, now.0, now.1, (change.0, change.1, omega arith))

  board-behind : (a t s : ℕ) → HasArrived (time_at new.held) x.to x.arrival → IsInTime nw x.to x.arrival a s → s ≤ t → MayBoard nw q (time_at new.held) a t
  board-behind a t s by change le =
      let early = by.2 in
      let ends = change.2 in
      inr (x.to, by.0, by.1, (change.0, change.1, omega arith))

  -- passengers can board where they may
  pub still-opened : more ≡ true → AreOpened nw q (time_at old.held) old.openings → AreOpened nw q (time_at new.held) new.openings
  still-opened may_more opened = λ a t stop fits. (may a t stop fits, opens a t stop fits)
    where
      may : (a t : ℕ) → is_stop nw.stops a ≡ true → t < never → HasOpened new.openings a t → MayBoard nw q (time_at new.held) a t
      may a t stop fits h = elim (step.opens_from a h.0 h.1) [
        | inl before ↦ still-board a t ((opened a t stop fits).0 (h.0, before.0, h.2))
        | inr here ↦ board-behind a t h.0 here.there here.change h.2
      ]

      opens : (a t : ℕ) → is_stop nw.stops a ≡ true → t < never → MayBoard nw q (time_at new.held) a t → HasOpened new.openings a t
      opens a t stop fits (inl straight) = step.later a t ((opened a t stop fits).1 (inl straight))
      opens a t stop fits (inr (c, s, is, change)) = elim (step.held_from c s is) [
        | inl before ↦ step.later a t ((opened a t stop fits).1 (inr (c, s, before, change)))
        | inr here ↦ here.opens may_more a t stop fits (subst (λ c. IsInTime nw c x.arrival a t) here.stop (subst (λ s. IsInTime nw c s a t) here.time change))
      ]

  -- the best arrival is no later than any arrival in the destination's station
  pub still-there : ((b t : ℕ) → time_at old.held b ≡ Some t → is_one_station nw b q.to_stop ≡ true → IsBestBy (best_time old.best) t)
      → (b t : ℕ) → time_at new.held b ≡ Some t → is_one_station nw b q.to_stop ≡ true → IsBestBy (best_time new.best) t
  still-there there b t at one = elim (step.held_from b t at) [
    | inl before ↦ step.no_worse t (there b t before one)
    | inr here ↦ subst (IsBestBy (best_time new.best)) (sym here.time) (here.best (subst (λ b. is_one_station nw b q.to_stop ≡ true) here.stop one))
  ]
