-- What an arrival makes of what is known after each number of rides.
use Rattle.conn_scan.proofs.Words.{Bool, sym, ltb-false, ltb-true, length-replicate, ◌≡◌, ◌⊎◌, inl, inr, ℕ, zero, suc, ◌+◌, ◌≤◌, ◌<◌, nat_lt, true, false, List, [], ◌∷◌, Option, Some, None, get_or, option_map_or, length, set, refl, ◌∙◌, ap, arith, All, All-cons, All-head, All-nil, All-tail, cases_Bool, length-set, ChangeTables, Query, Leaving, is_by, reached}
use Rattle.conn_scan.specs.declared.stop_rides.Stretch.{Stretch}
use Rattle.conn_scan.proofs.OpeningsLemmas.{length-lowered_rides, length-lowered_times}
use Rattle.conn_scan.proofs.RoomLemmas.{room-begun}
use Rattle.pareto_scan.specs.Levels.{arrived, arrived_from, arrived_on, as_known, begun_level, begun_levels, blank_level, has_more, is_more, level_at, HasLevelRoom, KeepsRoom}
use Rattle.pareto_scan.specs.Ridden.{Ridden, departed, rider_at, rode}
use Rattle.pareto_scan.specs.declared.level.Level.{Level}
use Rattle.pareto_scan.specs.declared.riders.Rider.{Rider}

-- what is known after k rides stays as it is: k is less than n, or there is no such number of rides,
-- or after k rides, or after fewer from n on, one has arrived by then
pub record IsLeft (d : Leaving) (old new : List Level) (n k : ℕ) : Type 0 where
  pub why : (k < n) ⊎ ((length old ≤ k) ⊎ ((i : ℕ) × (n ≤ i) × (i ≤ k) × (is_by (level_at old i).held d.to d.arrival ≡ true)))
  pub is : level_at new k ≡ level_at old k

-- or the arrival is noted
pub record IsTaken (t : ChangeTables) (q : Query) (d : Leaving) (r : Stretch) (old new : List Level) (n k : ℕ) : Type 0 where
  pub from : n ≤ k
  pub within : k < length old
  pub late : is_by (level_at old k).held d.to d.arrival ≡ false
  pub is : level_at new k ≡ arrived t q d r (has_more old k) (level_at old k)

module _ (t : ChangeTables) (q : Query) (d : Leaving) (r : Stretch) where
  abbrev IsEither : List Level → List Level → ℕ → ℕ → Type 0
  IsEither old new n k = IsLeft d old new n k ⊎ IsTaken t q d r old new n k

  -- one more before them
  left-more : (v w : Level) (vs ws : List Level) (n k : ℕ) → IsLeft d vs ws n k → IsLeft d (v ∷ vs) (w ∷ ws) (suc n) (suc k)
  left-more v w vs ws n k h = record {
    why = elim h.why [
      | inl less ↦ inl (omega arith)
      | inr other ↦ elim other [
        | inl past ↦ inr (inl (omega arith))
        | inr late ↦ let from = late.1 in let until = late.2 in inr (inr (suc late.0, omega arith, omega arith, late.3))
      ]
    ];
    is = h.is;
  }

  more : (v w : Level) (vs ws : List Level) (n k : ℕ) → IsEither vs ws n k → IsEither (v ∷ vs) (w ∷ ws) (suc n) (suc k)
  more v w vs ws n k (inl h) = inl (left-more v w vs ws n k h)
  more v w vs ws n k (inr h) = inr (record { from = (let from = h.from in omega arith); within = (let within = h.within in omega arith); late = h.late; is = h.is })

  fewer : (old new : List Level) (k : ℕ) → IsEither old new 1 (suc k) → IsEither old new 0 (suc k)
  fewer old new k (inl h) = inl (record {
    why = elim h.why [
      | inl less ↦ absurd (omega arith)
      | inr other ↦ elim other [
        | inl past ↦ inr (inl past)
        | inr late ↦ inr (inr (late.0, omega arith, late.2, late.3))
      ]
    ];
    is = h.is;
  })
  fewer old new k (inr h) = inr (record { from = omega arith; within = h.within; late = h.late; is = h.is })

  on-goes : (v : Level) (vs : List Level) (k : ℕ) → is_by v.held d.to d.arrival ≡ false
      → ((j : ℕ) → IsEither vs (arrived_on t q d r vs) 0 j) → IsEither (v ∷ vs) (arrived t q d r (is_more vs) v ∷ arrived_on t q d r vs) 0 k
  on-goes v vs zero late rest = inr (record { from = omega arith; within = omega arith; late = late; is = refl })
  on-goes v vs (suc k) late rest = fewer (v ∷ vs) (arrived t q d r (is_more vs) v ∷ arrived_on t q d r vs) k (more v (arrived t q d r (is_more vs) v) vs (arrived_on t q d r vs) 0 k (rest k))

  on-each : (vs : List Level) (k : ℕ) → IsEither vs (arrived_on t q d r vs) 0 k
  on-each [] k = inl (record { why = inr (inl (omega arith)); is = refl })
  on-each (v ∷ vs) k = elim (cases_Bool (is_by v.held d.to d.arrival)) [
    | inl by ↦ rw by (inl (record { why = inr (inr (0, omega arith, omega arith, by)); is = refl }))
    | inr late ↦ rw late (on-goes v vs k late (on-each vs))
  ]

  -- an arrival from n rides on, at each number of rides
  pub from-each : (n : ℕ) (vs : List Level) (k : ℕ) → IsLeft d vs (arrived_from n t q d r vs) n k ⊎ IsTaken t q d r vs (arrived_from n t q d r vs) n k
  from-each zero vs k = on-each vs k
  from-each (suc n) [] k = inl (record { why = inr (inl (omega arith)); is = refl })
  from-each (suc n) (v ∷ vs) zero = inl (record { why = inl (omega arith); is = refl })
  from-each (suc n) (v ∷ vs) (suc k) = more v v vs (arrived_from n t q d r vs) n k (from-each n vs k)

  length-on : (vs : List Level) → length (arrived_on t q d r vs) ≡ length vs
  length-on [] = refl
  length-on (v ∷ vs) = elim (cases_Bool (is_by v.held d.to d.arrival)) [
    | inl by ↦ rw by refl
    | inr late ↦ rw late (ap suc (length-on vs))
  ]

  pub length-from : (n : ℕ) (vs : List Level) → length (arrived_from n t q d r vs) ≡ length vs
  length-from zero vs = length-on vs
  length-from (suc n) [] = refl
  length-from (suc n) (v ∷ vs) = ap suc (length-from n vs)

  -- there are rows as before
  pub room-arrived : (stops : ℕ) (more : Bool) (v : Level) → HasLevelRoom stops v → HasLevelRoom stops (arrived t q d r more v)
  room-arrived stops true v room = record {
    held = omega (arith, length-set v.held d.to (Some d.arrival), room.held);
    times = omega (arith, length-lowered_times d.arrival (Some r) (reached t d.to) v.openings, room.times);
    rides = omega (arith, length-lowered_rides d.arrival (Some r) (reached t d.to) v.openings, room.rides);
  }
  room-arrived stops false v room = record { held = omega (arith, length-set v.held d.to (Some d.arrival), room.held); times = room.times; rides = room.rides }

  room-on : (stops : ℕ) (vs : List Level) → All (HasLevelRoom stops) vs → All (HasLevelRoom stops) (arrived_on t q d r vs)
  room-on stops [] room = room
  room-on stops (v ∷ vs) room = elim (cases_Bool (is_by v.held d.to d.arrival)) [
    | inl by ↦ rw by room
    | inr late ↦ rw late (All-cons (HasLevelRoom stops) (arrived t q d r (is_more vs) v)
        (arrived_on t q d r vs) (room-arrived stops (is_more vs) v (All-head (HasLevelRoom stops) v vs room)) (room-on stops vs (All-tail (HasLevelRoom stops) v vs room)))
  ]

  room-from : (n stops : ℕ) (vs : List Level) → All (HasLevelRoom stops) vs → All (HasLevelRoom stops) (arrived_from n t q d r vs)
  room-from zero stops vs room = room-on stops vs room
  room-from (suc n) stops [] room = room
  room-from (suc n) stops (v ∷ vs) room = All-cons (HasLevelRoom stops) v
      (arrived_from n t q d r vs) (All-head (HasLevelRoom stops) v vs room) (room-from n stops vs (All-tail (HasLevelRoom stops) v vs room))

  pub keeps-from : (n : ℕ) (vs : List Level) → KeepsRoom vs (arrived_from n t q d r vs)
  keeps-from n vs = record { rows = λ stops room. room-from n stops vs room; count = length-from n vs }

  -- ---- in a loop

  -- where the arrival is not earlier, nothing is left to be done
  pub from-ends : (n : ℕ) (vs : List Level) → is_by (level_at vs n).held d.to d.arrival ≡ true → arrived_from n t q d r vs ≡ vs
  from-ends zero [] by = refl
  from-ends zero (v ∷ vs) by = rw by refl
  from-ends (suc n) [] by = refl
  from-ends (suc n) (v ∷ vs) by = ap (λ ws. v ∷ ws) (from-ends n vs by)

  pub from-past : (n : ℕ) (vs : List Level) → length vs ≤ n → arrived_from n t q d r vs ≡ vs
  from-past zero [] past = refl
  from-past zero (v ∷ vs) past = absurd (omega arith)
  from-past (suc n) [] past = refl
  from-past (suc n) (v ∷ vs) past = ap (λ ws. v ∷ ws) (from-past n vs (omega arith))

  -- where it is, it is noted, and what is left is that from one ride more on
  pub from-next : (n : ℕ) (vs : List Level) → n < length vs → is_by (level_at vs n).held d.to d.arrival ≡ false
      → arrived_from (suc n) t q d r (set vs n (arrived t q d r (has_more vs n) (level_at vs n))) ≡ arrived_from n t q d r vs
  from-next zero [] within late = absurd (omega arith)
  from-next zero (v ∷ vs) within late = rw late refl
  from-next (suc n) [] within late = absurd (omega arith)
  from-next (suc n) (v ∷ vs) within late = ap (λ ws. v ∷ ws) (from-next n vs (omega arith) late)

-- ---- before the first departure

module _ (t : ChangeTables) (q : Query) where
  room-begun_level : (stops : ℕ) (more : Bool) (v : Level) → HasLevelRoom stops v → HasLevelRoom stops (begun_level t q more v)
  room-begun_level stops true v room =
      let same = room-begun t q (as_known v) in
      record {
        held = omega (arith, same.held, room.held);
        times = omega (arith, same.times, room.times);
        rides = omega (arith, same.rides, room.rides);
      }
  room-begun_level stops false v room = record {
    held = omega (arith, length-replicate {A = Option ℕ} (length v.held) None, room.held);
    times = omega (arith, length-replicate {A = Option ℕ} (length v.openings.times) None, room.times);
    rides = room.rides;
  }

  room-begun_levels : (stops : ℕ) (vs : List Level) → All (HasLevelRoom stops) vs → All (HasLevelRoom stops) (begun_levels t q vs)
  room-begun_levels stops [] room = All-nil (HasLevelRoom stops)
  room-begun_levels stops (v ∷ vs) room = All-cons (HasLevelRoom stops) (begun_level t q (is_more vs) v) (begun_levels t q vs)
      (room-begun_level stops (is_more vs) v (All-head (HasLevelRoom stops) v vs room)) (room-begun_levels stops vs (All-tail (HasLevelRoom stops) v vs room))

  length-begun_levels : (vs : List Level) → length (begun_levels t q vs) ≡ length vs
  length-begun_levels [] = refl
  length-begun_levels (v ∷ vs) = ap suc (length-begun_levels vs)

  pub keeps-begun : (vs : List Level) → KeepsRoom vs (begun_levels t q vs)
  keeps-begun vs = record { rows = λ stops room. room-begun_levels stops vs room; count = length-begun_levels vs }

  pub begun-at : (vs : List Level) (k : ℕ) → k < length vs → level_at (begun_levels t q vs) k ≡ begun_level t q (has_more vs k) (level_at vs k)
  begun-at [] k within = absurd (omega arith)
  begun-at (v ∷ vs) zero within = refl
  begun-at (v ∷ vs) (suc k) within = begun-at vs k (omega arith)

-- ---- who may take more rides

some-more : (vs : List Level) → 0 < length vs → is_more vs ≡ true
some-more [] some = absurd (omega arith)
some-more (v ∷ vs) some = refl

none-more : (vs : List Level) → length vs ≤ 0 → is_more vs ≡ false
none-more [] none = refl
none-more (v ∷ vs) none = absurd (omega arith)

-- where there is a number of rides after this one, and where there is not
pub more-there : (vs : List Level) (k : ℕ) → suc k < length vs → has_more vs k ≡ true
more-there [] k within = absurd (omega arith)
more-there (v ∷ vs) zero within = some-more vs (omega arith)
more-there (v ∷ vs) (suc k) within = more-there vs k (omega arith)

pub more-not : (vs : List Level) (k : ℕ) → length vs ≤ suc k → has_more vs k ≡ false
more-not [] k past = refl
more-not (v ∷ vs) zero past = none-more vs (omega arith)
more-not (v ∷ vs) (suc k) past = more-not vs k (omega arith)

-- so a test by the numbers tells
pub more-tested : (vs : List Level) (k : ℕ) → nat_lt (k + 1) (length vs) ≡ has_more vs k
more-tested vs k = elim (cases_Bool (nat_lt (k + 1) (length vs))) [
  | inl less ↦ less ∙ sym (more-there vs k (let lt = ltb-true (k + 1) (length vs) less in omega arith))
  | inr past ↦ past ∙ sym (more-not vs k (let le = ltb-false (k + 1) (length vs) past in omega arith))
]

-- what is known after more rides than there are is nothing
pub past-at : (vs : List Level) (k : ℕ) → length vs ≤ k → level_at vs k ≡ blank_level
past-at [] k past = refl
past-at (v ∷ vs) zero past = absurd (omega arith)
past-at (v ∷ vs) (suc k) past = past-at vs k (omega arith)

-- what stands after a number of rides, whatever stands for nothing
pub level-same : (vs : List Level) (k : ℕ) (v : Level) → k < length vs → get_or vs k v ≡ level_at vs k
level-same [] k v within = absurd (omega arith)
level-same (w ∷ vs) zero v within = refl
level-same (w ∷ vs) (suc k) v within = level-same vs k v (omega arith)

-- ---- rows

pub same-rows : (vs : List Level) → KeepsRoom vs vs
same-rows vs = record { rows = λ stops room. room; count = refl }

pub rows-then : (a b c : List Level) → KeepsRoom a b → KeepsRoom b c → KeepsRoom a c
rows-then a b c h k = record { rows = λ stops room. k.rows stops (h.rows stops room); count = k.count ∙ h.count }

room-set : (stops : ℕ) (vs : List Level) (n : ℕ) (v : Level) → (HasLevelRoom stops (level_at vs n) → HasLevelRoom stops v) → All (HasLevelRoom stops) vs → All (HasLevelRoom stops) (set vs n v)
room-set stops [] n v keeps room = room
room-set stops (w ∷ vs) zero v keeps room = All-cons (HasLevelRoom stops) v vs (keeps (All-head (HasLevelRoom stops) w vs room)) (All-tail (HasLevelRoom stops) w vs room)
room-set stops (w ∷ vs) (suc n) v keeps room = All-cons
    (HasLevelRoom stops) w (set vs n v) (All-head (HasLevelRoom stops) w vs room) (room-set stops vs n v keeps (All-tail (HasLevelRoom stops) w vs room))

pub keeps-set : (vs : List Level) (n : ℕ) (v : Level) → ((stops : ℕ) → HasLevelRoom stops (level_at vs n) → HasLevelRoom stops v) → KeepsRoom vs (set vs n v)
keeps-set vs n v keeps = record { rows = λ stops room. room-set stops vs n v (keeps stops) room; count = length-set vs n v }

module _ (t : ChangeTables) (q : Query) where
  rows-rode : (c : Rider) (x : Leaving) (s : Ridden) → KeepsRoom s.levels (rode t q c x s).levels
  rows-rode c x s = elim (cases_Bool (nat_lt x.to (length t.stops))) [
    | inl alights ↦ rw alights (keeps-from t q x (record { first = c.boarded; last = x.number }) (c.rides + 1) s.levels)
    | inr shut ↦ rw shut (same-rows s.levels)
  ]

  pub rows-departed : (top : ℕ) (x : Leaving) (s : Ridden) → KeepsRoom s.levels (departed t q top x s).levels
  rows-departed top x s = by (rider_at top x s)
    where
      by : (p : Option Rider) → KeepsRoom s.levels (option_map_or (λ c. rode t q c x s) p s).levels
      by None = same-rows s.levels
      by (Some c) = rows-rode c x s

  pub riders-departed : (top : ℕ) (x : Leaving) (s : Ridden) → length (departed t q top x s).riders ≡ length s.riders
  riders-departed top x s = by (rider_at top x s)
    where
      by : (p : Option Rider) → length (option_map_or (λ c. rode t q c x s) p s).riders ≡ length s.riders
      by None = refl
      by (Some c) = length-set s.riders x.next (Some c)
