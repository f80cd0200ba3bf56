-- Stored trains, their names, and their numbers.
use Rattle.schedule_build.proofs.Words.{common_steps, ◌≡◌, ◌∙◌, ◌-◌, ◌<◌, ◌≤◌, [], ℕ, List, Some, None, false, length, All, map, get_or}
use Rattle.schedule_build.proofs.Words.{arith, bytes_eq-Decides, bytes_eq, nat_eq, ◌&&◌, slice_index_or, StoredTrain, number_from}
use Rattle.schedule_build.proofs.Words.{trip_name, seen_train, HasTrip, IsSmall, AreNumbered, key_at, order_of, train_key}
use Rattle.std.proofs.Common.{ltb}
use Rattle.std.proofs.lemmas.Bool.Decides.{nat_tests}
use Rattle.std.specs.List.Sorted.{IsNonDecreasingBy, IsPermutation}
use Rattle.schedule_build.specs.Buckets.{entries_of, has_key, key_of}
use Rattle.schedule_build.specs.Stored.{number_of_name, number_of_train}
use Rattle.schedule_build.specs.declared.buckets.Entry.{Entry}
use Rattle.schedule_build.proofs.EntryLemmas.{moved-own, numbered}
use Rattle.schedule_build.proofs.NumberLemmas.{number_from-map, number_from-agree, number_from-none, is_found}

-- the name that has a number is the name at that place
pub named-there : (trips : List (List ℕ)) (trip : List ℕ) (k : ℕ) → number_of_name trips trip ≡ Some k → (k < length trips) × (slice_index_or trips k [] ≡ trip)
named-there trips trip k h =
    let found = is_found (λ n. bytes_eq n trip) 0 trips k h in
    let whole : k - 0 ≡ k = omega arith in
    let same = rw whole at (found.holds []) in
    grind (arith, found.before, bytes_eq-Decides (slice_index_or trips k []) trip)

-- the number of a train is that of its stored pair
pub train-found : (trips : List (List ℕ)) (trains : List StoredTrain) (trip : List ℕ) (day k : ℕ) → All (HasTrip trips) trains → number_of_name trips trip ≡ Some k
    → number_of_train (map (seen_train trips) trains) trip day ≡ number_from 0 (λ (t : StoredTrain). nat_eq t.trip k && nat_eq t.day day) trains
train-found trips trains trip day k has h =
    rw number_from-map (number_from-agree (HasTrip trips) _ _ 0 trains has (λ t one. grind (arith, common_steps, bytes_eq-Decides (trip_name trips t) trip, (named-there trips trip k h).1)))

-- no train is of a trip that none has
pub train-missing : (trips : List (List ℕ)) (trains : List StoredTrain) (trip : List ℕ) (day : ℕ) → All (HasTrip trips) trains → number_of_name trips trip ≡ None → number_of_train (map (seen_train trips) trains) trip day ≡ None
train-missing trips trains trip day has h =
    rw number_from-map (number_from-agree (HasTrip trips) _ (λ (t : StoredTrain). false) 0 trains has (λ t one. grind (arith, common_steps, bytes_eq-Decides (trip_name trips t) trip)) ∙ number_from-none 0 trains)

-- no train is on a day that is not loaded
pub train-unloaded : (trips : List (List ℕ)) (trains : List StoredTrain) (trip : List ℕ) (day : ℕ) → All (λ (t : StoredTrain). t.day < 31) trains → 31 ≤ day → number_of_train (map (seen_train trips) trains) trip day ≡ None
train-unloaded trips trains trip day loaded h =
    rw number_from-map (number_from-agree (λ (t : StoredTrain). t.day < 31) _ (λ (t : StoredTrain). false) 0 trains loaded (λ t one. grind (arith, common_steps, nat_tests)) ∙ number_from-none 0 trains)

-- ---- the numbers of trains by trip and day

-- a trip that has a name has a small number
pub all-small : (trips : List (List ℕ)) (trains : List StoredTrain) → length trips ≤ 200000 → All (λ (t : StoredTrain). t.day < 31) trains → All (HasTrip trips) trains → All IsSmall trains
all-small trips trains few loaded has i d l =
    let t = get_or trains i d in
    record { trip = omega (arith, few, (named-there trips (trip_name trips t) t.trip (has i d l)).0); day = loaded i d l }

some_train : StoredTrain
some_train = record { trip = 0; day = 0 }

module _ (trains : List StoredTrain) (es : List Entry) (few : length trains ≤ 200000) (small : All IsSmall trains) (moved : IsPermutation (entries_of train_key 0 trains) es) (sorted : IsNonDecreasingBy order_of es) where
  number-below : (i : ℕ) (d : Entry) → i < length es → (get_or es i d).number < 200000
  number-below i d l = omega (arith, few, (moved-own train_key trains some_train es moved i d l).below)

  pub train-keys-rise : IsNonDecreasingBy key_of es
  train-keys-rise i j d le l =
      omega (arith, sorted i j d le l, number-below i d (omega arith), number-below j d l)

  pub trains-numbered : AreNumbered trains es
  trains-numbered = record {
    found = λ trip day loaded.
        numbered train_key trains some_train es moved (λ a b. ltb (order_of a) (order_of b)) (λ (t : StoredTrain). nat_eq t.trip trip && nat_eq t.day day) (has_key (key_at trip day))
        (λ i j d le l. (let rise = sorted i j d le l in grind (arith, nat_tests)))
        (λ k l. (let t = small k some_train l in grind (arith, nat_tests, common_steps, t.trip, t.day)))
        (λ a b own other one two. grind (arith, nat_tests));
  }
