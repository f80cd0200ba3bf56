-- Entries by a number.
use Rattle.station_index.proofs.Words.{◌≡◌, ◌≢◌, ℕ, ◌+◌, ◌/◌, ◌%◌, ◌<◌, ◌≤◌, false, nat_eq, List, map, length, get_or, subst, arith, Ordering, AllPairs, IsPermutation, IsSorted, nat_cmp, bool_cmp, ordering_then, is_lt, get_or-map, length-map, Entry, entry_cmp, AreInOrder, entry_of_number}
use Rattle.std.proofs.Common.{◌^◌}
use Rattle.std.proofs.lemmas.List.Sorted.{IsPermutation-map}
use Rattle.station_index.proofs.OrderLemmas.{sorted-ascends}

not-before : (a b : ℕ) (o : Ordering) → b ≤ a → (a ≡ b → is_lt o ≡ false) → is_lt (ordering_then (nat_cmp a b) o) ≡ false
not-before a b o l h = grind (arith, h)

not-before-bit : (a b : ℕ) (o : Ordering) → b ≤ a → a < 2 → (a ≡ b → is_lt o ≡ false) → is_lt (ordering_then (bool_cmp (nat_eq a 1) (nat_eq b 1)) o) ≡ false
not-before-bit a b o l m h = grind (arith, h)

-- a number that is no less is of an entry that does not stand before
pub numbers-rise : (n m : ℕ) → n ≤ m → is_lt (entry_cmp (entry_of_number m) (entry_of_number n)) ≡ false
numbers-rise n m l =
    not-before (m / 2 ^ 47) (n / 2 ^ 47) _ (omega (arith, l)) (λ stop.
    not-before-bit (m / 2 ^ 46 % 2) (n / 2 ^ 46 % 2) _ (omega (arith, l, stop)) (omega arith) (λ dep.
    not-before (m / 2 ^ 26 % 2 ^ 20) (n / 2 ^ 26 % 2 ^ 20) _ (omega (arith, l, stop, dep)) (λ time.
    not-before (m / 2 ^ 8 % 2 ^ 18) (n / 2 ^ 8 % 2 ^ 18) _ (omega (arith, l, stop, dep, time)) (λ train.
    not-before (m % 2 ^ 8) (n % 2 ^ 8) _ (omega (arith, l, stop, dep, time, train)) (λ label. rw dep (grind arith))))))

-- the entries of sorted numbers are sorted
numbers-sorted : (ns : List ℕ) → IsSorted nat_cmp ns → IsSorted entry_cmp (map entry_of_number ns)
numbers-sorted ns h k d l m =
    let j : k + 1 < length ns = omega (arith, m, length-map ns entry_of_number) in
    rw (get_or-map entry_of_number ns (k + 1) 0 d j, get_or-map entry_of_number ns k 0 d (omega (arith, j)))
    (numbers-rise (get_or ns k 0) (get_or ns (k + 1) 0) (grind (arith, h k 0 l j)))

-- numbers of entries, moved, are of the entries moved
pub numbers-move : (ns ms : List ℕ) (es : List Entry) → map entry_of_number ns ≡ es → IsPermutation ns ms → IsPermutation es (map entry_of_number ms)
numbers-move ns ms es same moved = subst (λ xs. IsPermutation xs (map entry_of_number ms)) same (IsPermutation-map entry_of_number ns ms moved)

-- entries that differ are in order once their numbers are sorted
pub numbers-ordered : (ns ms : List ℕ) (es : List Entry) → map entry_of_number ns ≡ es → AllPairs (λ a b. a ≢ b) es → IsPermutation ns ms → IsSorted nat_cmp ms → AreInOrder (map entry_of_number ms)
numbers-ordered ns ms es same differ moved sorted = sorted-ascends es _ differ (numbers-move ns ms es same moved) (numbers-sorted ms sorted)
