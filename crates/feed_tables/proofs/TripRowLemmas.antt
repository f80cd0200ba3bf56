-- The rows of a trip are a part of the rows that are in the order of trips.
use Rattle.std.proofs.Common.{◌≡◌, ℕ, zero, suc, ◌+◌, ◌<◌, ◌≤◌, List, [], ◌∷◌, false, cond, nat_eq, None, length, get_or, take, drop, refl, sym, ◌∙◌, ap, arith}
use Rattle.std.proofs.lemmas.List.Sums.{length-filter, count_by-le-length}
use Rattle.std.specs.List.{filter}
use Rattle.mt_base.specs.declared.tables.CallRow.{CallRow}
use Rattle.feed_tables.specs.Calls.{trip_of, rows_of}
use Rattle.feed_tables.proofs.OrderLemmas.{eq-same, eq-less, eq-more, stays, tie}

pub a-row : ℕ → CallRow
a-row trip = record { trip = trip; stop = 0; seq = 0; arr = None; dep = None; board = false; alight = false }

-- a stable sort by trip leaves each trip its rows
pub rows-stay : (xs ys : List CallRow) → ((z : CallRow) → filter (tie trip_of z) ys ≡ filter (tie trip_of z) xs) → (trip : ℕ) → rows_of ys trip ≡ rows_of xs trip
unfolding a-row
rows-stay xs ys same trip = stays trip_of xs ys (a-row trip) (same (a-row trip))

-- the part of a list between the elements of smaller and those of greater numbers
pub part-is : {X : Type 0} (key : X → ℕ) (k a n : ℕ) (xs : List X) → ((i : ℕ) (d : X) → i < a → i < length xs → key (get_or xs i d) < k) → ((i : ℕ) (d : X) → a ≤ i → i < a + n → i < length xs → key (get_or xs i d) ≡ k) → ((i : ℕ) (d : X) → a + n ≤ i → i < length xs → k < key (get_or xs i d)) → take n (drop a xs) ≡ filter (λ x. nat_eq (key x) k) xs
part-is key k zero zero [] low mid high = refl
part-is key k zero (suc n) [] low mid high = refl
part-is key k (suc a) zero [] low mid high = refl
part-is key k (suc a) (suc n) [] low mid high = refl
part-is key k zero zero (x ∷ xs) low mid high =
    let later = part-is key k zero zero xs (λ i d m n. absurd (omega (arith, m))) (λ i d m n o. absurd (omega (arith, n))) (λ i d m n. high (suc i) d (omega arith) (omega (arith, n))) in
    later ∙ sym (ap (λ t. cond t (x ∷ filter (λ x. nat_eq (key x) k) xs) (filter (λ x. nat_eq (key x) k) xs)) (eq-more (key x) k (high 0 x (omega arith) (omega arith))))
part-is key k zero (suc n) (x ∷ xs) low mid high =
    ap (λ r. x ∷ r) (part-is key k zero n xs (λ i d m n. absurd (omega (arith, m))) (λ i d m n o. mid (suc i) d (omega arith) (omega (arith, n)) (omega (arith, o))) (λ i d m n. high (suc i) d (omega (arith, m)) (omega (arith, n))))
    ∙ sym (ap (λ t. cond t (x ∷ filter (λ x. nat_eq (key x) k) xs) (filter (λ x. nat_eq (key x) k) xs)) (eq-same (key x) k (mid 0 x (omega arith) (omega arith) (omega arith))))
part-is key k (suc a) n (x ∷ xs) low mid high =
    part-is key k a n xs (λ i d m n. low (suc i) d (omega (arith, m)) (omega (arith, n))) (λ i d m n o. mid (suc i) d (omega (arith, m)) (omega (arith, n)) (omega (arith, o))) (λ i d m n. high (suc i) d (omega (arith, m)) (omega (arith, n)))
    ∙ sym (ap (λ t. cond t (x ∷ filter (λ x. nat_eq (key x) k) xs) (filter (λ x. nat_eq (key x) k) xs)) (eq-less (key x) k (low 0 x (omega arith) (omega arith))))

-- a trip has no more rows than the table
pub few-rows : (calls : List CallRow) (trip : ℕ) → length (rows_of calls trip) ≤ length calls
few-rows calls trip = omega (arith, length-filter (λ c. nat_eq (trip_of c) trip) calls, count_by-le-length (λ c. nat_eq (trip_of c) trip) calls)
