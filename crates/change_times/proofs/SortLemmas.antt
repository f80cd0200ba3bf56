-- Lists in the order of a number: the part of one number, and what a stable sort keeps.
use Rattle.change_times.proofs.Words.{◌≡◌, ℕ, suc, zero, ◌-◌, ◌<◌, ◌≤◌, List, [], ◌∷◌, true, false, cond, nat_eq, None, Some, find, length, get_or, take, drop, refl, sym, ◌∙◌, ap, arith, inl, inr, ltb, leb, cases_lt, ltb-false, ltb-true, slice_get, if◌then◌else◌, filter, IsPartitionPoint, IsNonDecreasingBy, part-is}
use Rattle.std.proofs.lemmas.Bool.{leb-true, leb-false}
use Rattle.change_times.specs.Stored.{of_number}
use Rattle.feed_tables.proofs.OrderLemmas.{eq-same, eq-less, eq-more}

-- where the elements of a number begin, and where they end
pub record Between {X : Type 0} (key : X → ℕ) (k : ℕ) (xs : List X) (low high : ℕ) : Type 0 where
  pub start : IsPartitionPoint (λ y. ltb (key y) k ≡ true) (λ y. ltb (key y) k ≡ false) xs low
  pub end : IsPartitionPoint (λ y. leb (key y) k ≡ true) (λ y. leb (key y) k ≡ false) xs high
  pub within : low ≤ length xs

pub between-order : {X : Type 0} (key : X → ℕ) (k : ℕ) (xs : List X) (start end : ℕ) (d : X) → Between key k xs start end → start ≤ end
between-order key k xs start end d h =
    elim (cases_lt end start) [
      | inl l ↦
          let a = ltb-true _ _ (h.start.0 end d (omega arith) l) in
          let b = leb-false _ _ (h.end.1 end d (omega arith) (omega (arith, l, h.within))) in
          absurd (omega (arith, a, b))
      | inr l ↦ l
    ]

pub between-part : {X : Type 0} (key : X → ℕ) (k : ℕ) (xs : List X) (start end : ℕ) → start ≤ end → Between key k xs start end → take (end - start) (drop start xs) ≡ filter (λ x. nat_eq (key x) k) xs
between-part key k xs start end order h =
    part-is key k start (end - start) xs
    (λ i d m n. ltb-true _ _ (h.start.0 i d (omega arith) m))
    (λ i d m n o.
    let a = ltb-false _ _ (h.start.1 i d m o) in
    let b = leb-true _ _ (h.end.0 i d (omega arith) (omega (arith, n, order))) in
    omega (arith, a, b))
    (λ i d m n. leb-false _ _ (h.end.1 i d (omega (arith, m, order)) n))

none-above : {X : Type 0} (key : X → ℕ) (k : ℕ) (xs : List X) → ((j : ℕ) (d : X) → j < length xs → k < key (get_or xs j d)) → find (λ y. nat_eq (key y) k) xs ≡ None
none-above key k [] high = refl
none-above key k (x ∷ xs) high =
    ap (λ b. cond b (Some x) (find (λ y. nat_eq (key y) k) xs)) (eq-more (key x) k (high 0 x (omega arith)))
    ∙ none-above key k xs (λ j d l. high (suc j) d (omega (arith, l)))

-- the first element of a number stands where the smaller ones end, if there is one
pub first-is : {X : Type 0} (key : X → ℕ) (k : ℕ) (xs : List X) (i : ℕ) → IsNonDecreasingBy key xs → ((j : ℕ) (d : X) → j < i → j < length xs → key (get_or xs j d) < k) → ((j : ℕ) (d : X) → i ≤ j → j < length xs → k ≤ key (get_or xs j d)) → find (λ y. nat_eq (key y) k) xs ≡ of_number key k (slice_get xs i)
first-is key k [] i rises low high = refl
first-is key k (x ∷ xs) (suc i) rises low high =
    ap (λ b. cond b (Some x) (find (λ y. nat_eq (key y) k) xs)) (eq-less (key x) k (low 0 x (omega arith) (omega arith)))
    ∙ first-is key k xs i (λ a b d l m. rises (suc a) (suc b) d (omega (arith, l)) (omega (arith, m))) (λ j d l m. low (suc j) d (omega (arith, l)) (omega (arith, m))) (λ j d l m. high (suc j) d (omega (arith, l)) (omega (arith, m)))
first-is key k (x ∷ xs) zero rises low high =
    elim (cases_lt k (key x)) [
      | inl l ↦
          let none = none-above key k xs (λ j d m. let r = rises 0 (suc j) d (omega arith) (omega (arith, m)) in omega (arith, r, l)) in
          ap (λ o. cond (nat_eq (key x) k) (Some x) o) none
      | inr l ↦
          let same = eq-same (key x) k (let h = high 0 x (omega arith) (omega arith) in omega (arith, h, l)) in
          ap (λ b. cond b (Some x) (find (λ y. nat_eq (key y) k) xs)) same
          ∙ sym (ap (λ b. if b then Some x else None) same)
    ]
