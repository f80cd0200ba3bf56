-- Of rows by pair, those that are left where only the first of each pair is kept.
use Rattle.change_times.proofs.Words.{◌≡◌, ℕ, suc, ◌<◌, ◌≤◌, List, [], ◌∷◌, Bool, true, false, ◌&&◌, nat_eq, cond, find, Some, All, length, get_or, refl, sym, subst, ◌∙◌, ap, arith, inl, inr, cases_Bool, cases_order, and_parts, eqb-true, eq-eqb, All-contains, All-contains_itself, filter_passes, All-dedup, filter, dedup, IsNonDecreasingBy, TransferRow, Contains-filter, from_of, to_of, is_from, is_to, is_same_pair, IsByPair, HaveOwnPairs}
use Rattle.std.proofs.lemmas.List.Kept.{AllPairs-filter}
use Rattle.std.specs.List.{dedup_from, AllPairs}
use Rattle.delay_model.proofs.Lists.{AllPairs-nil, AllPairs-cons, AllPairs-tail, AllPairs-after}
use Rattle.change_times.proofs.TableLemmas.{find-filter}

-- a row stands by pair before another
pub record IsBefore (x y : TransferRow) : Type 0 where
  pub from : from_of x ≤ from_of y
  pub to : from_of x ≡ from_of y → to_of x ≤ to_of y

-- what `dedup` drops is never the first that passes a test, if the test asks for what is compared
find-dedup_from : {X : Type 0} (same : X → X → Bool) (p : X → Bool) → ((x y : X) → same y x ≡ true → p y ≡ p x) → (x : X) (xs : List X) → find p (dedup_from same x xs) ≡ find p (x ∷ xs)
find-dedup_from same p agree x [] = refl
find-dedup_from same p agree x (y ∷ ys) =
    elim (cases_Bool (same y x)) [
      | inl e ↦
          elim (cases_Bool (p x)) [
            | inl f ↦ rw e (find-dedup_from same p agree x ys ∙ (rw f refl))
            | inr f ↦ rw e (find-dedup_from same p agree x ys ∙ (rw (f, agree x y e ∙ f) refl))
          ]
      | inr e ↦ rw e (ap (λ o. cond (p x) (Some x) o) (find-dedup_from same p agree y ys))
    ]

find-dedup : {X : Type 0} (same : X → X → Bool) (p : X → Bool) → ((x y : X) → same y x ≡ true → p y ≡ p x) → (xs : List X) → find p (dedup same xs) ≡ find p xs
find-dedup same p agree [] = refl
find-dedup same p agree (x ∷ xs) = find-dedup_from same p agree x xs

same-ends : (x y : TransferRow) → is_same_pair y x ≡ true → (from_of y ≡ from_of x) × (to_of y ≡ to_of x)
same-ends x y e =
    let parts = and_parts (nat_eq (from_of y) (from_of x)) (nat_eq (to_of y) (to_of x)) e in
    (eqb-true _ _ parts.0, eqb-true _ _ parts.1)

-- the first row of a pair stays
pub first-stays : (rows : List TransferRow) (a b : ℕ) → find (is_to b) (filter (is_from a) (dedup is_same_pair rows)) ≡ find (is_to b) (filter (is_from a) rows)
first-stays rows a b =
    let both : TransferRow → Bool = λ row. is_from a row && is_to b row in
    let agree : (x y : TransferRow) → is_same_pair y x ≡ true → both y ≡ both x = λ x y e.
    let ends = same-ends x y e in
    ap (λ n. nat_eq n a && nat_eq (to_of y) b) ends.0 ∙ ap (λ n. nat_eq (from_of x) a && nat_eq n b) ends.1 in
    find-filter (is_to b) (is_from a) (dedup is_same_pair rows) ∙ find-dedup is_same_pair both agree rows ∙ sym (find-filter (is_to b) (is_from a) rows)

-- if both pass a test, the first is not above the second
abbrev DoesRise : {X : Type 0} → (X → ℕ) → (X → Bool) → X → X → Type 0
DoesRise key p x y = p x ≡ true → p y ≡ true → key x ≤ key y

-- elements that pass a test rise among each other, where those that pass it rise
rise-apart : {X : Type 0} (key : X → ℕ) (p : X → Bool) (xs : List X) → IsNonDecreasingBy key (filter p xs) → AllPairs (DoesRise key p) xs
rise-apart key p [] h = AllPairs-nil (DoesRise key p)
rise-apart key p (x ∷ xs) h =
    elim (cases_Bool (p x)) [
      | inl e ↦
          let k : IsNonDecreasingBy key (x ∷ filter p xs) = subst (λ b. IsNonDecreasingBy key (cond b (x ∷ filter p xs) (filter p xs))) e h in
          let all : All (λ y. key x ≤ key y) (filter p xs) = λ i d l. k 0 (suc i) d (omega arith) (omega (arith, l)) in
          AllPairs-cons (DoesRise key p) x xs (λ i d l _ py. All-contains (λ y. key x ≤ key y) (filter p xs) (get_or xs i d) all (Contains-filter p xs (get_or xs i d) (All-contains_itself xs i d l) py))
          (rise-apart key p xs (λ i j d l m. k (suc i) (suc j) d (omega (arith, l)) (omega (arith, m))))
      | inr e ↦
          AllPairs-cons (DoesRise key p) x xs (λ i d l px _. absurd (cc))
          (rise-apart key p xs (subst (λ b. IsNonDecreasingBy key (cond b (x ∷ filter p xs) (filter p xs))) e h))
    ]

all-before : (rows : List TransferRow) → IsByPair rows → AllPairs IsBefore rows
all-before rows h i j d l m = record {
  from = h.from i j d (omega (arith, l)) m;
  to = λ e.
      rise-apart to_of (is_from (from_of (get_or rows j d))) rows (h.to (from_of (get_or rows j d))) i j d l m (eq-eqb _ _ e) (eq-eqb _ _ refl);
}

rises : {X : Type 0} (key : X → ℕ) (xs : List X) → AllPairs (λ x y. key x ≤ key y) xs → IsNonDecreasingBy key xs
rises key xs h i j d l m =
    elim (cases_order i j) [
      | inl e ↦ subst (λ k. key (get_or xs i d) ≤ key (get_or xs k d)) e (omega arith)
      | inr o ↦ elim o [ inl n ↦ h i j d n m | inr n ↦ absurd (omega (arith, l, n)) ]
    ]

by-before : (rows : List TransferRow) → AllPairs IsBefore rows → IsByPair rows
by-before rows h = record {
  from = rises from_of rows (λ i j d l m. (h i j d l m).from);
  to = λ a.
      let passes = filter_passes (is_from a) rows in
      let kept = AllPairs-filter IsBefore (is_from a) rows h in
      rises to_of (filter (is_from a) rows) (λ i j d l m. (kept i j d l m).to (eqb-true _ _ (passes i d (omega (arith, l, m))) ∙ sym (eqb-true _ _ (passes j d m))));
}

-- without the second of a list, its elements stand as before
AllPairs-skip : {X : Type 0} (R : X → X → Type 0) (x y : X) (xs : List X) → AllPairs R (x ∷ y ∷ xs) → AllPairs R (x ∷ xs)
AllPairs-skip R x y xs h =
    AllPairs-cons R x xs (λ i d l. h 0 (suc (suc i)) d (omega arith) (omega (arith, l))) (AllPairs-tail R y xs (AllPairs-tail R x (y ∷ xs) h))

AllPairs-dedup_from : {X : Type 0} (same : X → X → Bool) (R : X → X → Type 0) (x : X) (xs : List X) → AllPairs R (x ∷ xs) → AllPairs R (dedup_from same x xs)
AllPairs-dedup_from same R x [] h = h
AllPairs-dedup_from same R x (y ∷ ys) h =
    elim (cases_Bool (same y x)) [
      | inl e ↦ rw e (AllPairs-dedup_from same R x ys (AllPairs-skip R x y ys h))
      | inr e ↦
          rw e (AllPairs-cons R x (dedup_from same y ys) (All-dedup same (R x) (y ∷ ys) (AllPairs-after R [] x (y ∷ ys) h)) (AllPairs-dedup_from same R y ys (AllPairs-tail R x (y ∷ ys) h)))
    ]

AllPairs-dedup : {X : Type 0} (same : X → X → Bool) (R : X → X → Type 0) (xs : List X) → AllPairs R xs → AllPairs R (dedup same xs)
AllPairs-dedup same R [] h = h
AllPairs-dedup same R (x ∷ xs) h = AllPairs-dedup_from same R x xs h

-- what is left stands by pair
pub stays-by-pair : (rows : List TransferRow) → IsByPair rows → IsByPair (dedup is_same_pair rows)
stays-by-pair rows h = by-before (dedup is_same_pair rows) (AllPairs-dedup is_same_pair IsBefore rows (all-before rows h))

-- a row after one of another pair has not the pair of what stands before both
differs : (x y z : TransferRow) → IsBefore x y → IsBefore y z → is_same_pair y x ≡ false → is_same_pair z x ≡ false
differs x y z h k e =
    elim (cases_Bool (is_same_pair z x)) [
      | inl same ↦
          let ends = same-ends x z same in
          let from : from_of y ≡ from_of x = omega (arith, ends.0, h.from, k.from) in
          let low = h.to (sym from) in
          let high = k.to (from ∙ sym ends.0) in
          let to : to_of y ≡ to_of x = omega (arith, ends.1, low, high) in
          let f = eq-eqb _ _ from in
          let t = eq-eqb _ _ to in
          absurd (cc)
      | inr other ↦ other
    ]

abbrev Differs : TransferRow → TransferRow → Type 0
Differs row later = is_same_pair later row ≡ false

own-from : (x : TransferRow) (xs : List TransferRow) → AllPairs IsBefore (x ∷ xs) → HaveOwnPairs (dedup_from is_same_pair x xs)
own-from x [] h =
    AllPairs-cons Differs x [] (λ i d l. absurd (omega (arith, l))) (AllPairs-nil Differs)
own-from x (y ∷ ys) h =
    elim (cases_Bool (is_same_pair y x)) [
      | inl e ↦ rw e (own-from x ys (AllPairs-skip IsBefore x y ys h))
      | inr e ↦
          let later : (i : ℕ) (d : TransferRow) → i < length (y ∷ ys) → is_same_pair (get_or (y ∷ ys) i d) x ≡ false = λ i d l.
          elim (cases_order i 0) [
            | inl z ↦ subst (λ n. is_same_pair (get_or (y ∷ ys) n d) x ≡ false) (sym z) e
            | inr o ↦
                elim o [
                  | inl n ↦ absurd (omega (arith, n))
                  | inr n ↦ differs x y (get_or (y ∷ ys) i d) (h 0 1 d (omega arith) (omega arith)) (AllPairs-tail IsBefore x (y ∷ ys) h 0 i d n l) e
                ]
          ] in
          rw e (AllPairs-cons Differs x (dedup_from is_same_pair y ys) (All-dedup is_same_pair (Differs x) (y ∷ ys) later) (own-from y ys (AllPairs-tail IsBefore x (y ∷ ys) h)))
    ]

-- what is left has no two rows of one pair
pub own-pairs : (rows : List TransferRow) → IsByPair rows → HaveOwnPairs (dedup is_same_pair rows)
own-pairs [] h = AllPairs-nil Differs
own-pairs (x ∷ xs) h = own-from x xs (all-before (x ∷ xs) h)
