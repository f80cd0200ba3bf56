-- A key put into a list of keys that ascend, and the first taken off it.
use Rattle.std.proofs.Common.{◌≡◌, ◌≤◌, ◌<◌, ◌||◌, [], ◌∷◌, true, false, List, Bool, ℕ, zero, suc, refl, sym, arith, length, get_or, inl, inr}
use Rattle.std.specs.List.{insert}
use Rattle.std.specs.List.Sorted.{IsPartitionedBy}
use Rattle.std.proofs.lemmas.Bool.{cases_lt, or_parts}
use Rattle.std.proofs.lemmas.List.Elements.{All-cons}
use Rattle.std.proofs.lemmas.List.Kept.{AllPairs-cons}
use Rattle.std.proofs.lemmas.List.Folds.{list_any_none}
use Rattle.std.proofs.lemmas.List.Sorted.{All-permutation, IsPermutation-insert, list_any-IsPermutation}
use Rattle.mt_base.specs.declared.keys.Key.{Key}
use Rattle.mt_base.specs.Order.{is_before, is_same}
use Rattle.mt_base.proofs.KeyLemmas.{before-trans, before-itself, keys_total, exact_keys, same-is, same-itself}
use Rattle.rank_order.specs.InOrder.{IsPlace}
use Rattle.rank_order.specs.Marked.{Ascends, has_key}

abbrev pub RisesTo : Key → Key → Type 0
RisesTo a b = is_before a b ≡ true

not-then : (b : Bool) → (b ≡ true → ⊥) → b ≡ false
not-then true h = absurd (h refl)
not-then false h = refl

-- of two keys that are not one, one is before the other
pub higher : (a b : Key) → is_before a b ≡ false → is_same a b ≡ false → is_before b a ≡ true
unfolding is_before
higher a b h n = grind (arith, keys_total.antisymm a b, exact_keys a b, same-itself b)

-- a key is put before the first that is not before it
module _ (k : Key) where
  pub ascends-parted : (ks : List Key) → Ascends ks → IsPartitionedBy (λ q. is_before q k) ks
  ascends-parted ks up i j d le l sooner =
      elim (cases_lt i j) [
        | inl less ↦ before-trans (get_or ks i d) (get_or ks j d) k (up i j d less l) sooner
        | inr not ↦ let same : i ≡ j = omega arith in rw same sooner
      ]

  pub insert-ascends : (ks : List Key) (place : ℕ) → Ascends ks → place ≤ length ks → IsPlace k ks place → has_key ks k ≡ false → Ascends (insert ks place k)
  insert-ascends [] zero up l at none = λ i j d less m. absurd (omega arith)
  insert-ascends [] (suc place) up l at none = absurd (omega arith)
  insert-ascends (x ∷ xs) zero up l at none =
      let other : is_same x k ≡ false = (or_parts (is_same x k) (has_key xs k) none).0 in
      let first = higher x k (at.1 0 x (omega arith) (omega arith)) other in
      AllPairs-cons RisesTo k (x ∷ xs) (All-cons (RisesTo k) x xs first (λ j d m. before-trans k x (get_or xs j d) first (up 0 (suc j) d (omega arith) (omega arith)))) up
  insert-ascends (x ∷ xs) (suc place) up l at none =
      let rest = (or_parts (is_same x k) (has_key xs k) none).1 in
      let tail = insert-ascends xs place (λ i j d less m. up (suc i) (suc j) d (omega arith) (omega arith)) (omega arith) ((λ j d a b. at.0 (suc j) d (omega arith) (omega arith)), (λ j d a b. at.1 (suc j) d (omega arith) (omega arith))) rest in
      AllPairs-cons RisesTo x (insert xs place k) (All-permutation (RisesTo x) (k ∷ xs) (insert xs place k) (IsPermutation-insert xs place k)
      (All-cons (RisesTo x) k xs (at.0 0 x (omega arith) (omega arith)) (λ j d m. up 0 (suc j) d (omega arith) (omega arith)))) tail

  -- where the first that is not before it is not it, it is not there
  pub none-there : (ks : List Key) (place : ℕ) → Ascends ks → IsPlace k ks place → (place < length ks → (d : Key) → is_same (get_or ks place d) k ≡ false) → has_key ks k ≡ false
  none-there ks place up at other =
      list_any_none (λ q. is_same q k) ks (λ i d l.
      not-then _ (λ same.
      let e = same-is (get_or ks i d) k same in
      let none = before-itself k in
      elim (cases_lt i place) [
        | inl less ↦ (let sooner = rw e at (at.0 i d (omega arith) less) in absurd (cc))
        | inr not ↦ elim (cases_lt place i) [
          | inl past ↦ (let a = at.1 place d (omega arith) (omega arith) in let b = up place i d past l in let r = rw e at b in absurd (cc))
          | inr own ↦ (let p : i ≡ place = omega arith in let n = other (omega arith) d in let s = rw p at same in absurd (cc))
        ]
      ]))

-- what is marked then
pub insert-marks : (ks : List Key) (place : ℕ) (k q : Key) → has_key (insert ks place k) q ≡ (is_same k q || has_key ks q)
insert-marks ks place k q =
    sym (list_any-IsPermutation (λ a. is_same a q) (k ∷ ks) (insert ks place k) (IsPermutation-insert ks place k))
