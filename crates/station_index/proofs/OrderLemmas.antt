-- Lists of entries stay in their order.
use Rattle.station_index.proofs.Words.{◌≡◌, ◌≢◌, suc, ◌≤◌, List, [], ◌∷◌, Bool, true, false, length, get_or, arith, inl, inr, All, Ordering, IsTotalOrder, AllPairs, filter, IsPermutation, IsSorted, Equal, is_lt, cases_Bool, All-cons, All-nil, All-weaker, All-permutation, Entry, entry_cmp, is_before_entry, entries_total, exact_entries, before_entry-trans, AreInOrder, with_entry}
use Rattle.std.proofs.Common.{Contains}
use Rattle.std.specs.Bool.{Decides}
use Rattle.std.specs.Ordering.{is_eq}
use Rattle.std.proofs.lemmas.Cmp.{tied_itself}
use Rattle.std.proofs.lemmas.List.Elements.{Contains-get_or}
use Rattle.std.proofs.lemmas.List.Kept.{AllPairs-cons, AllPairs-filter}
use Rattle.std.proofs.lemmas.List.Sorted.{IsPermutation-refl, IsPermutation-trans, IsPermutation-cons, IsPermutation-middle, ranks_by, sorted_far}
use Rattle.std.proofs.lemmas.Map.Keys.{IsDistinct-IsPermutation}
use Rattle.std.proofs.lemmas.Map.Made.{AllPairs-from_IsDistinct, IsDistinct-from_AllPairs}
use Rattle.station_index.proofs.EntryLemmas.{IsBefore, before_entry-connected}

module _ {X : Type 0} {R : X → X → Ordering} (o : IsTotalOrder R) (exact : (a b : X) → R a b ≡ Equal → a ≡ b) where
  less-other : (a b : X) → is_lt (R b a) ≡ false → a ≢ b → is_lt (R a b) ≡ true
  less-other a b h n = grind (arith, o.antisymm b a, exact a b)

  same-decides : (a b : X) → Decides (is_eq (R a b)) (a ≡ b)
  same-decides a b = (λ e. grind (arith, exact a b), λ e. rw e (grind (arith, tied_itself o b)))

  same-flips : (a b : X) → is_eq (R a b) ≡ is_eq (R b a)
  same-flips a b = grind (arith, o.antisymm a b)

  -- elements that differ, once they are sorted
  ascends : (xs ys : List X) → AllPairs (λ a b. a ≢ b) xs → IsPermutation xs ys → IsSorted R ys → AllPairs (λ a b. is_lt (R a b) ≡ true) ys
  ascends xs ys differ moved sorted =
      let apart = AllPairs-from_IsDistinct same-decides ys (IsDistinct-IsPermutation (λ a b. is_eq (R a b)) same-flips xs ys moved (IsDistinct-from_AllPairs same-decides xs differ)) in
      λ i j d l m. less-other (get_or ys i d) (get_or ys j d) (sorted_far (λ a b. is_lt (R a b)) (ranks_by o (λ x. x)) ys sorted i j d (omega arith) m) (apart i j d l m)

-- entries that differ, once they are sorted
pub sorted-ascends : (es fs : List Entry) → AllPairs (λ a b. a ≢ b) es → IsPermutation es fs → IsSorted entry_cmp fs → AreInOrder fs
unfolding is_before_entry
sorted-ascends es fs differ moved sorted = ascends entries_total exact_entries es fs differ moved sorted

pub AreInOrder-nil : AreInOrder []
AreInOrder-nil i j d l m = absurd (omega arith)

pub AreInOrder-tail : (x : Entry) (xs : List Entry) → AreInOrder (x ∷ xs) → AreInOrder xs
AreInOrder-tail x xs h i j d l m = h (suc i) (suc j) d (omega arith) (omega arith)

pub AreInOrder-after : (x : Entry) (xs : List Entry) → AreInOrder (x ∷ xs) → All (IsBefore x) xs
AreInOrder-after x xs h j d l = h 0 (suc j) d (omega arith) (omega arith)

pub AreInOrder-cons : (x : Entry) (xs : List Entry) → All (IsBefore x) xs → AreInOrder xs → AreInOrder (x ∷ xs)
AreInOrder-cons x xs first rest = AllPairs-cons (λ a b. is_before_entry a b ≡ true) x xs first rest

-- an entry more
pub with-moves : (e : Entry) (es : List Entry) → IsPermutation (e ∷ es) (with_entry e es)
with-moves e [] = IsPermutation-refl (e ∷ [])
with-moves e (x ∷ xs) =
    elim (cases_Bool (is_before_entry x e)) [
      | inl later ↦ rw later (IsPermutation-trans _ _ _ (IsPermutation-middle (e ∷ []) x xs) (IsPermutation-cons x _ _ (with-moves e xs)))
      | inr sooner ↦ rw sooner (IsPermutation-refl (e ∷ x ∷ xs))
    ]

pub with-all : (P : Entry → Type 0) (e : Entry) (es : List Entry) → P e → All P es → All P (with_entry e es)
with-all P e es one all = All-permutation P (e ∷ es) (with_entry e es) (with-moves e es) (All-cons P e es one all)

pub with-ascends : (e : Entry) (es : List Entry) → AreInOrder es → All (λ x. x ≢ e) es → AreInOrder (with_entry e es)
with-ascends e [] up apart = AreInOrder-cons e [] (All-nil (IsBefore e)) AreInOrder-nil
with-ascends e (x ∷ xs) up apart =
    let after = AreInOrder-after x xs up in
    let rest = AreInOrder-tail x xs up in
    elim (cases_Bool (is_before_entry x e)) [
      | inl later ↦ rw later (AreInOrder-cons x (with_entry e xs) (with-all (IsBefore x) e xs later after) (with-ascends e xs rest (λ k d l. apart (suc k) d (omega arith))))
      | inr sooner ↦
          elim (cases_Bool (is_before_entry e x)) [
            | inl first ↦ rw sooner (AreInOrder-cons e (x ∷ xs) (All-cons (IsBefore e) x xs first (All-weaker (IsBefore x) (IsBefore e) (λ y. before_entry-trans e x y first) xs after)) up)
            | inr same ↦ absurd (apart 0 x (omega arith) (before_entry-connected x e sooner same))
          ]
    ]

-- what a list does not contain differs from each of its elements
pub absent-differs : (e : Entry) (es : List Entry) → (Contains es e → ⊥) → All (λ x. x ≢ e) es
absent-differs e es absent k d l same = absent (rw (same) at (Contains-get_or es k d l))

-- entries fewer
pub filter-ascends : (p : Entry → Bool) (es : List Entry) → AreInOrder es → AreInOrder (filter p es)
filter-ascends p es up = AllPairs-filter (λ a b. is_before_entry a b ≡ true) p es up

pub filter-fewer : (p : Entry → Bool) (es : List Entry) → length (filter p es) ≤ length es
filter-fewer p [] = omega arith
filter-fewer p (x ∷ xs) =
    let rest = filter-fewer p xs in
    elim (cases_Bool (p x)) [
      | inl passes ↦ rw passes (omega arith)
      | inr fails ↦ rw fails (omega arith)
    ]
