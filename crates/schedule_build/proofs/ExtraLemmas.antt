-- The names of extra trains, and their numbers in order.
use Rattle.schedule_build.proofs.Words.{common_steps, elements, ◌≡◌, ◌∙◌, ◌+◌, ◌-◌, ◌<◌, ◌≤◌, ◌++◌, ◌∷◌, [], ℕ, zero, suc, List, Some, None, true, length, length-append, All, map, sym, subst, refl, ap, arith, get_or, bytes_eq, nat_eq, ◌&&◌, inl, inr}
use Rattle.std.proofs.Common.{Ordering, cond, Result, Ok, Err}
use Rattle.std.proofs.lemmas.Bool.{cases_Bool}
use Rattle.std.proofs.lemmas.Cmp.{then_total, on_total, nat_list_cmp_total, nat_cmp_total, eq_by_cmp_equiv}
use Rattle.std.proofs.lemmas.List.{get_or-map, length-map}
use Rattle.std.proofs.lemmas.Map.Lookups.{exact_bytes, exact_unsigned}
use Rattle.std.proofs.lemmas.Map.Text.{is_eq-slice_cmp}
use Rattle.std.specs.Cmp.{IsTotalOrder, unsigned_tied}
use Rattle.std.specs.FinMap.{get, from_sorted, is_sorted, get-from_sorted, get-insert}
use Rattle.std.specs.List.{insert}
use Rattle.std.specs.List.Sorted.{IsBinarySearchResult, IsSearchInRange}
use Rattle.std.specs.Ordering.{eq_by_cmp, is_eq, nat_cmp, ordering_then}
use Rattle.std.specs.Option.{option_map_or}
use Rattle.std.specs.Prelude.{IfOk, IfErr, slice_get}
use Rattle.std.specs.declared.cmp.Ordering.TheVariants.{Less, Equal, Greater}
use Rattle.std.specs.Cmp.Lexicographic.{slice_cmp}
use Rattle.delay_model.specs.Names.{TrainName}
use Rattle.std.specs.Bool.{passes}
use Rattle.std.specs.FinMap.Entries.{is_sorted-put}
use Rattle.train_nodes.proofs.PlaceLemmas.{at-found, at-gap, put-is, searched, truth}
use Rattle.schedule_build.proofs.NumberLemmas.{number_from-end}
use Rattle.schedule_build.specs.Stored.{number_of_train}
use Rattle.schedule_build.specs.StoredExtras.{name_of, name_cmp, name_at, entry_of, AreFound, IsEntry, IsGap}

-- the order of names is total, and names that compare alike are one
pub names_total : IsTotalOrder name_cmp
names_total = then_total (on_total (λ (n : TrainName). n.trip) nat_list_cmp_total) (on_total (λ (n : TrainName). n.day) nat_cmp_total)

then-Equal : (a b : Ordering) → ordering_then a b ≡ Equal → (a ≡ Equal) × (b ≡ Equal)
then-Equal Less b h = absurd (cc)
then-Equal Equal b h = (refl, h)
then-Equal Greater b h = absurd (cc)

pub exact_names : (a b : TrainName) → name_cmp a b ≡ Equal → a ≡ b
exact_names a b h =
    let parts = then-Equal (slice_cmp nat_cmp a.trip b.trip) _ h in
    grind (arith, exact_bytes a.trip b.trip parts.0, exact_unsigned a.day b.day parts.1)

-- two names tie where trip and day are the same
name-ties : (a b : TrainName) → eq_by_cmp name_cmp b a ≡ (bytes_eq a.trip b.trip && nat_eq a.day b.day)
name-ties a b =
    (eq_by_cmp_equiv names_total).symm b a ∙ grind (arith, common_steps, is_eq-slice_cmp a.trip b.trip, unsigned_tied a.day b.day)

-- the number of a name in names with a new one at their end
number-more : (names : List TrainName) (k q : TrainName) → number_of_train names k.trip k.day ≡ None
    → number_of_train (names ++ k ∷ []) q.trip q.day ≡ cond (eq_by_cmp name_cmp q k) (Some (length names)) (number_of_train names q.trip q.day)
number-more names k q new =
    let end = number_from-end (λ (t : TrainName). bytes_eq t.trip q.trip && nat_eq t.day q.day) 0 names k in
    elim (cases_Bool (eq_by_cmp name_cmp q k)) [
      | inl same ↦
          let one : q ≡ k = exact_names q k (is_eq-Equal (name_cmp q k) same) in
          grind (arith, common_steps, end, name-ties k q)
      | inr other ↦ grind (arith, common_steps, end, name-ties k q)
    ]
  where
    is_eq-Equal : (o : Ordering) → is_eq o ≡ true → o ≡ Equal
    is_eq-Equal Less h = absurd (cc)
    is_eq-Equal Equal h = refl
    is_eq-Equal Greater h = absurd (cc)

-- ---- numbers in order

map-insert : {X Y : Type 0} (f : X → Y) (xs : List X) (i : ℕ) (x : X) → map f (insert xs i x) ≡ insert (map f xs) i (f x)
map-insert f [] zero x = refl
map-insert f [] (suc i) x = refl
map-insert f (y ∷ ys) zero x = refl
map-insert f (y ∷ ys) (suc i) x = rw (map-insert f ys i x) refl

entries-kept : (names : List TrainName) (k : TrainName) (order : List ℕ) → All (λ n. n < length names) order → map (entry_of (names ++ k ∷ [])) order ≡ map (entry_of names) order
entries-kept names k [] h = refl
entries-kept names k (n ∷ order) h = grind (arith, elements, entries-kept names k order (λ i d l. h (suc i) d (omega arith)), h 0 n (omega arith))

entries-more : (names : List TrainName) (k : TrainName) (order : List ℕ) (i : ℕ) → All (λ n. n < length names) order
    → map (entry_of (names ++ k ∷ [])) (insert order i (length names)) ≡ insert (map (entry_of names) order) i (k, length names)
entries-more names k order i h = rw (map-insert (entry_of (names ++ k ∷ [])) order i (length names), entries-kept names k order h) (grind (arith, common_steps))

-- what a search among numbers finds, it finds among the entries
search-map : {X Y : Type 0} (f : X → Y) (ord : Y → Ordering) (d : X) (xs : List X) (r : Result ℕ ℕ) → IsSearchInRange r (length xs) → IsBinarySearchResult (λ x. ord (f x)) xs r → IsBinarySearchResult ord (map f xs) r
search-map f ord d xs (Ok i) l h = λ e. rw (get_or-map f xs i d e l) (h d)
search-map f ord d xs (Err i) l h = λ rises.
    let long = length-map xs f in
    let parts = h (λ a b e le lt. rw (← get_or-map f xs a e (f e) (omega arith), ← get_or-map f xs b e (f e) lt) (rises a b (f e) le (omega arith))) in
    ((λ j e m n. rw (get_or-map f xs j d e (omega arith)) (parts.0 j d m n)), (λ j e m n. rw (get_or-map f xs j d e (omega arith)) (parts.1 j d m (omega arith))))

-- a new name at the end, and its number in its place
pub added : (names : List TrainName) (order : List ℕ) (k : TrainName) (i : ℕ) → AreFound names (map (entry_of names) order) → All (λ n. n < length names) order → number_of_train names k.trip k.day ≡ None → i ≤ length order
    → IsGap names order k i → AreFound (names ++ k ∷ []) (map (entry_of (names ++ k ∷ [])) (insert order i (length names)))
added names order k i h within new l gap =
    let es = map (entry_of names) order in
    let put_is = (at-gap names_total es es k i refl h.sorted (rw length-map l) gap).put_is (length names) in
    subst (AreFound (names ++ k ∷ [])) (sym (entries-more names k order i within)) (record {
      sorted = rw (← put_is) (truth _ (is_sorted-put name_cmp names_total k (length names) es (passes _ h.sorted)));
      found = λ q. ap (λ m. get m q) (ap from_sorted (sym put_is) ∙ put-is names_total exact_names es h.sorted k (length names)) ∙ get-insert names_total (from_sorted es) k (length names) q
          ∙ ap (cond (eq_by_cmp name_cmp q k) (Some (length names))) (h.found q) ∙ sym (number-more names k q new);
    })

-- what a binary search among the numbers answers
pub searched-numbers : (names : List TrainName) (order : List ℕ) (name : TrainName) (r : Result ℕ ℕ) → is_sorted name_cmp (map (entry_of names) order) ≡ true → IsSearchInRange r (length order) → IsBinarySearchResult (λ n. name_cmp (name_at names n) name) order r
    → record { within : IsSearchInRange r (length order); found : IfOk r (IsEntry names order name); absent : IfErr r (IsGap names order name) }
searched-numbers names order name r s l h =
    let by_name = search-map (entry_of names) (λ e. name_cmp e.0 name) 0 order r l h in
    let all = searched names_total (map (entry_of names) order) name r s (rw length-map l) by_name in
    record { within = l; found = all.found; absent = all.absent }

read : {X : Type 0} (f : TrainName → X) (names : List TrainName) (n : ℕ) → option_map_or f (slice_get names n) (f (name_of [] 0)) ≡ f (name_at names n)
read f [] n = refl
read f (t ∷ names) zero = refl
read f (t ∷ names) (suc n) = read f names n

-- what is read of the names of extra trains, which are numbered on from the loaded ones
pub read_after : {X : Type 0} (f : TrainName → X) (loaded extras : List TrainName) (n : ℕ) → (n < length loaded → ⊥) → option_map_or f (slice_get (loaded ++ extras) n) (f (name_of [] 0)) ≡ f (name_at extras (n - length loaded))
read_after f [] extras n h = let same : n - 0 ≡ n = omega arith in rw same (read f extras n)
read_after f (t ∷ loaded) extras zero h = absurd (h (omega arith))
read_after f (t ∷ loaded) extras (suc n) h =
    let less : suc n - suc (length loaded) ≡ n - length loaded = omega arith in
    rw less (read_after f loaded extras n (λ l. h (omega arith)))

-- ---- what a place tells of a name

-- no names are found by no numbers
pub found-none : AreFound [] []
found-none = record { sorted = refl; found = λ q. get-from_sorted name_cmp [] q tt }

module _ (names : List TrainName) (order : List ℕ) (name : TrainName) (i : ℕ) (h : AreFound names (map (entry_of names) order)) where
  pub number-there : (n : ℕ) → i < length order → IsEntry names order name i → n ≡ get_or order i n → number_of_train names name.trip name.day ≡ Some n
  number-there n l at is =
      let es = map (entry_of names) order in
      let there = at-found names_total es es name i refl h.sorted (rw length-map l) at in
      let entry : entry_of names n ≡ get_or es i (entry_of names n) = sym (get_or-map (entry_of names) order i n (entry_of names n) l ∙ ap (entry_of names) (sym is)) in
      sym (h.found name) ∙ get-from_sorted name_cmp es name (passes _ h.sorted) ∙ there.find_is (entry_of names n) ∙ ap (λ (e : TrainName × ℕ). Some e.1) (sym entry)

  pub number-not-missing : i < length order → IsEntry names order name i → number_of_train names name.trip name.day ≡ None → ⊥
  number-not-missing l at none =
      let n = get_or order i 0 in
      let is : n ≡ get_or order i n = grind (arith, elements) in
      let both : Some n ≡ None = sym (number-there n l at is) ∙ none in
      absurd (cc)

  pub number-missing : i ≤ length order → IsGap names order name i → number_of_train names name.trip name.day ≡ None
  number-missing l gap =
      let es = map (entry_of names) order in
      sym (h.found name) ∙ get-from_sorted name_cmp es name (passes _ h.sorted) ∙ (at-gap names_total es es name i refl h.sorted (rw length-map l) gap).find_is

-- the numbers with the next one among them are numbers of one name more
below-more : (n : ℕ) (order : List ℕ) (i : ℕ) → All (λ k. k < n) order → All (λ k. k < n + 1) (insert order i n)
below-more n [] zero h = grind (arith, elements)
below-more n [] (suc i) h = grind (arith, elements)
below-more n (m ∷ order) zero h = grind (arith, elements, h)
below-more n (m ∷ order) (suc i) h = grind (arith, elements, h 0 m (omega arith), below-more n order i (λ k d l. h (suc k) d (omega arith)))

pub within-more : (names : List TrainName) (k : TrainName) (order : List ℕ) (i : ℕ) → All (λ n. n < length names) order → All (λ n. n < length (names ++ k ∷ [])) (insert order i (length names))
within-more names k order i h = let more : length (names ++ k ∷ []) ≡ length names + 1 = length-append names (k ∷ []) in rw more (below-more (length names) order i h)
