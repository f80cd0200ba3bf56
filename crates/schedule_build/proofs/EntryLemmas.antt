-- The first entries for which a test holds, and the numbers that they have.
use Rattle.std.proofs.Common.{All, Bool, ap, List, None, Option, Some, [], append_assoc, arith, drop, false, get_or, inl, inr, length, length-append, ltb, nat_eq, refl, suc, sym, take, true, zero, ℕ, ◌++◌, ◌+◌, ◌-◌, ◌<◌, ◌∙◌, ◌∷◌, ◌≡◌, ◌≤◌}
use Rattle.std.proofs.Common.{Contains}
use Rattle.std.proofs.lemmas.Bool.{cases_Bool, cases_lt}
use Rattle.std.proofs.lemmas.Bool.Decides.{nat_tests}
use Rattle.std.proofs.lemmas.List.{drop_more, get_or-append-add, get_or-drop, get_or-take, get_or_append_left, length-drop, length-take-le, take-append-drop}
use Rattle.std.proofs.lemmas.List.Sorted.{All-permutation, Contains-permutation}
use Rattle.std.specs.List.Sorted.{IsNonDecreasingBy, IsPartitionPoint, IsPartitionedBy, IsPermutation}
use Rattle.schedule_build.specs.Buckets.{IsNear, entries_of, first_number, has_key, key_of}
use Rattle.std.specs.Ordering.{nat_cmp, ordering_index}
use Rattle.schedule_build.specs.Directory.{number_from}
use Rattle.schedule_build.specs.declared.buckets.Entry.{Entry}

-- ---- the first entry for which a test holds

pub first-skip : (test : Entry → Bool) (xs ys : List Entry) → All (λ e. test e ≡ false) xs → first_number test (xs ++ ys) ≡ first_number test ys
first-skip test [] ys h = refl
first-skip test (x ∷ xs) ys h = rw (h 0 x (omega arith)) (first-skip test xs ys (λ k d l. h (suc k) d (omega arith)))

pub first-none : (test : Entry → Bool) (xs : List Entry) → All (λ e. test e ≡ false) xs → first_number test xs ≡ None
first-none test [] h = refl
first-none test (x ∷ xs) h = rw (h 0 x (omega arith)) (first-none test xs (λ k d l. h (suc k) d (omega arith)))

-- two tests that agree at each entry
pub first-agree : (test other : Entry → Bool) (xs : List Entry) → All (λ e. test e ≡ other e) xs → first_number test xs ≡ first_number other xs
first-agree test other [] h = refl
first-agree test other (x ∷ xs) h = rw (h 0 x (omega arith), first-agree test other xs (λ k d l. h (suc k) d (omega arith))) refl

-- where an entry passes, the first that passes is there or before
pub record IsFirst (test : Entry → Bool) (xs : List Entry) (i : ℕ) (d : Entry) : Type 0 where
  pub at : ℕ
  pub below : at ≤ i
  pub passes : test (get_or xs at d) ≡ true
  pub is : first_number test xs ≡ Some (get_or xs at d).number

pub first-there : (test : Entry → Bool) (xs : List Entry) (i : ℕ) (d : Entry) → i < length xs → test (get_or xs i d) ≡ true → IsFirst test xs i d
first-there test [] i d l h = absurd (omega arith)
first-there test (x ∷ xs) zero d l h = record { at = 0; below = omega arith; passes = h; is = rw h refl }
first-there test (x ∷ xs) (suc i) d l h =
    elim (cases_Bool (test x)) [
      | inl here ↦ record { at = 0; below = omega arith; passes = here; is = rw here refl }
      | inr other ↦
          (let rest = first-there test xs i d (omega arith) h in
          record { at = suc rest.at; below = omega (arith, rest.below); passes = rest.passes; is = rw other rest.is })
    ]

-- ---- a search among the entries near a key, by a number that does not fall: 0 before what is looked
-- for, 1 there, and 2 behind

module _ (rank : Entry → ℕ) (key : ℕ) (es near : List Entry) (h : IsNear key es near) (rise : IsNonDecreasingBy rank es) (below : (e : Entry) → e.key < key → rank e ≡ 0) (above : (e : Entry) → key < e.key → 1 < rank e) (early : Entry → Bool) (early-is : (e : Entry) → early e ≡ ltb (rank e) 1) where
  abbrev sought : Entry → Bool
  sought e = nat_eq (rank e) 1

  near-at : (i : ℕ) (d : Entry) → i < length near → get_or es (length h.before + i) d ≡ get_or near i d
  near-at i d l = rw h.whole (get_or-append-add h.before (near ++ h.after) i d ∙ get_or_append_left near h.after d i l)

  length-whole : length es ≡ length h.before + (length near + length h.after)
  length-whole = rw (h.whole) (omega (arith, length-append h.before (near ++ h.after), length-append near h.after))

  pub near-rises : IsNonDecreasingBy rank near
  near-rises i j d le l =
      rw (← near-at i d (omega arith), ← near-at j d l) (rise (length h.before + i) (length h.before + j) d (omega arith) (omega (arith, length-whole)))

  pub near-parted : IsPartitionedBy early near
  near-parted i j d le l h =
      let rises = near-rises i j d le l in
      grind (arith, nat_tests, early-is (get_or near i d), early-is (get_or near j d))

  skipped : (place : ℕ) → place ≤ length near → IsPartitionPoint (λ e. early e ≡ true) (λ e. early e ≡ false) near place → first_number sought es ≡ first_number sought (drop place near ++ h.after)
  skipped place bound point =
      let first = first-skip sought h.before (near ++ h.after) (λ k d l. grind (arith, nat_tests, below (get_or h.before k d) (h.less k d l))) in
      let second = first-skip sought (take place near) (drop place near ++ h.after) (λ k d l.
      (let i-below : k < place = omega (arith, l, length-take-le place near bound) in
      rw (get_or-take place near k d i-below) (grind (arith, nat_tests, point.0 k d (omega arith) i-below, early-is (get_or near k d))))) in
      let parts : near ++ h.after ≡ take place near ++ (drop place near ++ h.after) = ap (λ n. n ++ h.after) (sym (take-append-drop place near)) ∙ append_assoc (take place near) (drop place near) h.after in
      ap (first_number sought) h.whole ∙ first ∙ ap (first_number sought) parts ∙ second

  pub sought-found : (place : ℕ) (d : Entry) → place < length near → IsPartitionPoint (λ e. early e ≡ true) (λ e. early e ≡ false) near place → sought (get_or near place d) ≡ true → first_number sought es ≡ Some (get_or near place d).number
  sought-found place d l point here =
      skipped place (omega arith) point ∙ rw (drop_more near place d l, here) refl

  pub sought-missed : (place : ℕ) → place ≤ length near → IsPartitionPoint (λ e. early e ≡ true) (λ e. early e ≡ false) near place → ((d : Entry) → place < length near → sought (get_or near place d) ≡ false) → first_number sought es ≡ None
  sought-missed place bound point away =
      skipped place bound point ∙ first-skip sought (drop place near) h.after (λ k d l.
      (let within : place + k < length near = omega (arith, l, length-drop place near) in
      let same : place + 0 ≡ place = omega arith in
      let rise-near = near-rises place (place + k) d (omega arith) within in
      let high = point.1 place d (omega arith) (omega arith) in
      rw (get_or-drop place near k d) (grind (arith, nat_tests, away d (omega arith), early-is (get_or near place d))))) ∙ first-none sought h.after (λ k d l. grind (arith, nat_tests, above (get_or h.after k d) (h.more k d l)))

-- ---- a key that is sought

abbrev key-rank : ℕ → Entry → ℕ
key-rank key e = ordering_index (nat_cmp e.key key)

rank-le : (a b k : ℕ) → a ≤ b → ordering_index (nat_cmp a k) ≤ ordering_index (nat_cmp b k)
rank-le a b k h = grind (arith, nat_tests)

rank-is : (a k : ℕ) → nat_eq (ordering_index (nat_cmp a k)) 1 ≡ nat_eq a k
rank-is a k = grind (arith, nat_tests)

module _ (key : ℕ) (es near : List Entry) (up : IsNonDecreasingBy key_of es) (h : IsNear key es near) where
  key-rises : IsNonDecreasingBy (key-rank key) es
  key-rises i j d le l = rank-le (get_or es i d).key (get_or es j d).key key (up i j d le l)

  key-before : (e : Entry) → e.key < key → key-rank key e ≡ 0
  key-before e l = grind (arith, nat_tests)

  key-behind : (e : Entry) → key < e.key → 1 < key-rank key e
  key-behind e l = grind (arith, nat_tests)

  key-early : (e : Entry) → ltb e.key key ≡ ltb (key-rank key e) 1
  key-early e = grind (arith, nat_tests)

  key-is : first_number (λ e. nat_eq (key-rank key e) 1) es ≡ first_number (has_key key) es
  key-is = first-agree _ _ es (λ i d l. rank-is (get_or es i d).key key)

  pub keys-parted : IsPartitionedBy (λ e. ltb e.key key) near
  keys-parted = near-parted (key-rank key) key es near h key-rises key-before key-behind (λ e. ltb e.key key) key-early

  pub key-found : (place : ℕ) (d : Entry) → place < length near → IsPartitionPoint (λ e. ltb e.key key ≡ true) (λ e. ltb e.key key ≡ false) near place → has_key key (get_or near place d) ≡ true → Some (get_or near place d).number ≡ first_number (has_key key) es
  key-found place d l point here =
      sym (sought-found (key-rank key) key es near h key-rises key-before key-behind (λ e. ltb e.key key) key-early place d l point (rank-is (get_or near place d).key key ∙ here)) ∙ key-is

  pub key-missed : (place : ℕ) → place ≤ length near → IsPartitionPoint (λ e. ltb e.key key ≡ true) (λ e. ltb e.key key ≡ false) near place → ((d : Entry) → place < length near → has_key key (get_or near place d) ≡ false) → None ≡ first_number (has_key key) es
  key-missed place bound point away =
      sym (sought-missed (key-rank key) key es near h key-rises key-before key-behind (λ e. ltb e.key key) key-early place bound point (λ d l. rank-is (get_or near place d).key key ∙ away d l)) ∙ key-is

-- ---- entries in their order, and the numbers that they stand for

pub length-entries : {X : Type 0} (key : X → ℕ) (at : ℕ) (xs : List X) → length (entries_of key at xs) ≡ length xs
length-entries key at [] = refl
length-entries key at (x ∷ xs) = ap suc (length-entries key (at + 1) xs)

pub entry-at : {X : Type 0} (key : X → ℕ) (at : ℕ) (xs : List X) (i : ℕ) (e : X) (d : Entry) → i < length xs → get_or (entries_of key at xs) i d ≡ record { key = key (get_or xs i e); number = at + i }
entry-at key at [] i e d l = absurd (omega arith)
entry-at key at (x ∷ xs) zero e d l = let same : at + 0 ≡ at = omega arith in rw same refl
entry-at key at (x ∷ xs) (suc i) e d l = let same : at + suc i ≡ at + 1 + i = omega arith in rw same (entry-at key (at + 1) xs i e d (omega arith))

pub entries-end : {X : Type 0} (key : X → ℕ) (at : ℕ) (xs : List X) (y : X) → entries_of key at (xs ++ y ∷ []) ≡ entries_of key at xs ++ record { key = key y; number = at + length xs } ∷ []
entries-end key at [] y = let same : at + 0 ≡ at = omega arith in rw same refl
entries-end key at (x ∷ xs) y = let same : at + suc (length xs) ≡ at + 1 + length xs = omega arith in rw same (ap (λ r. record { key = key x; number = at } ∷ r) (entries-end key (at + 1) xs y))

-- a number that was found: the test holds there, and nowhere before
pub record IsFirstNumber {X : Type 0} (test : X → Bool) (at : ℕ) (xs : List X) (n : ℕ) : Type 0 where
  pub after : at ≤ n
  pub before : n < at + length xs
  pub holds : (d : X) → test (get_or xs (n - at) d) ≡ true
  pub none : (k : ℕ) (d : X) → k < n - at → test (get_or xs k d) ≡ false

pub first-number : {X : Type 0} (test : X → Bool) (at : ℕ) (xs : List X) (n : ℕ) → number_from at test xs ≡ Some n → IsFirstNumber test at xs n
first-number test at [] n h = absurd (cc)
first-number test at (x ∷ xs) n h = elim (cases_Bool (test x)) [
  | inl here ↦ (let same : n ≡ at = grind arith in record { after = omega arith; before = omega arith; holds = λ d. (let z : n - at ≡ 0 = omega arith in rw z here); none = λ k d l. absurd (omega (arith, l)) })
  | inr other ↦
      let rest = first-number test (at + 1) xs n (rw other at h) in
      let step : n - at ≡ suc (n - (at + 1)) = omega (arith, rest.after) in
      record {
        after = omega (arith, rest.after);
        before = omega (arith, rest.before);
        holds = λ d. rw step (rest.holds d);
        none = λ k d l. none-step test x xs (n - (at + 1)) other (λ j e m. rest.none j e m) k d (rw step at l);
      }
]
  where
    none-step : {X : Type 0} (test : X → Bool) (x : X) (xs : List X) (m : ℕ) → test x ≡ false → ((j : ℕ) (e : X) → j < m → test (get_or xs j e) ≡ false) → (k : ℕ) (d : X) → k < suc m → test (get_or (x ∷ xs) k d) ≡ false
    none-step test x xs m other h zero d l = other
    none-step test x xs m other h (suc k) d l = h k d (omega arith)

pub no-number : {X : Type 0} (test : X → Bool) (at : ℕ) (xs : List X) → number_from at test xs ≡ None → All (λ x. test x ≡ false) xs
no-number test at [] h k d l = absurd (omega arith)
no-number test at (x ∷ xs) h zero d l = elim (cases_Bool (test x)) [
  | inl here ↦ absurd (let e = rw here at h in cc)
  | inr other ↦ other
]
no-number test at (x ∷ xs) h (suc k) d l = elim (cases_Bool (test x)) [
  | inl here ↦ absurd (let e = rw here at h in cc)
  | inr other ↦ no-number test (at + 1) xs (rw other at h) k d (omega arith)
]

-- an entry has the number of one of these, and its key
pub record IsEntryOf {X : Type 0} (key : X → ℕ) (xs : List X) (x : X) (e : Entry) : Type 0 where
  pub below : e.number < length xs
  pub is : e ≡ record { key = key (get_or xs e.number x); number = e.number }

true-false : true ≡ false → ⊥
true-false h = cc

module _ {X : Type 0} (key : X → ℕ) (xs : List X) (x : X) where
  own-entry : (i : ℕ) (d : Entry) → i < length xs → get_or (entries_of key 0 xs) i d ≡ record { key = key (get_or xs i x); number = i }
  own-entry i d l = let same : 0 + i ≡ i = omega arith in entry-at key 0 xs i x d l ∙ rw same refl

  pub entries-own : All (IsEntryOf key xs x) (entries_of key 0 xs)
  entries-own i d l =
      let within : i < length xs = omega (arith, l, length-entries key 0 xs) in
      rw (own-entry i d within) (record { below = within; is = refl })

  module _ (es : List Entry) (moved : IsPermutation (entries_of key 0 xs) es) where
    pub moved-own : All (IsEntryOf key xs x) es
    moved-own = All-permutation (IsEntryOf key xs x) (entries_of key 0 xs) es moved entries-own

    module _ (lt : Entry → Entry → Bool) (test : X → Bool) (t : Entry → Bool) (sorted : (i j : ℕ) (d : Entry) → i ≤ j → j < length es → lt (get_or es j d) (get_or es i d) ≡ false) (agree : (k : ℕ) → k < length xs → t (record { key = key (get_or xs k x); number = k }) ≡ test (get_or xs k x)) (ties : (a b : Entry) → IsEntryOf key xs x a → IsEntryOf key xs x b → t a ≡ true → t b ≡ true → lt a b ≡ ltb a.number b.number) where
      own-agrees : (e : Entry) → IsEntryOf key xs x e → t e ≡ test (get_or xs e.number x)
      own-agrees e own = ap t own.is ∙ agree e.number own.below

      by-number : (r : Option ℕ) → number_from 0 test xs ≡ r → first_number t es ≡ r
      by-number None none = first-none t es (λ i d l. (let own = moved-own i d l in own-agrees (get_or es i d) own ∙ no-number test 0 xs none (get_or es i d).number x own.below))
      by-number (Some k) some =
          let first = first-number test 0 xs k some in
          let within : k < length xs = omega (arith, first.before) in
          let whole : k - 0 ≡ k = omega arith in
          let e : Entry = record { key = key (get_or xs k x); number = k } in
          let there : Contains es e = Contains-permutation (entries_of key 0 xs) es e moved (k, omega (arith, within, length-entries key 0 xs), own-entry k e within) in
          let holds : test (get_or xs k x) ≡ true = rw whole at (first.holds x) in
          let passes : t (get_or es there.0 e) ≡ true = rw there.2 (agree k within ∙ holds) in
          let here = first-there t es there.0 e there.1 passes in
          let one = get_or es here.at e in
          let own = moved-own here.at e (omega (arith, here.below, there.1)) in
          let order : lt e one ≡ false = rw there.2 at (sorted here.at there.0 e here.below there.1) in
          let numbers = ties e one (rw there.2 at (moved-own there.0 e there.1)) own (rw there.2 at passes) here.passes in
          let low : one.number ≤ k = grind (arith, nat_tests) in
          let passed : test (get_or xs one.number x) ≡ true = sym (own-agrees one own) ∙ here.passes in
          let same : one.number ≡ k = elim (cases_lt one.number k) [
            | inl less ↦ absurd (let none = first.none one.number x (omega (arith, less)) in true-false (sym passed ∙ none))
            | inr fine ↦ omega arith
          ] in
          here.is ∙ ap Some same

      pub numbered : first_number t es ≡ number_from 0 test xs
      numbered = by-number (number_from 0 test xs) refl
