-- Names in the order of their hashes.
use Rattle.std.proofs.Common.{Bool, List, None, Some, Ordering, [], ap, arith, false, get_or, length, ltb, nat_eq, refl, sym, true, ℕ, ◌&&◌, ◌+◌, ◌<◌, ◌∙◌, ◌≡◌, ◌≤◌}
use Rattle.std.proofs.lemmas.Bool.{eq-eqb}
use Rattle.std.proofs.lemmas.Bool.Decides.{nat_tests}
use Rattle.std.proofs.lemmas.Cmp.{nat_cmp_total, nat_list_cmp_total, on_total, then_total, tied_itself}
use Rattle.std.proofs.lemmas.List.Sorted.{ranks_by, searchable_from_sorted, sorted_far}
use Rattle.std.proofs.lemmas.Map.Text.{is_eq-slice_cmp}
use Rattle.std.proofs.lemmas.Slice.Eq.{bytes_eq-Decides}
use Rattle.std.specs.Cmp.{IsStrictWeakOrder, IsTotalOrder, unsigned_tied}
use Rattle.std.specs.Cmp.Lexicographic.{slice_cmp}
use Rattle.std.specs.List.Sorted.{IsNonDecreasingBy, IsPartitionPoint, IsPartitionedBy, IsPermutation, IsSorted, IsSortedBy}
use Rattle.std.specs.Ordering.{is_eq, is_lt, nat_cmp, ordering_index, ordering_then}
use Rattle.std.specs.Prelude.{bytes_eq}
use Rattle.std.specs.declared.cmp.Ordering.TheVariants.{Less, Equal, Greater}
use Rattle.schedule_build.specs.Buckets.{IsNear, entries_of, first_number, key_of}
use Rattle.schedule_build.specs.Hashed.{IsNumbered, entry_cmp, hash_cmp, name_hash, name_of_entry}
use Rattle.schedule_build.specs.Stored.{number_of_name}
use Rattle.schedule_build.specs.declared.buckets.Entry.{Entry}
use Rattle.schedule_build.specs.declared.name_numbers.NameNumbers.{NameNumbers}
use Rattle.schedule_build.proofs.EntryLemmas.{IsEntryOf, first-agree, moved-own, near-parted, numbered, sought-found, sought-missed}

-- ---- orders

then-lt : (a b : Ordering) → is_lt (ordering_then a b) ≡ false → is_lt a ≡ false
then-lt Less b h = h
then-lt Equal b h = refl
then-lt Greater b h = refl

pub lt-index : (o : Ordering) → is_lt o ≡ ltb (ordering_index o) 1
lt-index Less = refl
lt-index Equal = refl
lt-index Greater = refl

eq-index : (o : Ordering) → nat_eq (ordering_index o) 1 ≡ is_eq o
eq-index Less = refl
eq-index Equal = refl
eq-index Greater = refl

then-eq : (a b : Ordering) → is_eq (ordering_then a b) ≡ (is_eq a && is_eq b)
then-eq Less b = refl
then-eq Equal b = refl
then-eq Greater b = refl

nat-less : (a b : ℕ) → is_lt (nat_cmp a b) ≡ ltb a b
nat-less a b = grind (arith, nat_tests)

-- ---- the order of entries

-- what an entry is found by
abbrev place_of : List (List ℕ) → Entry → ℕ × List ℕ
place_of names e = (e.key, name_of_entry names e)

abbrev place_cmp : ℕ × List ℕ → ℕ × List ℕ → Ordering
place_cmp a b = ordering_then (nat_cmp a.0 b.0) (slice_cmp nat_cmp a.1 b.1)

place-total : IsTotalOrder place_cmp
place-total = then_total (on_total (λ (p : ℕ × List ℕ). p.0) nat_cmp_total) (on_total (λ (p : ℕ × List ℕ). p.1) nat_list_cmp_total)

pub entries-total : (names : List (List ℕ)) → IsTotalOrder (entry_cmp names)
entries-total names = then_total (on_total (place_of names) place-total) (on_total (λ (e : Entry). e.number) nat_cmp_total)

pub entries-weak : (names : List (List ℕ)) → IsStrictWeakOrder (λ a b. is_lt (entry_cmp names a b))
entries-weak names = ranks_by (entries-total names) (λ (e : Entry). e)

-- the number by which a name is sought: 0 before it, 1 there and 2 behind it
abbrev pub rank : List (List ℕ) → ℕ → List ℕ → Entry → ℕ
rank names hash name e = ordering_index (hash_cmp names hash name e)

module _ (names : List (List ℕ)) (es : List Entry) (sorted : IsSorted (entry_cmp names) es) where
  by-place : IsSortedBy (λ a b. is_lt (place_cmp (place_of names a) (place_of names b))) es
  by-place k d low high = then-lt (place_cmp (place_of names (get_or es (k + 1) d)) (place_of names (get_or es k d))) _ (sorted k d low high)

  pub rank-rises : (hash : ℕ) (name : List ℕ) → IsNonDecreasingBy (rank names hash name) es
  rank-rises hash name = searchable_from_sorted place-total (place_of names) es (hash, name) by-place

  pub keys-rise : IsNonDecreasingBy key_of es
  keys-rise i j d le l =
      let far = then-lt (nat_cmp (get_or es j d).key (get_or es i d).key) _ (then-lt (place_cmp (place_of names (get_or es j d)) (place_of names (get_or es i d))) _ (sorted_far (λ a b. is_lt (entry_cmp names a b)) (entries-weak names) es sorted i j d le l)) in
      grind (arith, nat_tests, nat-less (get_or es j d).key (get_or es i d).key)

rank-before : (names : List (List ℕ)) (hash : ℕ) (name : List ℕ) (e : Entry) → e.key < hash → rank names hash name e ≡ 0
rank-before names hash name e l = let less : nat_cmp e.key hash ≡ Less = grind (arith, nat_tests) in rw less refl

rank-behind : (names : List (List ℕ)) (hash : ℕ) (name : List ℕ) (e : Entry) → hash < e.key → 1 < rank names hash name e
rank-behind names hash name e l = let more : nat_cmp e.key hash ≡ Greater = grind (arith, nat_tests) in rw more (omega arith)

-- where the rank is 1 stands the name
pub rank-named : (names : List (List ℕ)) (hash : ℕ) (name : List ℕ) (e : Entry) → nat_eq (rank names hash name e) 1 ≡ (nat_eq e.key hash && bytes_eq (name_of_entry names e) name)
rank-named names hash name e =
    eq-index (hash_cmp names hash name e) ∙ then-eq (nat_cmp e.key hash) _ ∙ rw (unsigned_tied e.key hash, is_eq-slice_cmp (name_of_entry names e) name) refl

-- an entry with a name has its hash
hash-follows : (a b : Bool) → (b ≡ true → a ≡ true) → (a && b) ≡ b
hash-follows true b h = refl
hash-follows false true h = absurd (let e = h refl in cc)
hash-follows false false h = refl

named-alone : (names : List (List ℕ)) (name : List ℕ) (e : Entry) → e.key ≡ name_hash (name_of_entry names e) → nat_eq (rank names (name_hash name) name e) 1 ≡ bytes_eq (name_of_entry names e) name
named-alone names name e hashed =
    rank-named names (name_hash name) name e ∙ hash-follows _ _ (λ same. (let is = (bytes_eq-Decides (name_of_entry names e) name).0 same in eq-eqb e.key (name_hash name) (hashed ∙ ap name_hash is)))

-- ---- a name that is sought

module _ (names : List (List ℕ)) (numbers : NameNumbers) (h : IsNumbered names numbers) (name : List ℕ) (hash : ℕ) (same : hash ≡ name_hash name) (near : List Entry) (n : IsNear hash numbers.buckets near) where
  abbrev pub early : Entry → Bool
  early e = is_lt (hash_cmp names hash name e)

  early-is : (e : Entry) → early e ≡ ltb (rank names hash name e) 1
  early-is e = lt-index (hash_cmp names hash name e)

  pub names-parted : IsPartitionedBy early near
  names-parted = near-parted (rank names hash name) hash numbers.buckets near n (rank-rises names numbers.buckets h.sorted hash name) (rank-before names hash name) (rank-behind names hash name) early early-is

  number-is : first_number (λ e. nat_eq (rank names hash name e) 1) numbers.buckets ≡ number_of_name names name
  number-is = first-agree _ _ numbers.buckets (λ i d l. rw same (named-alone names name (get_or numbers.buckets i d) (h.hashed i d l))) ∙ h.found name

  pub name-found : (place : ℕ) (d : Entry) → place < length near → IsPartitionPoint (λ e. early e ≡ true) (λ e. early e ≡ false) near place → (nat_eq (get_or near place d).key hash && bytes_eq (name_of_entry names (get_or near place d)) name) ≡ true → Some (get_or near place d).number ≡ number_of_name names name
  name-found place d l point named =
      sym (sought-found (rank names hash name) hash numbers.buckets near n (rank-rises names numbers.buckets h.sorted hash name) (rank-before names hash name) (rank-behind names hash name) early early-is place d l point (rank-named names hash name (get_or near place d) ∙ named)) ∙ number-is

  pub name-missed : (place : ℕ) → place ≤ length near → IsPartitionPoint (λ e. early e ≡ true) (λ e. early e ≡ false) near place → ((d : Entry) → place < length near → (nat_eq (get_or near place d).key hash && bytes_eq (name_of_entry names (get_or near place d)) name) ≡ false) → None ≡ number_of_name names name
  name-missed place bound point away =
      sym (sought-missed (rank names hash name) hash numbers.buckets near n (rank-rises names numbers.buckets h.sorted hash name) (rank-before names hash name) (rank-behind names hash name) early early-is place bound point (λ d l. rank-named names hash name (get_or near place d) ∙ away d l)) ∙ number-is

-- ---- the entries of names, once they are sorted

-- entries of equal names stand by their numbers
ties : (names : List (List ℕ)) (name : List ℕ) (a b : Entry) → IsEntryOf name_hash names [] a → IsEntryOf name_hash names [] b → bytes_eq (name_of_entry names a) name ≡ true → bytes_eq (name_of_entry names b) name ≡ true → is_lt (entry_cmp names a b) ≡ ltb a.number b.number
ties names name a b own other one two =
    let first = (bytes_eq-Decides (name_of_entry names a) name).0 one in
    let second = (bytes_eq-Decides (name_of_entry names b) name).0 two in
    let a-key : a.key ≡ name_hash name = ap (λ (e : Entry). e.key) own.is ∙ ap name_hash first in
    let b-key : b.key ≡ name_hash name = ap (λ (e : Entry). e.key) other.is ∙ ap name_hash second in
    let keys : nat_cmp a.key b.key ≡ Equal = rw (a-key, b-key) (tied_itself nat_cmp_total (name_hash name)) in
    let texts : slice_cmp nat_cmp (name_of_entry names a) (name_of_entry names b) ≡ Equal = rw (first, second) (tied_itself nat_list_cmp_total name) in
    rw (keys, texts) (nat-less a.number b.number)

pub numbered-names : (names : List (List ℕ)) (numbers : NameNumbers) → IsPermutation (entries_of name_hash 0 names) numbers.buckets → IsSorted (entry_cmp names) numbers.buckets → IsNumbered names numbers
numbered-names names numbers moved sorted =
    record {
      sorted = sorted;
      hashed = λ i d l. ap (λ (e : Entry). e.key) (moved-own name_hash names [] numbers.buckets moved i d l).is;
      found = λ name. numbered name_hash names [] numbers.buckets moved (λ a b. is_lt (entry_cmp names a b)) (λ n. bytes_eq n name) (λ e. bytes_eq (name_of_entry names e) name)
          (λ i j d le l. sorted_far (λ a b. is_lt (entry_cmp names a b)) (entries-weak names) numbers.buckets sorted i j d le l) (λ k l. refl) (ties names name);
    }
