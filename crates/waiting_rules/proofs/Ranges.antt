-- Lists of values by keys that rise, and parts of them.
use Rattle.waiting_rules.proofs.Words.{◌≡◌, ℕ, zero, suc, ◌+◌, ◌<◌, ◌≤◌, List, [], ◌∷◌, Bool, true, false, cond, length, get_or, take, drop, slice_get, refl, sym, ◌∙◌, ap, arith, Some, None, Ordering, inl, inr, is_at, lookup, Less, Equal, Greater, is_eq, cases_lt, eq_by_cmp, eq_by_cmp_equiv, IsEquivalence}
use Rattle.std.proofs.Common.{◌-◌, slice_range}
use Rattle.std.specs.Cmp.{IsTotalOrder}
use Rattle.std.specs.List.{AllByRecursion}
use Rattle.std.specs.List.Sorted.{IsStrictlySortedBy}
use Rattle.std.specs.Map.{keys_of}
use Rattle.std.proofs.lemmas.List.{get_or-drop, length-drop}
use Rattle.std.proofs.lemmas.Map.Entries.{lookup_from_place, length-keys_of}
use Rattle.std.proofs.lemmas.Map.Keys.{Less-from_sorted, IsDistinct-from_sorted}

key-at : {K V : Type 0} (es : List (K × V)) (i : ℕ) (d : K × V) → get_or (keys_of es) i d.0 ≡ (get_or es i d).0
key-at [] i d = refl
key-at (e ∷ es) zero d = refl
key-at (e ∷ es) (suc i) d = key-at es i d

-- of two places the key of the first is below
pub rises : {K V : Type 0} (cmp : K → K → Ordering) (es : List (K × V)) (i j : ℕ) (d : K × V) → IsStrictlySortedBy cmp (keys_of es) → i < j → j < length es → cmp (get_or es i d).0 (get_or es j d).0 ≡ Less
rises cmp es i j d s l m =
    let keys = length-keys_of es in
    let less = Less-from_sorted cmp (keys_of es) i j d.0 s l (omega arith) in
    rw (sym (key-at es i d), sym (key-at es j d)) less

all-take : {K V : Type 0} (P : K → Type 0) (n : ℕ) (es : List (K × V)) → AllByRecursion P (keys_of es) → AllByRecursion P (keys_of (take n es))
all-take P zero es h = tt
all-take P (suc n) [] h = tt
all-take P (suc n) (e ∷ es) h = (h.0, all-take P n es h.1)

sorted-take : {K V : Type 0} (cmp : K → K → Ordering) (n : ℕ) (es : List (K × V)) → IsStrictlySortedBy cmp (keys_of es) → IsStrictlySortedBy cmp (keys_of (take n es))
unfolding IsStrictlySortedBy
sorted-take cmp zero es s = tt
sorted-take cmp (suc n) [] s = tt
sorted-take cmp (suc n) (e ∷ es) s = (all-take (λ q. cmp e.0 q ≡ Less) n es s.0, sorted-take cmp n es s.1)

sorted-drop : {K V : Type 0} (cmp : K → K → Ordering) (n : ℕ) (es : List (K × V)) → IsStrictlySortedBy cmp (keys_of es) → IsStrictlySortedBy cmp (keys_of (drop n es))
unfolding IsStrictlySortedBy
sorted-drop cmp zero es s = s
sorted-drop cmp (suc n) [] s = s
sorted-drop cmp (suc n) (e ∷ es) s = sorted-drop cmp n es s.1

-- a part of a list in order is in order
pub sorted-range : {K V : Type 0} (cmp : K → K → Ordering) (es : List (K × V)) (a b : ℕ) → IsStrictlySortedBy cmp (keys_of es) → IsStrictlySortedBy cmp (keys_of (slice_range es a b))
sorted-range cmp es a b s = sorted-take cmp (b - a) (drop a es) (sorted-drop cmp a es s)

get-take : {X : Type 0} (n : ℕ) (xs : List X) (i : ℕ) (d : X) → i < n → get_or (take n xs) i d ≡ get_or xs i d
get-take zero xs i d l = absurd (omega arith)
get-take (suc n) [] i d l = refl
get-take (suc n) (x ∷ xs) zero d l = refl
get-take (suc n) (x ∷ xs) (suc i) d l = get-take n xs i d (omega arith)

take-short : {X : Type 0} (n : ℕ) (xs : List X) → length (take n xs) ≤ n
take-short zero xs = omega arith
take-short (suc n) [] = omega arith
take-short (suc n) (x ∷ xs) = omega (arith, take-short n xs)

take-shorter : {X : Type 0} (n : ℕ) (xs : List X) → length (take n xs) ≤ length xs
take-shorter zero xs = omega arith
take-shorter (suc n) [] = omega arith
take-shorter (suc n) (x ∷ xs) = omega (arith, take-shorter n xs)

-- an element of a part is one of the list
pub range-at : {X : Type 0} (xs : List X) (a b i : ℕ) (d : X) → i < length (slice_range xs a b) → get_or (slice_range xs a b) i d ≡ get_or xs (a + i) d
range-at xs a b i d l =
    let short = take-short (b - a) (drop a xs) in
    get-take (b - a) (drop a xs) i d (omega arith) ∙ get_or-drop a xs i d

pub range-within : {X : Type 0} (xs : List X) (a b i : ℕ) → i < length (slice_range xs a b) → (a + i < b) × (a + i < length xs)
range-within xs a b i l =
    let short = take-short (b - a) (drop a xs) in
    let shorter = take-shorter (b - a) (drop a xs) in
    let count = length-drop a xs in
    (omega arith, omega arith)

-- entries that no query finds may be left out
lookup-drop : {K V : Type 0} (test : K → Bool) (n : ℕ) (es : List (K × V)) → ((i : ℕ) (d : K × V) → i < n → i < length es → test (get_or es i d).0 ≡ false) → lookup test (drop n es) ≡ lookup test es
lookup-drop test zero es h = refl
lookup-drop test (suc n) [] h = refl
lookup-drop test (suc n) (e ∷ es) h =
    let first : test e.0 ≡ false = h 0 e (omega arith) (omega arith) in
    rw first (lookup-drop test n es (λ i d l m. h (suc i) d (omega arith) (omega arith)))

lookup-take : {K V : Type 0} (test : K → Bool) (n : ℕ) (es : List (K × V)) → ((i : ℕ) (d : K × V) → n ≤ i → i < length es → test (get_or es i d).0 ≡ false) → lookup test (take n es) ≡ lookup test es
lookup-take test zero [] h = refl
lookup-take test zero (e ∷ es) h =
    let first : test e.0 ≡ false = h 0 e (omega arith) (omega arith) in
    rw first (lookup-take test zero es (λ i d l m. h (suc i) d (omega arith) (omega arith)))
lookup-take test (suc n) [] h = refl
lookup-take test (suc n) (e ∷ es) h = ap (λ o. cond (test e.0) (Some e.1) o) (lookup-take test n es (λ i d l m. h (suc i) d (omega arith) (omega arith)))

pub lookup-range : {K V : Type 0} (test : K → Bool) (a b : ℕ) (es : List (K × V)) → a ≤ b → ((i : ℕ) (d : K × V) → i < a → i < length es → test (get_or es i d).0 ≡ false) → ((i : ℕ) (d : K × V) → b ≤ i → i < length es → test (get_or es i d).0 ≡ false) → lookup test (slice_range es a b) ≡ lookup test es
lookup-range test a b es l before after =
    lookup-take test (b - a) (drop a es) (λ i d m n.
    let count = length-drop a es in
    ap (λ e. test e.0) (get_or-drop a es i d) ∙ after (a + i) d (omega arith) (omega arith))
    ∙ lookup-drop test a es before

pub lookup-none : {K V : Type 0} (test : K → Bool) (es : List (K × V)) → ((i : ℕ) (d : K × V) → i < length es → test (get_or es i d).0 ≡ false) → None ≡ lookup test es
lookup-none test [] h = refl
lookup-none test (e ∷ es) h =
    let first : test e.0 ≡ false = h 0 e (omega arith) in
    rw first (lookup-none test es (λ i d l. h (suc i) d (omega arith)))

slice-at : {X : Type 0} (xs : List X) (i : ℕ) (d : X) → i < length xs → slice_get xs i ≡ Some (get_or xs i d)
slice-at [] i d l = absurd (omega arith)
slice-at (x ∷ xs) zero d l = refl
slice-at (x ∷ xs) (suc i) d l = slice-at xs i d (omega arith)

tied : (a : Ordering) → a ≡ Equal → is_eq a ≡ true
tied Less h = cc
tied Equal h = refl
tied Greater h = cc

less-apart : (a : Ordering) → a ≡ Less → is_eq a ≡ false
less-apart Less h = refl
less-apart Equal h = cc
less-apart Greater h = cc

greater-apart : (a : Ordering) → a ≡ Greater → is_eq a ≡ false
greater-apart Less h = cc
greater-apart Equal h = cc
greater-apart Greater h = refl

-- two keys that tie have one value
pub lookup-alike : {K V : Type 0} (cmp : K → K → Ordering) (laws : IsEquivalence (eq_by_cmp cmp)) (es : List (K × V)) (q k : K) → is_at (cmp q) k ≡ true → lookup (is_at (cmp q)) es ≡ lookup (is_at (cmp k)) es
lookup-alike cmp laws es q k h = ap (λ test. lookup test es) (λ i z. laws.congr q k z h i)

-- what a binary search finds is the value of the key
pub found : {K V : Type 0} {cmp : K → K → Ordering} (total : IsTotalOrder cmp) (es : List (K × V)) (q : K) (i : ℕ) (d : K × V) → IsStrictlySortedBy cmp (keys_of es) → i < length es → cmp (get_or es i d).0 q ≡ Equal → Some (get_or es i d).1 ≡ lookup (is_at (cmp q)) es
found {K} {V} {cmp} total es q i d s l h =
    let laws = eq_by_cmp_equiv total in
    let k = (get_or es i d).0 in
    sym (lookup-alike cmp laws es q k (laws.symm q k ∙ tied _ h) ∙ lookup_from_place laws es i k (get_or es i d).1 (IsDistinct-from_sorted cmp (keys_of es) s) (slice-at es i d l))

-- where it finds none, there is none
pub missed : {K V : Type 0} {cmp : K → K → Ordering} (total : IsTotalOrder cmp) (es : List (K × V)) (q : K) (n : ℕ) → ((i : ℕ) (d : K × V) → i < length es → i < n → cmp (get_or es i d).0 q ≡ Less) → ((i : ℕ) (d : K × V) → i < length es → n ≤ i → cmp (get_or es i d).0 q ≡ Greater) → None ≡ lookup (is_at (cmp q)) es
missed {K} {V} {cmp} total es q n before after =
    let laws = eq_by_cmp_equiv total in
    lookup-none (is_at (cmp q)) es (λ k d l. laws.symm q (get_or es k d).0 ∙ elim (cases_lt k n) [
      | inl there ↦ less-apart _ (before k d l there)
      | inr past ↦ greater-apart _ (after k d l past)
    ])
