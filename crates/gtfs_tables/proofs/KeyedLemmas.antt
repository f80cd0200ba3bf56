-- Entries in two parts, which are in order one after the other.
use Rattle.gtfs_tables.proofs.Words.{◌≡◌, ◌∙◌, ◌++◌, ◌∷◌, [], ◌-◌, List, None, Some, refl, false, ap, sym, subst, length, take, arith, append-nil, insert_entry, is_at, lookup, nat_cmp, CallTimes, Key, key_cmp}
use native.Mathlib.Numerals.{unary_clauses}
use Rattle.std.proofs.lemmas.Cmp.{then_total, on_total, nat_cmp_total}
use Rattle.std.specs.Cmp.{IsTotalOrder, Some-then}
use Rattle.std.specs.List.{AllByRecursion, slice_get}
use Rattle.std.specs.List.Sorted.{IsStrictlySortedBy}
use Rattle.std.specs.Map.{keys_of}
use Rattle.std.specs.Ordering.{is_ge, match_ordering, ordering_reverse, partial_ge, partial_ordering_then}
use Rattle.std.specs.declared.cmp.Ordering.{Ordering}
use Rattle.std.specs.declared.cmp.Ordering.TheVariants.{Less, Equal, Greater}
use Rattle.gtfs_tables.specs.StopTimes.{AreBelow}

abbrev pub Entries : Type 0
Entries = List (Key × CallTimes)

abbrev pub Rise : Entries → Type 0
Rise es = IsStrictlySortedBy key_cmp (keys_of es)

-- the order of keys is total
keys_total : IsTotalOrder key_cmp
keys_total = then_total (on_total (λ k. k.0) nat_cmp_total) (on_total (λ k. k.1) nat_cmp_total)

less-greater : (a b : Key) → key_cmp a b ≡ Less → key_cmp b a ≡ Greater
less-greater a b h = keys_total.antisymm b a ∙ ap ordering_reverse h

greater-less : (a b : Key) → key_cmp a b ≡ Greater → key_cmp b a ≡ Less
greater-less a b h = keys_total.antisymm b a ∙ ap ordering_reverse h

less-is : (o : Ordering) → is_ge o ≡ false → o ≡ Less
less-is Less h = refl
less-is Equal h = absurd (cc)
less-is Greater h = absurd (cc)

-- a test of two keys, as `>=` states it
pub not-ge : (a b : Key) → partial_ge (λ (x y : Key). partial_ordering_then (Some (nat_cmp x.0 y.0)) (Some (nat_cmp x.1 y.1))) a b ≡ false → key_cmp a b ≡ Less
not-ge a b h = less-is (key_cmp a b) (rw (Some-then (nat_cmp a.0 b.0) (nat_cmp a.1 b.1)) at h)

-- ---- a key behind the first part

-- it is looked for in the second
pub lookup-behind : (es ts : Entries) (k : Key) → AreBelow k es → lookup (is_at (key_cmp k)) (es ++ ts) ≡ lookup (is_at (key_cmp k)) ts
lookup-behind [] ts k h = refl
lookup-behind (e ∷ es) ts k h = rw h.0 (lookup-behind es ts k h.1)

-- and put into the second
pub insert-behind : (es ts : Entries) (k : Key) (v : CallTimes) → AreBelow k es → insert_entry key_cmp (es ++ ts) k v ≡ es ++ insert_entry key_cmp ts k v
insert-behind [] ts k v h = refl
insert-behind (e ∷ es) ts k v h = rw h.0 (ap (λ l. e ∷ l) (insert-behind es ts k v h.1))

-- ---- entries with one more are in order

all-from : (low k : Key) (ys : List Key) → key_cmp low k ≡ Less → AllByRecursion (λ y. key_cmp k y ≡ Less) ys → AllByRecursion (λ y. key_cmp low y ≡ Less) ys
all-from low k [] l h = tt
all-from low k (y ∷ ys) l h = (keys_total.trans low k y l h.0, all-from low k ys l h.1)

all-insert : (low k : Key) (v : CallTimes) (es : Entries) → key_cmp low k ≡ Less → AllByRecursion (λ y. key_cmp low y ≡ Less) (keys_of es) → AllByRecursion (λ y. key_cmp low y ≡ Less) (keys_of (insert_entry key_cmp es k v))
all-insert low k v [] l h = (l, tt)
all-insert low k v (e ∷ es) l h = by (key_cmp k e.0) (all-insert low k v es l h.1)
  where
    by : (r : Ordering) → AllByRecursion (λ y. key_cmp low y ≡ Less) (keys_of (insert_entry key_cmp es k v)) → AllByRecursion (λ y. key_cmp low y ≡ Less) (keys_of (match_ordering r ((k, v) ∷ e ∷ es) ((e.0, v) ∷ es) (e ∷ insert_entry key_cmp es k v)))
    by Less i = (l, h)
    by Equal i = h
    by Greater i = (h.0, i)

pub insert-rise : (k : Key) (v : CallTimes) (es : Entries) → Rise es → Rise (insert_entry key_cmp es k v)
unfolding IsStrictlySortedBy
insert-rise k v [] s = (tt, tt)
insert-rise k v (e ∷ es) s = by (key_cmp k e.0) refl (insert-rise k v es s.1)
  where
    by : (r : Ordering) → key_cmp k e.0 ≡ r → Rise (insert_entry key_cmp es k v) → Rise (match_ordering r ((k, v) ∷ e ∷ es) ((e.0, v) ∷ es) (e ∷ insert_entry key_cmp es k v))
    by Less h i = ((h, all-from k e.0 (keys_of es) h s.0), s)
    by Equal h i = s
    by Greater h i = (all-insert e.0 k v es (greater-less k e.0 h) s.0, i)

-- ---- the last of the first part

-- a key above the last is above all
pub below-last : (xs ts : Entries) (e : Key × CallTimes) (k : Key) → slice_get xs (length xs - 1) ≡ Some e → Rise (xs ++ ts) → key_cmp e.0 k ≡ Less → AreBelow k xs
unfolding IsStrictlySortedBy
below-last [] ts e k h s l = tt
below-last (x ∷ []) ts e k h s l = (grind (arith, less-greater e.0 k l), tt)
below-last (x ∷ y ∷ ys) ts e k h s l =
    let below = below-last (y ∷ ys) ts e k (simp unary_clauses (simp unary_clauses at h)) s.1 l in
    (less-greater x.0 k (keys_total.trans x.0 y.0 k s.0.0 (greater-less k y.0 below.0)), below)

last-split : (xs ts : Entries) (e : Key × CallTimes) → slice_get xs (length xs - 1) ≡ Some e → xs ++ ts ≡ take (length xs - 1) xs ++ e ∷ ts
last-split [] ts e h = absurd (cc)
last-split (x ∷ []) ts e h = grind (arith)
last-split (x ∷ y ∷ ys) ts e h =
    let rest = last-split (y ∷ ys) ts e (simp unary_clauses (simp unary_clauses at h)) in
    simp unary_clauses (ap (λ l. x ∷ l) (simp unary_clauses at rest))

insert-first : (xs ts : Entries) (e : Key × CallTimes) → Rise (xs ++ e ∷ ts) → insert_entry key_cmp ts e.0 e.1 ≡ e ∷ ts
unfolding IsStrictlySortedBy
insert-first [] [] e s = refl
insert-first [] (t ∷ ts) e s = rw s.0.0 refl
insert-first (x ∷ xs) ts e s = insert-first xs ts e s.1

-- the last may as well stand in the second part
pub moved : (xs ts ws : Entries) (e : Key × CallTimes) → slice_get xs (length xs - 1) ≡ Some e → xs ++ ts ≡ ws → Rise ws → take (length xs - 1) xs ++ insert_entry key_cmp ts e.0 e.1 ≡ ws
moved xs ts ws e h is s =
    let split = sym (last-split xs ts e h) ∙ is in
    let there = subst Rise (sym split) s in
    ap (λ l. take (length xs - 1) xs ++ l) (insert-first (take (length xs - 1) xs) ts e there) ∙ split

-- ---- one more

-- what a key behind the first part makes of the entries, put into the second
pub record IsPut (es ts ws : Entries) (k : Key) (v : CallTimes) : Type 0 where
  pub found : lookup (is_at (key_cmp k)) ts ≡ lookup (is_at (key_cmp k)) ws
  pub entries : es ++ insert_entry key_cmp ts k v ≡ insert_entry key_cmp ws k v
  pub rise : Rise (es ++ insert_entry key_cmp ts k v)

pub put : (es ts ws : Entries) (k : Key) (v : CallTimes) → es ++ ts ≡ ws → AreBelow k es → Rise ws → IsPut es ts ws k v
put es ts ws k v is below s =
    let same = sym (insert-behind es ts k v below) ∙ ap (λ l. insert_entry key_cmp l k v) is in
    record {
      found = sym (lookup-behind es ts k below) ∙ ap (lookup (is_at (key_cmp k))) is;
      entries = same;
      rise = subst Rise (sym same) (insert-rise k v ws s);
    }

-- where the second part is empty, the first may take it
pub put-last : (es ts : Entries) (k : Key) (v : CallTimes) → length ts ≡ 0 → (es ++ (k, v) ∷ []) ++ ts ≡ es ++ insert_entry key_cmp ts k v
put-last es [] k v h = append-nil (es ++ (k, v) ∷ [])
put-last es (t ∷ ts) k v h = absurd (omega arith)

pub none-there : (ts : Entries) (k : Key) → length ts ≡ 0 → lookup (is_at (key_cmp k)) ts ≡ None
none-there [] k h = refl
none-there (t ∷ ts) k h = absurd (omega arith)
