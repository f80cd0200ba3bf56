-- A place in a list of entries in order, and what an edit there does.
use Rattle.connection_choices.proofs.Words.{◌≡◌, ℕ, zero, suc, ◌<◌, ◌≤◌, List, [], ◌∷◌, Bool, true, not, T, length, get_or, ap, arith, Some, None, Ordering, set, Less, Equal, Greater, IsTotalOrder}
use Rattle.connection_choices.proofs.Words.{eq_by_cmp, HoldsAt, insert, remove, IsPartitionPoint, find, put, is_sorted, AllPairs, AllPairs-cons, below_all, where_key, and_parts, alike_right, ◌+◌, All}
use Rattle.connection_choices.proofs.Words.{All-cons, is_gt, false, refl, tied_back, Result, IsSearchInRange, IsBinarySearchResult, IfOk, IfErr, searchable_from_sorted, IsAntisymmetric, from_sorted}
use Rattle.connection_choices.proofs.Words.{same_map, get-from_sorted, passes, is_sorted-put, get-insert, find-put}
use Rattle.std.specs.FinMap as map

pub truth : (b : Bool) → T b → b ≡ true
truth b h = grind arith

module _ {K : Type 0} {R : K → K → Ordering} (o : IsTotalOrder R) {X : Type 0} where
  -- the entries of the other keys
  abbrev pub others : K → List (K × X) → List (K × X)
  others k = where_key R (λ x. not (eq_by_cmp R k x))

  -- a key that is not above one that is below all keys has no entry
  pub no-entry : (k x : K) (es : List (K × X)) → is_gt (R k x) ≡ false → below_all R x es ≡ true → (find R k es ≡ None) × (others k es ≡ es)
  no-entry k x [] t h = grind arith
  no-entry k x (e ∷ es) t h = grind (arith, o.congr, o.trans, no-entry k x es)

  below-at : (x : K) (es : List (K × X)) → below_all R x es ≡ true → All (λ e. R x e.0 ≡ Less) es
  below-at x [] h = grind arith
  below-at x (e ∷ es) h = grind (arith, h, All-cons (λ b. R x b.0 ≡ Less) e es, below-at x es)

  pub keys-rise : (es : List (K × X)) → is_sorted R es ≡ true → AllPairs (λ a b. R a.0 b.0 ≡ Less) es
  keys-rise [] s = grind arith
  keys-rise (e ∷ es) s = grind (arith, s, AllPairs-cons (λ a b. R a.0 b.0 ≡ Less) e es, below-at e.0 es, keys-rise es)

  -- the entry of the key is at this place
  pub record IsFound (k : K) (es : List (K × X)) (i : ℕ) : Type 0 where
    pub find_is : (d : K × X) → find R k es ≡ Some (get_or es i d).1
    pub put_is : (v : X) (d : K × X) → put R k v es ≡ set es i ((get_or es i d).0, v)
    pub others_are : others k es ≡ remove es i

  -- no entry has the key, and one of it would go to this place
  pub record IsMissed (k : K) (es : List (K × X)) (i : ℕ) : Type 0 where
    pub find_is : find R k es ≡ None
    pub put_is : (v : X) → put R k v es ≡ insert es i (k, v)
    pub others_are : others k es ≡ es

  -- by a search of a list that is read as another
  pub at-found : (es fs : List (K × X)) (k : K) (i : ℕ) → fs ≡ es → is_sorted R es ≡ true → i < length fs → HoldsAt (λ e. R e.0 k ≡ Equal) fs i → IsFound k es i
  at-found [] fs k i f s l h = absurd (omega (arith, ap length f))
  at-found (e ∷ es) fs k zero f s l h = grind (arith, tied_back o e.0 k ((rw f at h) e), no-entry k e.0 es, s)
  at-found (e ∷ es) fs k (suc i) f s l h = grind (arith, o.antisymm k e.0, alike_right o _ _ e.0 ((rw f at h) e), keys-rise (e ∷ es) s 0 (suc i) e, at-found es es k i refl (and_parts (below_all R e.0 es) (is_sorted R es) s).1 (omega (arith, ap length f)) (rw f at h))

  pub at-gap : (es fs : List (K × X)) (k : K) (i : ℕ) → fs ≡ es → is_sorted R es ≡ true → i ≤ length fs → IsPartitionPoint (λ e. R e.0 k ≡ Less) (λ e. R e.0 k ≡ Greater) fs i → IsMissed k es i
  at-gap [] fs k i f s l h = grind (arith, f, l)
  at-gap (e ∷ es) fs k zero f s l h = grind (arith, s, f, o.antisymm k e.0, no-entry k e.0 es, (rw f at h).1 0 e (omega arith) (omega arith))
  at-gap (e ∷ es) fs k (suc i) f s l h = grind (arith, o.antisymm k e.0, (rw f at h).0 0 e (omega arith) (omega arith), at-gap es es k i refl (and_parts (below_all R e.0 es) (is_sorted R es) s).1 (omega (arith, ap length f)) ((λ j d m n. (rw f at h).0 (suc j) d (omega arith) (omega arith)), (λ j d m n. (rw f at h).1 (suc j) d (omega arith) (omega arith))))

  -- what a binary search answers
  pub searched : (es : List (K × X)) (k : K) (r : Result ℕ ℕ) → is_sorted R es ≡ true → IsSearchInRange r (length es) → IsBinarySearchResult (λ e. R e.0 k) es r → record { within : IsSearchInRange r (length es); found : IfOk r (HoldsAt (λ e. R e.0 k ≡ Equal) es); absent : IfErr r (IsPartitionPoint (λ e. R e.0 k ≡ Less) (λ e. R e.0 k ≡ Greater) es) }
  searched es k r s l h = grind (arith, l, h, searchable_from_sorted o (λ (e : K × X). e.0) es k (λ i d m n. grind (arith, keys-rise es s i (i + 1) d, o.antisymm (get_or es (i + 1) d).0 (get_or es i d).0)))

  -- a list in order is the finite map
  pub put-is : IsAntisymmetric R → (es : List (K × X)) → is_sorted R es ≡ true → (k : K) (v : X) → from_sorted {R = R} (put R k v es) ≡ map.insert (from_sorted es) k v
  put-is same es s k v = same_map o same _ _ (λ q. grind (arith, get-from_sorted R es q (passes _ s), get-from_sorted R (put R k v es) q (is_sorted-put R o k v es (passes _ s)), get-insert o (from_sorted es) k v q, find-put R o q k v es))
