-- Bounds of the first rules that make the same trains wait, with one more rule.
use Rattle.waiting_rules.proofs.Words.{◌≡◌, ℕ, zero, suc, ◌<◌, Bool, true, false, cond, ◌&&◌, ◌||◌, List, [], ◌∷◌, ◌++◌, get_or, length, Option, Some, None, inl, inr, refl, sym, ◌∙◌, ap, subst, arith, BTreeMap, get, is_at, list_any, position, position_or_len, is_some, option_cmp, option_map_or, nat_cmp, unwrap_or, cases_Bool, le-ltb, false≢true, list_any-append, RuleRow, Part, Connecting, Scope, ArePartsOf, IsBoundOf, waits_among, HasSome, HasPlaces, scope, has_wait, connecting_cmp, connecting_of, is_connecting, has_scope}
use Rattle.waiting_rules.specs.declared.bounds.Bounds.{Bounds}
use Rattle.waiting_rules.specs.Bounded.{HasBounds, bounds_in}
use Rattle.waiting_rules.specs.Indexed.{IsPart}
use Rattle.waiting_rules.proofs.Anys.{none-weaker}
use Rattle.waiting_rules.proofs.Orders.{connecting_laws, then-eq, and-both, trains-same}

or-true : (b : Bool) → true ≡ (b || true)
or-true true = refl
or-true false = refl

or-end : (b : Bool) → b ≡ (b || false)
or-end true = refl
or-end false = refl

-- whether some of the rules with one more makes these trains wait
any-end : (c : Connecting) (rules : List RuleRow) (rule : RuleRow) (b : Bool) → is_connecting c rule ≡ b → list_any (is_connecting c) (rules ++ rule ∷ []) ≡ (list_any (is_connecting c) rules || b)
any-end c rules rule b e = list_any-append (is_connecting c) rules (rule ∷ []) ∙ ap (λ x. list_any (is_connecting c) rules || x) (sym (or-end (is_connecting c rule)) ∙ e)

-- a rule for trains that have bounds
pub some-known : (all rules : List RuleRow) (places : List (Scope × ℕ)) (rule : RuleRow) (m : BTreeMap Connecting Bounds) → HasSome all places rules m → is_some (get connecting_cmp m (connecting_of rule)) ≡ true → HasSome all places (rules ++ rule ∷ []) m
some-known all rules places rule m h there = record {
  known = λ c. elim (cases_Bool (is_connecting c rule)) [
    | inl same ↦ ap (λ q. is_some (get connecting_cmp m q)) (trains-same c (connecting_of rule) same) ∙ there ∙ or-true (list_any (is_connecting c) rules) ∙ sym (any-end c rules rule true same)
    | inr other ↦ h.known c ∙ or-end (list_any (is_connecting c) rules) ∙ sym (any-end c rules rule false other)
  ];
  each = h.each;
}

some-same : {X : Type 0} (a b : X) → Some a ≡ Some b → a ≡ b
some-same a b h = ap (λ o. option_map_or (λ x. x) o a) h

-- a rule for other trains
pub some-new : (all rules : List RuleRow) (places : List (Scope × ℕ)) (rule : RuleRow) (m n : BTreeMap Connecting Bounds) (b : Bounds) → HasSome all places rules m → ((q : Connecting) → get connecting_cmp n q ≡ cond (is_at (connecting_cmp (connecting_of rule)) q) (Some b) (get connecting_cmp m q)) → IsBoundOf all places (connecting_of rule) b → HasSome all places (rules ++ rule ∷ []) n
some-new all rules places rule m n b h more is = record {
  known = λ c. elim (cases_Bool (is_connecting c rule)) [
    | inl same ↦ ap is_some (more c ∙ ap (λ t. cond t (Some b) (get connecting_cmp m c)) (connecting_laws.symm (connecting_of rule) c ∙ same)) ∙ or-true (list_any (is_connecting c) rules) ∙ sym (any-end c rules rule true same)
    | inr other ↦ ap is_some (more c ∙ ap (λ t. cond t (Some b) (get connecting_cmp m c)) (connecting_laws.symm (connecting_of rule) c ∙ other)) ∙ h.known c ∙ or-end (list_any (is_connecting c) rules) ∙ sym (any-end c rules rule false other)
  ];
  each = λ c d e. elim (cases_Bool (is_connecting c rule)) [
    | inl same ↦
        let bounds : b ≡ d = some-same b d (sym (more c ∙ ap (λ t. cond t (Some b) (get connecting_cmp m c)) (connecting_laws.symm (connecting_of rule) c ∙ same)) ∙ e) in
        subst (λ (p : Connecting × Bounds). IsBoundOf all places p.0 p.1) (λ i. (sym (trains-same c (connecting_of rule) same) i, bounds i)) is
    | inr other ↦ h.each c d (sym (more c ∙ ap (λ t. cond t (Some b) (get connecting_cmp m c)) (connecting_laws.symm (connecting_of rule) c ∙ other)) ∙ e)
  ];
}

none-first : {X : Type 0} (p : X → Bool) (xs : List X) → list_any p xs ≡ false → position_or_len p xs ≡ length xs
none-first p [] h = refl
none-first p (x ∷ xs) h = elim (cases_Bool (p x)) [
  | inl here ↦ let none = rw here at h in absurd (false≢true (sym none))
  | inr other ↦ let rest = rw other at h in let e = none-first p xs rest in rw other (omega arith)
]

none-position : {X : Type 0} (p : X → Bool) (xs : List X) → list_any p xs ≡ false → None ≡ position p xs
none-position p xs h = rw (none-first p xs h, le-ltb (length xs) (length xs) (omega arith)) refl

-- trains that no rule makes wait have an empty part
empty-part : (all : List RuleRow) (places : List (Scope × ℕ)) (c : Connecting) → HasPlaces all places → list_any (is_connecting c) all ≡ false → IsBoundOf all places c (record { part = record { start = 0; end = 0 }; waits = false })
empty-part all places c h none = record {
  part = record {
    bound = record { order = omega arith; within = omega arith };
    trains = λ i d l. absurd (omega arith);
    all = λ feeder.
        none-position (has_scope (scope c feeder)) all (none-weaker (has_scope (scope c feeder)) (is_connecting c) (λ rule e. (and-both _ _ (sym (then-eq (connecting_cmp c (connecting_of rule)) (option_cmp nat_cmp feeder rule.feeder)) ∙ e)).0) all none)
        ∙ sym (h (scope c feeder));
  };
  waits = sym (none-weaker (λ rule. has_wait rule && is_connecting c rule) (is_connecting c) (λ rule e. (and-both _ _ e).1) all none);
}

by-bounds : (all : List RuleRow) (places : List (Scope × ℕ)) (c : Connecting) (found : Option Bounds) → HasPlaces all places → is_some found ≡ list_any (is_connecting c) all → ((b : Bounds) → found ≡ Some b → IsBoundOf all places c b) → IsBoundOf all places c (unwrap_or found (record { part = record { start = 0; end = 0 }; waits = false }))
by-bounds all places c None h known each = empty-part all places c h (sym known)
by-bounds all places c (Some b) h known each = each b refl

-- with all rules, each part is right
pub bounds-all : (all : List RuleRow) (places : List (Scope × ℕ)) (m : BTreeMap Connecting Bounds) → HasPlaces all places → HasSome all places all m → HasBounds all places m.entries
bounds-all all places m h some = λ c. by-bounds all places c (get connecting_cmp m c) h (some.known c) (some.each c)

-- the bounds that are found among those of one route
pub bound-by : (rules : List RuleRow) (places : List (Scope × ℕ)) (all row : List (Connecting × Bounds)) (c : Connecting) (b : Bounds) → HasBounds rules places all → b ≡ bounds_in row c → bounds_in row c ≡ bounds_in all c → IsBoundOf rules places c b
bound-by rules places all row c b h found same = subst (IsBoundOf rules places c) (sym (found ∙ same)) (h c)

-- six bounds are those of these trains
pub parts-of : (rules : List RuleRow) (places : List (Scope × ℕ)) (t u v w x y : Connecting) (p q r s o n : Bounds) → IsBoundOf rules places t p → IsBoundOf rules places u q → IsBoundOf rules places v r → IsBoundOf rules places w s → IsBoundOf rules places x o → IsBoundOf rules places y n → ArePartsOf (t ∷ u ∷ v ∷ w ∷ x ∷ y ∷ []) places (p.part ∷ q.part ∷ r.part ∷ s.part ∷ o.part ∷ n.part ∷ [])
parts-of rules places t u v w x y p q r s o n a b c d e f = record { count = refl; each = at } where
  at : (i : ℕ) (k : Connecting) (m : Part) → i < 6 → IsPart places (get_or (t ∷ u ∷ v ∷ w ∷ x ∷ y ∷ []) i k) (get_or (p.part ∷ q.part ∷ r.part ∷ s.part ∷ o.part ∷ n.part ∷ []) i m)
  at zero k m l = a.part
  at (suc zero) k m l = b.part
  at (suc (suc zero)) k m l = c.part
  at (suc (suc (suc zero))) k m l = d.part
  at (suc (suc (suc (suc zero)))) k m l = e.part
  at (suc (suc (suc (suc (suc zero))))) k m l = f.part
  at (suc (suc (suc (suc (suc (suc i)))))) k m l = absurd (omega arith)

or-six : (a b c d e f : Bool) → (((a || b) || c) || ((d || e) || f)) ≡ (a || (b || (c || (d || (e || (f || false))))))
or-six true b c d e f = refl
or-six false true c d e f = refl
or-six false false true d e f = refl
or-six false false false true e f = refl
or-six false false false false true f = refl
or-six false false false false false true = refl
or-six false false false false false false = refl

-- whether some of six trains wait
pub waits-of : (rules : List RuleRow) (places : List (Scope × ℕ)) (t u v w x y : Connecting) (p q r s o n : Bounds) → IsBoundOf rules places t p → IsBoundOf rules places u q → IsBoundOf rules places v r → IsBoundOf rules places w s → IsBoundOf rules places x o → IsBoundOf rules places y n → (((p.waits || q.waits) || r.waits) || ((s.waits || o.waits) || n.waits)) ≡ list_any (waits_among rules) (t ∷ u ∷ v ∷ w ∷ x ∷ y ∷ [])
waits-of rules places t u v w x y p q r s o n a b c d e f =
    (λ i. ((a.waits i || b.waits i) || c.waits i) || ((d.waits i || e.waits i) || f.waits i))
    ∙ or-six (waits_among rules t) (waits_among rules u) (waits_among rules v) (waits_among rules w) (waits_among rules x) (waits_among rules y)
