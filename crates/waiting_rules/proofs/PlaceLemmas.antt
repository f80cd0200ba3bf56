-- The places of first rules, with one more rule.
use Rattle.waiting_rules.proofs.Words.{◌≡◌, ℕ, true, false, cond, List, [], ◌∷◌, ◌++◌, length, min, ◌≤◌, unwrap_or, Option, Some, None, inl, inr, refl, sym, ◌∙◌, ap, BTreeMap, get, is_at, IsEquivalence, position_or_len, lookup, option_or, is_some, eq_by_cmp, cases_Bool, eq_by_cmp_equiv, RuleRow, Scope, scope_cmp, has_scope, HasPlaces, place_of}
use Rattle.waiting_rules.specs.Scopes.{scope_of}
use Rattle.waiting_rules.proofs.Firsts.{min-position, position-end}
use Rattle.waiting_rules.proofs.Orders.{scopes_total}

pub laws : IsEquivalence (eq_by_cmp scope_cmp)
laws = eq_by_cmp_equiv scopes_total

-- two scopes that tie have one place
pub place-alike : (es : List (Scope × ℕ)) (q k : Scope) → is_at (scope_cmp q) k ≡ true → place_of es q ≡ place_of es k
place-alike es q k h = ap (λ test. lookup test es) (λ i z. laws.congr q k z h i)

some-or : {X : Type 0} (o p : Option X) → is_some o ≡ true → o ≡ option_or o p
some-or (Some x) p h = refl
some-or None p h = cc

none-or : {X : Type 0} (o p : Option X) → is_some o ≡ false → p ≡ option_or o p
none-or (Some x) p h = cc
none-or None p h = refl

or-none : {X : Type 0} (o : Option X) → o ≡ option_or o None
or-none (Some x) = refl
or-none None = refl

-- what is kept where there was nothing for its scope is what is kept of one more rule
places-more : (rules : List RuleRow) (rule : RuleRow) (m n : BTreeMap Scope ℕ) → HasPlaces rules m.entries → ((q : Scope) → get scope_cmp n q ≡ option_or (get scope_cmp m q) (cond (has_scope q rule) (Some (length rules)) None)) → HasPlaces (rules ++ rule ∷ []) n.entries
places-more rules rule m n h more = λ q.
    more q ∙ ap (λ o. option_or o (cond (has_scope q rule) (Some (length rules)) None)) (h q) ∙ sym (position-end (has_scope q) rules rule)

-- a rule whose scope an earlier one has
pub places-known : (rules : List RuleRow) (rule : RuleRow) (m : BTreeMap Scope ℕ) → HasPlaces rules m.entries → is_some (get scope_cmp m (scope_of rule)) ≡ true → HasPlaces (rules ++ rule ∷ []) m.entries
places-known rules rule m h there = places-more rules rule m m h (λ q. elim (cases_Bool (has_scope q rule)) [
  | inl same ↦ some-or _ _ (ap is_some (place-alike m.entries q (scope_of rule) same) ∙ there)
  | inr other ↦ rw other (or-none (get scope_cmp m q))
])

-- the first rule of its scope
pub places-new : (rules : List RuleRow) (rule : RuleRow) (m n : BTreeMap Scope ℕ) → HasPlaces rules m.entries → is_some (get scope_cmp m (scope_of rule)) ≡ false → ((q : Scope) → get scope_cmp n q ≡ cond (is_at (scope_cmp (scope_of rule)) q) (Some (length rules)) (get scope_cmp m q)) → HasPlaces (rules ++ rule ∷ []) n.entries
places-new rules rule m n h none more = places-more rules rule m n h (λ q.
    more q ∙ ap (λ b. cond b (Some (length rules)) (get scope_cmp m q)) (laws.symm (scope_of rule) q) ∙ elim (cases_Bool (has_scope q rule)) [
      | inl same ↦ rw same (none-or _ _ (ap is_some (place-alike m.entries q (scope_of rule) same) ∙ none))
      | inr other ↦ rw other (or-none (get scope_cmp m q))
    ])

-- the earlier of a place and that of the first rule of a scope
pub earlier-place : (rules : List RuleRow) (es : List (Scope × ℕ)) → HasPlaces rules es → (q : Scope) (n k : ℕ) → n ≤ length rules → k ≡ min n (unwrap_or (place_of es q) n) → k ≡ min n (position_or_len (has_scope q) rules)
earlier-place rules es h q n k l e = e ∙ ap (λ o. min n (unwrap_or o n)) (h q) ∙ min-position (has_scope q) rules n l
