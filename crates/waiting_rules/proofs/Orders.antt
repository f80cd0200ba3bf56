-- The orders of what rules are for.
use Rattle.waiting_rules.proofs.Words.{◌≡◌, ℕ, Bool, true, false, ◌&&◌, nat_eq, Option, Some, None, Ordering, refl, sym, ◌∙◌, ap, is_at, option_cmp, false≢true, Connecting, trains, Less, Equal, Greater, IsEquivalence, eq_by_cmp, nat_cmp, ordering_then, is_eq, eq_by_cmp_equiv, connecting_cmp, scope_cmp}
use Rattle.std.specs.Cmp.{IsTotalOrder, unsigned_ties}
use Rattle.std.specs.Cmp.Lexicographic.{options_total}
use Rattle.std.proofs.lemmas.Map.Lookups.{exact_unsigned}
use Rattle.std.proofs.lemmas.Cmp.{then_total, on_total, nat_cmp_total, nat_eq_equiv}

-- the order of the trains that wait is total
pub connecting_total : IsTotalOrder connecting_cmp
connecting_total =
    then_total (on_total (λ c. c.route) (options_total nat_cmp_total)) (on_total (λ c. c.stop) (options_total nat_cmp_total))

pub connecting_laws : IsEquivalence (eq_by_cmp connecting_cmp)
connecting_laws = eq_by_cmp_equiv connecting_total

-- the order of scopes is total
pub scopes_total : IsTotalOrder scope_cmp
scopes_total =
    then_total (on_total (λ s. s.connecting) connecting_total) (on_total (λ s. s.feeder) (options_total nat_cmp_total))

-- two comparisons one after the other tie where both do
pub then-eq : (a b : Ordering) → is_eq (ordering_then a b) ≡ (is_eq a && is_eq b)
then-eq Less b = refl
then-eq Equal b = refl
then-eq Greater b = refl

-- two numbers tie where they are equal
pub tie-eq : (n m : ℕ) → is_eq (nat_cmp n m) ≡ nat_eq m n
tie-eq n m = sym (unsigned_ties n m) ∙ nat_eq_equiv.symm n m

-- ties are equal
is-tie : (a : Ordering) → is_eq a ≡ true → a ≡ Equal
is-tie Less h = absurd (false≢true h)
is-tie Equal h = refl
is-tie Greater h = absurd (false≢true h)

pub field-same : (a b : Option ℕ) → is_eq (option_cmp nat_cmp a b) ≡ true → a ≡ b
field-same None None h = refl
field-same None (Some n) h = absurd (false≢true h)
field-same (Some m) None h = absurd (false≢true h)
field-same (Some m) (Some n) h = ap (λ (k : ℕ). Some k) (exact_unsigned m n (is-tie _ h))

pub and-both : (a b : Bool) → (a && b) ≡ true → (a ≡ true) × (b ≡ true)
and-both true b h = (refl, h)
and-both false b h = absurd (false≢true h)

-- trains that tie have one route
pub fields-same : (a b : Connecting) → is_at (connecting_cmp a) b ≡ true → a.route ≡ b.route
fields-same a b h =
    field-same a.route b.route (and-both _ _ (sym (then-eq (option_cmp nat_cmp a.route b.route) (option_cmp nat_cmp a.stop b.stop)) ∙ h)).0

-- trains that tie are the same
pub trains-same : (a b : Connecting) → is_at (connecting_cmp a) b ≡ true → a ≡ b
trains-same a b h =
    let fields = and-both _ _ (sym (then-eq (option_cmp nat_cmp a.route b.route) (option_cmp nat_cmp a.stop b.stop)) ∙ h) in
    λ i. trains (field-same a.route b.route fields.0 i) (field-same a.stop b.stop fields.1 i)

pub field-tied : (a b : Option ℕ) → a ≡ b → option_cmp nat_cmp a b ≡ Equal
field-tied a b e = ap (λ x. option_cmp nat_cmp x b) e ∙ is-tie _ ((eq_by_cmp_equiv (options_total nat_cmp_total)).refl b)

pub connecting-tied : (a b : Connecting) → a ≡ b → connecting_cmp a b ≡ Equal
connecting-tied a b e = ap (λ x. connecting_cmp x b) e ∙ is-tie _ (connecting_laws.refl b)
