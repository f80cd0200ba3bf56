-- The part of the first rules that makes the same trains wait.
use Rattle.waiting_rules.proofs.Words.{◌≡◌, ℕ, ◌+◌, ◌<◌, ◌≤◌, List, All, true, false, length, get_or, refl, sym, ◌∙◌, ap, arith, Some, None, Option, Ordering, inl, inr, is_at, Less, Equal, Greater, option_cmp, nat_cmp, is_eq, is_le, is_lt, ordering_then, cases_lt, Connecting, Scope, connecting_cmp, scope_cmp, place_of, scope}
use Rattle.std.specs.Cmp.Lexicographic.{options_total}
use Rattle.std.specs.List.Sorted.{IsNonDecreasingBy, IsPartitionPoint, IsPartitionedBy}
use Rattle.std.specs.Ordering.{ordering_index, ordering_reverse}
use Rattle.std.proofs.lemmas.Cmp.{nat_cmp_total}
use Rattle.std.proofs.lemmas.List.Sorted.{searchable_from_sorted}
use Rattle.waiting_rules.specs.Indexed.{AreSorted, IsPart}
use Rattle.waiting_rules.proofs.Orders.{connecting_total, scopes_total, trains-same, connecting-tied}
use Rattle.waiting_rules.proofs.Ranges.{found, missed, lookup-range, rises, range-at, range-within}

abbrev Places : Type 0
Places = List (Scope × ℕ)

pub not-below : (a : Ordering) → a ≡ Less → is_lt (ordering_reverse a) ≡ false
not-below Less h = refl
not-below Equal h = refl
not-below Greater h = cc

first-not-below : (a b : Ordering) → ordering_then a b ≡ Less → is_lt (ordering_reverse a) ≡ false
first-not-below Less b h = refl
first-not-below Equal b h = refl
first-not-below Greater b h = cc

-- so a binary search by trains is right
trains-rise : (es : Places) (c : Connecting) → AreSorted es → IsNonDecreasingBy (λ e. ordering_index (connecting_cmp e.0.connecting c)) es
trains-rise es c s =
    searchable_from_sorted connecting_total (λ (e : Scope × ℕ). e.0.connecting) es c (λ k d l m.
    ap is_lt (connecting_total.antisymm (get_or es (k + 1) d).0.connecting (get_or es k d).0.connecting) ∙ first-not-below _ _ (rises scope_cmp es k (k + 1) d s (omega arith) m))

lt-falls : (a b : Ordering) → ordering_index a ≤ ordering_index b → is_lt b ≡ true → is_lt a ≡ true
lt-falls Less b l h = refl
lt-falls Equal Less l h = absurd (omega arith)
lt-falls Equal Equal l h = h
lt-falls Equal Greater l h = h
lt-falls Greater Less l h = absurd (omega arith)
lt-falls Greater Equal l h = h
lt-falls Greater Greater l h = h

le-falls : (a b : Ordering) → ordering_index a ≤ ordering_index b → is_le b ≡ true → is_le a ≡ true
le-falls Less b l h = refl
le-falls Equal b l h = refl
le-falls Greater Less l h = absurd (omega arith)
le-falls Greater Equal l h = absurd (omega arith)
le-falls Greater Greater l h = h

pub start-parted : (es : Places) (c : Connecting) → AreSorted es → IsPartitionedBy (λ e. is_lt (connecting_cmp e.0.connecting c)) es
start-parted es c s i j d le l h = lt-falls _ _ (trains-rise es c s i j d le l) h

pub end-parted : (es : Places) (c : Connecting) → AreSorted es → IsPartitionedBy (λ e. is_le (connecting_cmp e.0.connecting c)) es
end-parted es c s i j d le l h = le-falls _ _ (trains-rise es c s i j d le l) h

lt-apart : (a b : Ordering) → is_lt a ≡ true → is_eq (ordering_then (ordering_reverse a) b) ≡ false
lt-apart Less b h = refl
lt-apart Equal b h = cc
lt-apart Greater b h = cc

le-apart : (a b : Ordering) → is_le a ≡ false → is_eq (ordering_then (ordering_reverse a) b) ≡ false
le-apart Less b h = cc
le-apart Equal b h = cc
le-apart Greater b h = refl

lt-le : (a : Ordering) → is_lt a ≡ true → is_le a ≡ true
lt-le Less h = refl
lt-le Equal h = refl
lt-le Greater h = cc

between : (a : Ordering) → is_lt a ≡ false → is_le a ≡ true → is_eq a ≡ true
between Less h k = cc
between Equal h k = refl
between Greater h k = cc

-- where two binary searches say that the entries of some trains begin and end, these are a part
pub part-is : (es : Places) (c : Connecting) (a b : ℕ) → a ≤ length es → b ≤ length es → IsPartitionPoint (λ e. is_lt (connecting_cmp e.0.connecting c) ≡ true) (λ e. is_lt (connecting_cmp e.0.connecting c) ≡ false) es a → IsPartitionPoint (λ e. is_le (connecting_cmp e.0.connecting c) ≡ true) (λ e. is_le (connecting_cmp e.0.connecting c) ≡ false) es b → IsPart es c (record { start = a; end = b })
part-is es c a b l m start end =
    let order : a ≤ b = elim (cases_lt b a) [
      | inl past ↦
          let d : Scope × ℕ = (scope c None, 0) in
          let one = lt-le _ (start.0 b d (omega arith) past) in
          let two = end.1 b d (omega arith) (omega arith) in
          absurd (cc)
      | inr within ↦ within
    ] in
    record {
      bound = record { order = order; within = m };
      trains = λ i d k.
          let at = range-within es a b i k in
          ap (λ (e : Scope × ℕ). e.0.connecting) (range-at es a b i d k)
          ∙ trains-same (get_or es (a + i) d).0.connecting c (between _ (start.1 (a + i) d (omega arith) at.1) (end.0 (a + i) d (omega arith) at.0));
      all = λ feeder.
          lookup-range (is_at (scope_cmp (scope c feeder))) a b es order
          (λ i d k n. ap (λ o. is_eq (ordering_then o (option_cmp nat_cmp feeder (get_or es i d).0.feeder))) (connecting_total.antisymm c (get_or es i d).0.connecting) ∙ lt-apart _ _ (start.0 i d (omega arith) k))
          (λ i d k n. ap (λ o. is_eq (ordering_then o (option_cmp nat_cmp feeder (get_or es i d).0.feeder))) (connecting_total.antisymm c (get_or es i d).0.connecting) ∙ le-apart _ _ (end.1 i d k n));
    }

-- among scopes with the same trains the feeders decide
by-feeder : (s : Scope) (c : Connecting) (feeder : Option ℕ) → s.connecting ≡ c → option_cmp nat_cmp s.feeder feeder ≡ scope_cmp s (scope c feeder)
by-feeder s c feeder h = ap (λ o. ordering_then o (option_cmp nat_cmp s.feeder feeder)) (sym (connecting-tied s.connecting c h))

-- so a binary search by feeders is right
pub feeders-rise : (es : Places) (c : Connecting) (feeder : Option ℕ) → AreSorted es → All (λ e. e.0.connecting ≡ c) es → IsNonDecreasingBy (λ e. ordering_index (option_cmp nat_cmp e.0.feeder feeder)) es
feeders-rise es c feeder s h =
    searchable_from_sorted (options_total nat_cmp_total) (λ (e : Scope × ℕ). e.0.feeder) es feeder (λ k d l m.
    let first = get_or es k d in
    let next = get_or es (k + 1) d in
    ap is_lt ((options_total nat_cmp_total).antisymm next.0.feeder first.0.feeder)
    ∙ not-below _ (by-feeder first.0 next.0.connecting next.0.feeder (h k d (omega arith) ∙ sym (h (k + 1) d m)) ∙ rises scope_cmp es k (k + 1) d s (omega arith) m))

pub place-found : (es : Places) (c : Connecting) (feeder : Option ℕ) (i : ℕ) (d : Scope × ℕ) → AreSorted es → All (λ e. e.0.connecting ≡ c) es → i < length es → option_cmp nat_cmp (get_or es i d).0.feeder feeder ≡ Equal → Some (get_or es i d).1 ≡ place_of es (scope c feeder)
place-found es c feeder i d s h l e =
    found scopes_total es (scope c feeder) i d s l (sym (by-feeder (get_or es i d).0 c feeder (h i d l)) ∙ e)

pub place-missed : (es : Places) (c : Connecting) (feeder : Option ℕ) (n : ℕ) → All (λ e. e.0.connecting ≡ c) es → IsPartitionPoint (λ e. option_cmp nat_cmp e.0.feeder feeder ≡ Less) (λ e. option_cmp nat_cmp e.0.feeder feeder ≡ Greater) es n → None ≡ place_of es (scope c feeder)
place-missed es c feeder n h parted =
    missed scopes_total es (scope c feeder) n
    (λ i d l k. sym (by-feeder (get_or es i d).0 c feeder (h i d l)) ∙ parted.0 i d (omega arith) k)
    (λ i d l k. sym (by-feeder (get_or es i d).0 c feeder (h i d l)) ∙ parted.1 i d k l)
