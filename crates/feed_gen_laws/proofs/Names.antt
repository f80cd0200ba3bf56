-- Names of numbers: each is found at its number.
use Rattle.feed_gen_laws.proofs.Words.{List, [], ◌∷◌, None, Some, ap, arith, cases_eq, decimal, false, inl, inr, map, number_from, range_with_len, refl, suc, sym, true, zero, ℕ, ◌+◌, ◌<◌, ◌≡◌, ◌≤◌}
use Rattle.std.proofs.Common.{◌≢◌}
use Rattle.std.proofs.lemmas.Fmt.{decimal_injective}
use Rattle.std.proofs.lemmas.Slice.Eq.{bytes_eq-Decides}
use Rattle.std.specs.Prelude.{bytes_eq}
use Rattle.feed_gen_laws.proofs.PlainTexts.{IsPlain, plain-append, plain-decimal}
use Rattle.feed_gen_laws.proofs.Rows.{numbers}

-- no two numbers below a bound have one name
abbrev pub AreApart : (ℕ → List ℕ) → ℕ → Type 0
AreApart name bound = (j k : ℕ) → j < bound → k < bound → name j ≡ name k → j ≡ k

-- a letter and a number
pub apart : (letter : ℕ) → AreApart (λ k. letter ∷ decimal k) 1000000
apart letter j k small below same = let e : decimal j ≡ decimal k = cc in decimal_injective j k (omega arith) (omega arith) e

pub plain-name : (letter k : ℕ) → IsPlain (letter ∷ []) → IsPlain (letter ∷ decimal k)
plain-name letter k plain = plain-append (letter ∷ []) (decimal k) plain (plain-decimal k)

module _ (name : ℕ → List ℕ) (bound : ℕ) (distinct : AreApart name bound) where
  other-name : (j k : ℕ) → j < bound → k < bound → j ≢ k → bytes_eq (name j) (name k) ≡ false
  other-name j k small below other = grind (arith, bytes_eq-Decides (name j) (name k), distinct j k small below)

  found-from : (at n k : ℕ) → at + n ≤ bound → at ≤ k → k < at + n → number_from at (name k) (map name (range_with_len at n)) ≡ Some k
  found-from at zero k fits from below = absurd (omega arith)
  found-from at (suc n) k fits from below = elim (cases_eq k at) [
    | inl same ↦ let e : bytes_eq (name k) (name at) ≡ true = grind (arith, bytes_eq-Decides (name k) (name at), same) in rw e (ap (λ m. Some m) (sym same))
    | inr other ↦ rw (other-name k at (omega arith) (omega arith) other) (found-from (at + 1) n k (omega arith) (omega (arith, other)) (omega arith))
  ]

  -- a name below the bound is found
  pub name-found : (n k : ℕ) → n ≤ bound → k < n → number_from 0 (name k) (map name (numbers n)) ≡ Some k
  name-found n k fits below = found-from 0 n k (omega arith) (omega arith) (omega arith)

  fresh-from : (at n k : ℕ) → at + n ≤ k → k < bound → number_from at (name k) (map name (range_with_len at n)) ≡ None
  fresh-from at zero k past small = refl
  fresh-from at (suc n) k past small =
      rw (other-name k at small (omega arith) (λ e. omega (arith, e))) (fresh-from (at + 1) n k (omega arith) small)

  -- the next name is new
  pub name-fresh : (k : ℕ) → k < bound → number_from 0 (name k) (map name (numbers k)) ≡ None
  name-fresh k small = fresh-from 0 k k (omega arith) small
