-- Tests whether two numbers are one.
use Rattle.event_numbers.proofs.Words.{rules, ◌≡◌, ◌≢◌, ℕ, true, false, nat_eq, arith, nat_tests}

pub nat_eq-same : (a : ℕ) → nat_eq a a ≡ true
nat_eq-same a = search rules

pub nat_eq-apart : (a b : ℕ) → a ≢ b → nat_eq a b ≡ false
nat_eq-apart a b h = grind (arith, nat_tests)
