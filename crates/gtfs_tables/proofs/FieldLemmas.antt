-- Digits.
use Rattle.gtfs_tables.proofs.Words.{◌<◌, ◌≤◌, ◌+◌, ◌*◌, ◌^◌, ℕ, arith}
use Rattle.std.proofs.Math.Nat.{pow-le-pow_right}
use Rattle.std.proofs.lemmas.Grind.{pow_more}

-- eight digits spell no more than this
pub tens_small : (i : ℕ) → i < 9 → 10 ^ i ≤ 100000000
tens_small i small = pow-le-pow_right {n = 10} (omega arith) {i = i} {j = 8} (omega arith)

-- one digit more
pub one_more : (i n d : ℕ) → n < 10 ^ i → d < 10 → 10 * n + d < 10 ^ (i + 1)
one_more i n d small digit = let p = pow_more 10 i in omega arith
