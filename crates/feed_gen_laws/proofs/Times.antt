-- Times of day and small numbers are read as they were written.
use Rattle.feed_gen_laws.proofs.Words.{Some, ap, arith, clock, decimal, digits_after, le-leb, number_of, refl, time_of, ℕ, ◌+◌, ◌<◌, ◌≡◌}
use Rattle.std.proofs.lemmas.Fmt.{decimal_digit}
use Rattle.mt_base.specs.Texts.{digit}
use Rattle.feed_gen_laws.proofs.Clocks.{seconds-clock}

digit-is : (n : ℕ) → n < 10 → digit (48 + n) ≡ Some n
digit-is n small =
    rw (le-leb 48 (48 + n) (omega arith), le-leb (48 + n) 57 (omega arith)) (ap (λ m. Some m) (omega arith))

pub time-clock : (seconds : ℕ) → seconds < 360000 → time_of (clock seconds) ≡ Some (Some seconds)
unfolding clock
time-clock seconds small = rw (seconds-clock seconds small) refl

pub digit-number : (n : ℕ) → n < 10 → number_of (decimal n) ≡ Some n
unfolding digits_after
digit-number n small = rw (decimal_digit n small, digit-is n small) (ap (λ m. Some m) (omega arith))
