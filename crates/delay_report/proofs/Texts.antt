-- The texts of times and dates are ASCII.
use Rattle.std.proofs.Common.{ℕ, ◌+◌, ◌/◌, ◌%◌, ◌<◌, ◌^◌, [], ◌∷◌, ◌++◌, nat_lt, Result, Ok, Err, arith, rules, lit<}
use Rattle.std.proofs.lemmas.Bool.{cond_both}
use Rattle.std.proofs.lemmas.Fmt.{IsAscii-decimal}
use Rattle.std.proofs.lemmas.Str.{IsAscii-append}
use Rattle.std.proofs.lemmas.Str.Ascii.{IsAscii-nil, IsAscii-cons}
use Rattle.std.specs.Prelude.{decimal}
use Rattle.std.specs.Result.{MatchResult, IsOk}
use Rattle.std.specs.Str.{IsAscii}
use Rattle.delay_report.specs.Clocks.{two_digits, hours_text, clock, date_text}

two-ascii : (n : ℕ) → IsAscii (two_digits n)
two-ascii n = IsAscii-cons (48 + n / 10 % 10) ((48 + n % 10) ∷ []) (omega arith) (IsAscii-cons (48 + n % 10) [] (omega arith) IsAscii-nil)

hours-ascii : (hours : ℕ) → hours < 2 ^ 64 → IsAscii (hours_text hours)
hours-ascii hours h = cond_both (nat_lt hours 100) (two_digits hours) (decimal hours) IsAscii (λ _. two-ascii hours) (λ _. IsAscii-decimal hours h)

pub clock-ascii : (s : ℕ) → s < 2 ^ 32 → IsAscii (clock s)
unfolding clock
clock-ascii s h =
    IsAscii-append (hours_text (s / 3600)) (58 ∷ two_digits (s / 60 % 60) ++ (58 ∷ two_digits (s % 60))) (hours-ascii (s / 3600) (omega arith))
    (IsAscii-cons 58 (two_digits (s / 60 % 60) ++ (58 ∷ two_digits (s % 60))) (lit< tt)
    (IsAscii-append (two_digits (s / 60 % 60)) (58 ∷ two_digits (s % 60)) (two-ascii (s / 60 % 60)) (IsAscii-cons 58 (two_digits (s % 60)) (lit< tt) (two-ascii (s % 60)))))

pub date-ascii : (date : ℕ) → IsAscii (date_text date)
unfolding date_text
date-ascii date =
    IsAscii-append (two_digits (date / 1000000)) (two_digits (date / 10000) ++ (two_digits (date / 100) ++ two_digits date)) (two-ascii (date / 1000000))
    (IsAscii-append (two_digits (date / 10000)) (two_digits (date / 100) ++ two_digits date)
    (two-ascii (date / 10000)) (IsAscii-append (two_digits (date / 100)) (two_digits date) (two-ascii (date / 100)) (two-ascii date)))

-- a result that is an error only where a fact does not hold
pub ok-where : {A E : Type 0} (P : A → Type 0) (U : Type 0) (Q : E → Type 0) (r : Result A E) → U → MatchResult r P (λ e. (¬ U) × Q e) → IsOk r
ok-where P U Q (Ok a) u h = search rules
ok-where P U Q (Err e) u h = absurd (h.0 u)
