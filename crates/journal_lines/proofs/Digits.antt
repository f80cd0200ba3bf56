-- The texts of times and dates are ASCII.
use Rattle.std.proofs.Common.{ℕ, ◌+◌, ◌/◌, ◌%◌, ◌<◌, ◌≤◌, [], ◌∷◌, ◌++◌, Result, Ok, Err, arith, rules, lit<}
use Rattle.std.proofs.lemmas.Int.{ints}
use Rattle.std.proofs.lemmas.Str.{IsAscii-append}
use Rattle.std.proofs.lemmas.Str.Ascii.{IsAscii-nil, IsAscii-cons}
use Rattle.std.specs.Result.{MatchResult, IsOk}
use Rattle.std.specs.Str.{IsAscii}
use Rattle.mt_base.specs.Civil.{IsCivil}
use Rattle.message_reader.specs.Spelled.{two_digits, date_text, time_text}

two-ascii : (n : ℕ) → n < 100 → IsAscii (two_digits n)
two-ascii n few = IsAscii-cons (48 + n / 10) ((48 + n % 10) ∷ []) (omega arith) (IsAscii-cons (48 + n % 10) [] (omega arith) IsAscii-nil)

pub time-ascii : (s : ℕ) → s ≤ 359999 → IsAscii (time_text s)
unfolding time_text
time-ascii s small =
    IsAscii-append (two_digits (s / 3600)) (58 ∷ two_digits (s / 60 % 60) ++ (58 ∷ two_digits (s % 60))) (two-ascii (s / 3600) (omega arith))
    (IsAscii-cons 58 (two_digits (s / 60 % 60) ++ (58 ∷ two_digits (s % 60))) (lit< tt)
    (IsAscii-append (two_digits (s / 60 % 60)) (58 ∷ two_digits (s % 60)) (two-ascii (s / 60 % 60) (omega arith))
    (IsAscii-cons 58 (two_digits (s % 60)) (lit< tt) (two-ascii (s % 60) (omega arith)))))

pub date-ascii : (date : ℕ) → date < 100000000 → IsAscii (date_text date)
unfolding date_text
date-ascii date small =
    IsAscii-append (two_digits (date / 1000000)) (two_digits (date / 10000 % 100) ++ (two_digits (date / 100 % 100) ++ two_digits (date % 100)))
    (two-ascii (date / 1000000) (omega arith))
    (IsAscii-append (two_digits (date / 10000 % 100)) (two_digits (date / 100 % 100) ++ two_digits (date % 100)) (two-ascii (date / 10000 % 100) (omega arith))
    (IsAscii-append (two_digits (date / 100 % 100)) (two_digits (date % 100)) (two-ascii (date / 100 % 100) (omega arith)) (two-ascii (date % 100) (omega arith))))

-- a civil date has at most eight digits
pub civil-below : (date : ℕ) → IsCivil date → date < 100000000
civil-below date civil = omega (arith, ints)

-- a result that is an error only where a fact does not hold
pub ok-where : {A E : Type 0} (P : A → Type 0) (U : Type 0) (Q : E → Type 0) (r : Result A E) → U → MatchResult r P (λ e. (¬ U) × Q e) → IsOk r
ok-where P U Q (Ok a) u h = search rules
ok-where P U Q (Err e) u h = absurd (h.0 u)
