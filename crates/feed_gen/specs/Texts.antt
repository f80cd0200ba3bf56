-- Texts of times of day, and texts one behind the other.
use Rattle.std.specs.Prelude.{ℕ, zero, suc, ◌+◌, ◌/◌, ◌%◌, List, [], ◌∷◌, ◌++◌}

-- the last two digits of a number; 48 is `0`
abbrev pub two_digits : ℕ → List ℕ
two_digits n = (48 + n / 10 % 10) ∷ (48 + n % 10) ∷ []

-- `HH:MM:SS` of so many seconds, fewer than 100 hours; 58 is `:`
unfoldable pub clock : ℕ → List ℕ
clock seconds = two_digits (seconds / 3600) ++ (58 ∷ two_digits (seconds / 60 % 60)
    ++ (58 ∷ two_digits (seconds % 60)))

-- the texts of the numbers below a bound, one behind the other
unfoldable pub texts_below : (ℕ → List ℕ) → ℕ → List ℕ
texts_below text zero = []
texts_below text (suc n) = texts_below text n ++ text n
