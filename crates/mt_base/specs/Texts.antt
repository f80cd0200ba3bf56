-- Texts of digits, times of day and dates.
use Rattle.std.specs.Prelude.{ℕ, ◌+◌, ◌*◌, ◌-◌, ◌&&◌, ◌==◌, List, [], ◌∷◌, nat_lt, nat_le, length, if◌then◌else◌, Some, None, option_and_then}
use Rattle.std.specs.declared.option.Option.{Option}
use Rattle.mt_base.specs.Civil.{is_civil}

-- the number, if it is below the bound
abbrev pub below : ℕ → ℕ → Option ℕ
below bound n = if nat_lt n bound then Some n else None

-- a digit; 48 is `0`
abbrev pub digit : ℕ → Option ℕ
digit byte = if nat_le 48 byte && nat_le byte 57 then Some (byte - 48) else None

-- two digits
abbrev pub two : ℕ → ℕ → Option ℕ
two a b = option_and_then (λ tens. option_and_then (λ ones. Some (10 * tens + ones)) (digit b))
    (digit a)

-- `:MM:SS` behind the hours, in seconds, with minutes and seconds below 60; 58 is `:`
unfoldable pub clock : ℕ → List ℕ → Option ℕ
clock hours (x ∷ a ∷ b ∷ y ∷ c ∷ d ∷ []) =
    if (x == 58) && (y == 58) then option_and_then
    (λ m. option_and_then (λ s. Some (3600 * hours + 60 * m + s))
    (option_and_then (below 60) (two c d))) (option_and_then (below 60) (two a b)) else None
clock hours bytes = None

-- `H:MM:SS` or `HH:MM:SS`, in seconds
unfoldable pub seconds_of : List ℕ → Option ℕ
seconds_of [] = None
seconds_of (h ∷ []) = None
seconds_of (g ∷ h ∷ rest) = if length rest == 5 then option_and_then
    (λ hours. clock hours (h ∷ rest)) (digit g) else option_and_then (λ hours. clock hours rest)
    (two g h)

-- eight digits, as the number YYYYMMDD
unfoldable pub eight_digits : List ℕ → Option ℕ
eight_digits (a ∷ b ∷ c ∷ d ∷ e ∷ f ∷ g ∷ h ∷ []) =
    option_and_then (λ century. option_and_then (λ year.
    option_and_then (λ month. option_and_then (λ day.
    Some (1000000 * century + 10000 * year + 100 * month + day)) (two g h)) (two e f))
    (two c d)) (two a b)
eight_digits bytes = None

-- eight digits that name a civil date
unfoldable pub date_of : List ℕ → Option ℕ
date_of bytes = option_and_then (λ date. if is_civil date then Some date else None)
    (eight_digits bytes)
