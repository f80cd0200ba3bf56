-- What the bytes of a field mean: numbers and times of day.
use Rattle.std.specs.Prelude.{ℕ, ◌+◌, ◌*◌, ◌&&◌, ◌==◌, List, [], ◌∷◌, Bool, true, nat_le, length, reverse, if◌then◌else◌, Some, None, option_and_then, option_map}
use Rattle.std.specs.declared.option.Option.{Option}
use Rattle.mt_base.specs.declared.places.PlaceKind.{PlaceKind}
use Rattle.mt_base.specs.declared.places.PlaceKind.TheVariants.{Platform, Station, Entrance, GenericNode, BoardingArea}
use Rattle.mt_base.specs.Texts.{digit, seconds_of}

-- a space or a tab
abbrev pub is_blank : ℕ → Bool
is_blank byte = if byte == 32 then true else byte == 9

-- the bytes from the first that is no blank
abbrev pub trim_start : List ℕ → List ℕ
trim_start [] = []
trim_start (byte ∷ bytes) = if is_blank byte then trim_start bytes else byte ∷ bytes

-- the bytes up to the last that is no blank
abbrev pub trim_end : List ℕ → List ℕ
trim_end bytes = reverse (trim_start (reverse bytes))

-- the bytes without the blanks at both ends
abbrev pub trimmed : List ℕ → List ℕ
trimmed bytes = trim_end (trim_start bytes)

-- the number that digits spell behind the digits of an earlier number
unfoldable pub digits_after : ℕ → List ℕ → Option ℕ
digits_after n [] = Some n
digits_after n (byte ∷ bytes) = option_and_then (λ d. digits_after (10 * n + d) bytes) (digit byte)

-- a number of one to nine digits
abbrev pub number_of : List ℕ → Option ℕ
number_of bytes = if nat_le 1 (length bytes) && nat_le (length bytes) 9 then digits_after 0 bytes
    else None

-- a number of one to nine digits, 0 where the field is empty
abbrev pub number_or_zero : List ℕ → Option ℕ
number_or_zero [] = Some 0
number_or_zero (byte ∷ bytes) = number_of (byte ∷ bytes)

-- one digit from the least to the most
unfoldable pub digit_within : ℕ → ℕ → List ℕ → Option ℕ
digit_within least most (byte ∷ []) =
    option_and_then (λ d. if nat_le least d && nat_le d most then Some d else None) (digit byte)
digit_within least most bytes = None

-- the kind of place that a digit stands for; 48 is `0`
abbrev pub kind_of_digit : ℕ → Option PlaceKind
kind_of_digit byte =
    if byte == 48 then Some Platform
    else (if byte == 49 then Some Station
    else (if byte == 50 then Some Entrance
    else (if byte == 51 then Some GenericNode
    else (if byte == 52 then Some BoardingArea
    else None))))

-- the kind of place that a `location_type` stands for: one digit from 0 to 4, and an empty field
-- for 0
abbrev pub location_kind : List ℕ → Option PlaceKind
location_kind [] = Some Platform
location_kind (byte ∷ []) = kind_of_digit byte
location_kind bytes = None

-- a time: no time where the field is empty, else the seconds of `H:MM:SS` or `HH:MM:SS`
abbrev pub time_of : List ℕ → Option (Option ℕ)
time_of [] = Some None
time_of (byte ∷ bytes) = option_map (λ seconds. Some seconds) (seconds_of (byte ∷ bytes))
