-- Zone texts: a profile of the rule form of the variable TZ (POSIX.1, Base Definitions, 8.3; hours
-- of a change from -167 to 167: RFC 8536, 3.3.1). A text is seen as its bytes. Each definition
-- reads one part at their front, and gives its value, where it has one, and the bytes behind it; it
-- is None where no such part stands there. A part takes as many bytes as it can: what comes behind
-- it begins with a byte that it cannot take, so there is one way to read a text.
use Rattle.std.specs.Prelude.{ℕ, ◌+◌, ◌-◌, ◌*◌, ◌==◌, min, ℤ, pos, neg_ℤ, ◌-ℤ◌, Bool, true, false, ◌||◌, ◌&&◌, nat_le, if◌then◌else◌, List, [], ◌∷◌, length, take, drop, Some, None, is_some}
use Rattle.std.specs.List.{take_while, fold}
use Rattle.std.specs.Option.{option_map_or}
use Rattle.std.specs.Char.{is_ascii_digit, is_ascii_alphabetic, is_ascii_alphanumeric}
use Rattle.std.specs.declared.option.Option.{Option}
use Rattle.service_zones.specs.declared.changes.Change.{Change}
use Rattle.service_zones.specs.declared.changes.SummerTime.{SummerTime}
use Rattle.service_zones.specs.Zones.{ZoneRules}

infixl 10 ◌>>=◌
-- the next part, unless there was none
abbrev pub ◌>>=◌ : {A B : Type 0} → Option A → (A → Option B) → Option B
None >>= next = None
(Some part) >>= next = next part

-- one byte that has to stand there. 44 is `,`, 46 is `.`, 47 is `/`, 58 is `:`, 62 is `>` and 77 is
-- `M`
unfoldable pub after : ℕ → List ℕ → Option (List ℕ)
after byte [] = None
after byte (first ∷ rest) = if first == byte then Some rest else None

-- ---- names

-- what may stand between `<` (60) and `>`: an ASCII letter, a digit, `+` (43) or `-` (45)
abbrev pub is_quotable : ℕ → Bool
is_quotable byte = is_ascii_alphanumeric byte || (byte == 43) || (byte == 45)

-- how many bytes pass a test, from the front on
abbrev pub run_of : (ℕ → Bool) → List ℕ → ℕ
run_of test bytes = length (take_while test bytes)

-- so many bytes, which have to be three or more
unfoldable pub after_run : ℕ → List ℕ → Option (List ℕ)
after_run run bytes = if nat_le 3 run then Some (drop run bytes) else None

-- three or more ASCII letters
unfoldable pub after_letters : List ℕ → Option (List ℕ)
after_letters bytes = after_run (run_of is_ascii_alphabetic bytes) bytes

-- three or more of the characters above, and `>`
unfoldable pub after_quoted : List ℕ → Option (List ℕ)
after_quoted bytes = after_run (run_of is_quotable bytes) bytes >>= after 62

-- a name: letters, or what stands between `<` and `>`
unfoldable pub after_name : List ℕ → Option (List ℕ)
after_name bytes = option_map_or after_quoted (after 60 bytes) (after_letters bytes)

-- ---- numbers

-- the number that digits spell; 48 is `0`
abbrev pub value_of : List ℕ → ℕ
value_of digits = fold (λ n digit. 10 * n + (digit - 48)) 0 digits

-- one to so many digits: as many as stand there, but no more
unfoldable pub number : ℕ → List ℕ → Option (ℕ × List ℕ)
number most bytes =
    let count = min most (run_of is_ascii_digit bytes) in
    if nat_le 1 count then Some (value_of (take count bytes), drop count bytes) else None

-- one to so many digits, with a value from the least to the greatest
unfoldable pub number_in : ℕ → ℕ → ℕ → List ℕ → Option (ℕ × List ℕ)
number_in most least greatest bytes =
    number most bytes >>= λ (n, rest).
    if nat_le least n && nat_le n greatest then Some (n, rest) else None

-- an optional `+` or `-`: whether it is `-`
unfoldable pub sign : List ℕ → Bool × List ℕ
sign [] = (false, [])
sign (first ∷ rest) =
    if first == 45 then (true, rest)
    else (if first == 43 then (false, rest) else (false, first ∷ rest))

abbrev pub signed : Bool → ℕ → ℤ
signed minus n = if minus then neg_ℤ (pos n) else pos n

-- ---- offsets, in seconds west of UTC

-- two digits from 00 to 59
unfoldable pub minutes : List ℕ → Option (ℕ × List ℕ)
minutes bytes =
    number_in 1 0 5 bytes >>= λ (tens, behind).
    number_in 1 0 9 behind >>= λ (ones, rest).
    Some (10 * tens + ones, rest)

-- the minutes behind `:`; none where no `:` stands there
unfoldable pub minutes_if_any : List ℕ → Option (ℕ × List ℕ)
minutes_if_any bytes = option_map_or minutes (after 58 bytes) (Some (0, bytes))

-- an optional sign, one or two digits of hours from 0 to 24, and minutes, if any
unfoldable pub offset : List ℕ → Option (ℤ × List ℕ)
offset bytes =
    number_in 2 0 24 (sign bytes).1 >>= λ (hours, behind).
    minutes_if_any behind >>= λ (minutes, rest).
    Some (signed (sign bytes).0 (3600 * hours + 60 * minutes), rest)

-- the offset of summer time; where a comma stands there, it is left out and one hour less than the
-- first
unfoldable pub summer_offset : ℤ → List ℕ → Option (ℤ × List ℕ)
summer_offset first bytes =
    if is_some (after 44 bytes) then Some (first -ℤ pos 3600, bytes) else offset bytes

-- ---- changes

-- an optional sign and one to three digits, from 0 to 167
unfoldable pub hours : List ℕ → Option (ℤ × List ℕ)
hours bytes =
    number_in 3 0 167 (sign bytes).1 >>= λ (n, rest).
    Some (signed (sign bytes).0 n, rest)

-- the hours behind `/`; 2 where no `/` stands there
unfoldable pub hours_if_any : List ℕ → Option (ℤ × List ℕ)
hours_if_any bytes = option_map_or hours (after 47 bytes) (Some (pos 2, bytes))

-- `Mm.w.d`, and hours, if any
unfoldable pub change : List ℕ → Option (Change × List ℕ)
change bytes =
    after 77 bytes >>= number_in 2 1 12 >>= λ (month, behind_month).
    after 46 behind_month >>= number_in 1 1 5 >>= λ (week, behind_week).
    after 46 behind_week >>= number_in 1 0 6 >>= λ (weekday, behind_weekday).
    hours_if_any behind_weekday >>= λ (hours, rest).
    Some (record { month = month; week = week; weekday = weekday; hours = hours }, rest)

-- ---- zones

-- a second name, its offset, a comma, the start, a comma and the end
unfoldable pub summer_time : ℤ → List ℕ → Option (SummerTime × List ℕ)
summer_time first bytes =
    after_name bytes >>= summer_offset first >>= λ (offset, behind_offset).
    after 44 behind_offset >>= change >>= λ (start, behind_start).
    after 44 behind_start >>= change >>= λ (end, rest).
    Some (record { offset = offset; start = start; end = end }, rest)

-- a name and an offset, and either nothing more, or summer time and nothing more
unfoldable pub zone_of : List ℕ → Option ZoneRules
zone_of bytes =
    after_name bytes >>= offset >>= λ (offset, rest).
    if length rest == 0 then Some (record { offset = offset; summer = None })
    else summer_time offset rest >>= λ (summer, left).
    if length left == 0 then Some (record { offset = offset; summer = Some summer }) else None
