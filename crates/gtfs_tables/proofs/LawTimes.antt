-- The times that a field gives are at most 99:59:59.
use Rattle.gtfs_tables.proofs.Words.{◌≡◌, ℕ, ◌+◌, ◌*◌, ◌<◌, ◌≤◌, ◌==◌, ◌&&◌, List, [], ◌∷◌, Bool, cond, Option, Some, None, IfSome, option_and_then, arith, time_of}
use Rattle.mt_base.specs.Texts.{below, digit, two, clock, seconds_of}

digit-small : (byte d : ℕ) → digit byte ≡ Some d → d ≤ 9
digit-small byte d h = grind arith

two-small : (a b n : ℕ) → two a b ≡ Some n → n ≤ 99
two-small a b n h = grind (arith, digit-small)

pub below-small : (bound : ℕ) (o : Option ℕ) (n : ℕ) → option_and_then (below bound) o ≡ Some n → n < bound
below-small bound o n h = grind arith

-- minutes and seconds behind the hours
joined-small : (hours n : ℕ) (good : Bool) (minutes seconds : Option ℕ) → hours ≤ 99 → cond good (option_and_then (λ m. option_and_then (λ s. Some (3600 * hours + 60 * m + s)) (option_and_then (below 60) seconds)) (option_and_then (below 60) minutes)) None ≡ Some n → n ≤ 359999
joined-small hours n good minutes seconds l h = grind arith

clock-small : (hours n : ℕ) (bytes : List ℕ) → hours ≤ 99 → clock hours bytes ≡ Some n → n ≤ 359999
unfolding clock
clock-small hours n (x ∷ a ∷ b ∷ y ∷ c ∷ d ∷ []) l h = joined-small hours n ((x == 58) && (y == 58)) (two a b) (two c d) l h
clock-small hours n bytes l h = absurd (cc h)

seconds-small : (bytes : List ℕ) (n : ℕ) → seconds_of bytes ≡ Some n → n ≤ 359999
unfolding seconds_of
seconds-small [] n h = absurd (cc h)
seconds-small (g ∷ []) n h = absurd (cc h)
seconds-small (g ∷ h ∷ rest) n e = grind (arith, digit-small g, two-small g h, λ (hours : ℕ). clock-small hours n (h ∷ rest), λ (hours : ℕ). clock-small hours n rest)

pub time-small : (bytes : List ℕ) (t : Option ℕ) → time_of bytes ≡ Some t → IfSome t (λ n. n ≤ 359999)
time-small [] t h = grind arith
time-small (byte ∷ bytes) t h = grind (arith, seconds-small (byte ∷ bytes))
