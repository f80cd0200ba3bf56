-- The calls of a trip by the first and the last of them.
use Rattle.gtfs_tables.proofs.Words.{◌≡◌, ◌≤◌, ◌+◌, ◌∷◌, [], ℕ, suc, arith, List, length, get_or, refl, CallTimes, check, fault, ◌>>=◌, last_call, is_timed, check_order, check_trip}
use Rattle.gtfs_tables.specs.declared.faults.Cause.TheVariants.{UntimedEnd}

-- the last call is at the last place
last_call_at : (call : CallTimes) (calls : List CallTimes) (d : CallTimes) → get_or (call ∷ calls) (length calls) d ≡ last_call call calls
last_call_at call [] d = refl
last_call_at call (next ∷ rest) d = last_call_at next rest d

-- a trip of more than one call, by its first and its last
pub check_trip-ends : (calls : List CallTimes) (d e : CallTimes) (last : ℕ) → 2 ≤ length calls → last + 1 ≡ length calls
    → check_trip calls ≡ (check (fault (get_or calls 0 d).row UntimedEnd) (is_timed (get_or calls 0 d)) >>= λ _. check (fault (get_or calls last e).row UntimedEnd) (is_timed (get_or calls last e)) >>= λ _. check_order 0 calls)
unfolding check_trip
check_trip-ends [] d e last many at = absurd (omega arith)
check_trip-ends (call ∷ []) d e last many at = absurd (omega arith)
check_trip-ends (call ∷ next ∷ rest) d e last many at =
    let place : last ≡ suc (length rest) = omega arith in
    rw (place, last_call_at next rest e) refl
