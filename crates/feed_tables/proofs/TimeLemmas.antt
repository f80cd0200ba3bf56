-- How many rows of a trip have a time.
use Rattle.std.proofs.Common.{rules, ◌≡◌, ℕ, suc, ◌<◌, ◌≤◌, List, [], ◌∷◌, true, Option, None, Some, IsSome, length, refl, arith}
use Rattle.std.specs.List.{cons_option}
use Rattle.mt_base.specs.declared.tables.CallRow.{CallRow}
use Rattle.mt_base.specs.declared.tables.Tables.{Tables}
use Rattle.feed_tables.specs.Calls.{put, in_order, sequence, rows_of, has_calls, calls_of, both_times, times_of}
use Rattle.feed_tables.specs.Lawful.{last_row, IsTimed, HasTimedEnds, IsLawful}
use Rattle.feed_tables.proofs.OrderLemmas.{in_order-length}

one-more : {X : Type 0} (a : Option X) (xs : List X) → IsSome a → length (cons_option a xs) ≡ suc (length xs)
one-more None xs h = absurd (cc h)
one-more (Some x) xs h = refl

no-fewer : {X : Type 0} (a : Option X) (xs : List X) → length xs ≤ length (cons_option a xs)
no-fewer None xs = omega arith
no-fewer (Some x) xs = omega arith

times-put : (r : CallRow) (rs : List CallRow) → length (times_of (put sequence r rs)) ≡ length (times_of (r ∷ rs))
times-put r [] = refl
times-put r (s ∷ rs) = grind (arith, times-put r rs)

-- as many rows have a time in whichever order
pub times-ordered : (rows : List CallRow) → length (times_of (in_order sequence rows)) ≡ length (times_of rows)
times-ordered [] = refl
times-ordered (r ∷ rs) = grind (arith, times-put r (in_order sequence rs), times-ordered rs)

last-timed : (r : CallRow) (rs : List CallRow) → 1 ≤ length rs → IsTimed (last_row r rs) → 1 ≤ length (times_of rs)
last-timed r [] l h = absurd (omega (arith, l))
last-timed r (s ∷ []) l h = omega (arith, one-more (both_times s.arr s.dep) [] h)
last-timed r (s ∷ t ∷ rs) l h =
    omega (arith, last-timed s (t ∷ rs) (omega arith) h, no-fewer (both_times s.arr s.dep) (times_of (t ∷ rs)))

ends-timed : (rows : List CallRow) → HasTimedEnds rows → 0 < length rows → 2 ≤ length (times_of rows)
ends-timed [] h l = absurd (omega (arith, l))
ends-timed (r ∷ rs) h l = omega (arith, one-more (both_times r.arr r.dep) (times_of rs) h.1, last-timed r rs h.0 h.2)

-- two rows at least have a time, of a trip with calls in lawful tables
pub two-timed : (t : Tables) (trip : ℕ) → IsLawful t → has_calls t.calls trip ≡ true → 2 ≤ length (times_of (rows_of t.calls trip))
two-timed t trip h has =
    let some : 0 < length (rows_of t.calls trip) = search rules in
    let two = ends-timed (calls_of t.calls trip) (h.tripwise trip).ends (omega (arith, some, in_order-length sequence (rows_of t.calls trip))) in
    omega (arith, two, times-ordered (rows_of t.calls trip))
