-- Calls as the timetable gives them, laid one after the other, and as the model has them.
use Rattle.call_lines.proofs.Words.{◌≡◌, ℕ, suc, ◌+◌, ◌-◌, ◌≤◌, List, ◌∷◌, Some, None, length, refl, ap, arith, map, length-map, length_push, slice_get-map, slice_get_read, NewCall}
use Rattle.call_lines.proofs.Words.{begin_run, end_run, new_calls, new_train, TableCall, last_label, report_of, table_call, table_calls, loaded_from, loaded_train, by_table, nat_tests}
use Rattle.call_lines.proofs.Words.{get-more, get-end, []}

-- what stands in a list with one more element
pub ruleset pushing = (get-more, get-end, length_push, slice_get_read, slice_get-map, length-map)

later-loaded : (count k : ℕ) (cs : List TableCall) → 1 ≤ k → count ≡ k + length cs → loaded_from count k cs ≡ end_run (table_calls k cs)
later-loaded count k (c ∷ d ∷ ds) l e = grind (arith, nat_tests, later-loaded count (k + 1) (d ∷ ds))
later-loaded count k cs l e = grind (arith, nat_tests, e)

-- the calls that are stored are those of the train
pub loaded-is : (cs : List TableCall) → loaded_from (length cs) 0 cs ≡ begin_run (end_run (table_calls 0 cs))
loaded-is (c ∷ d ∷ ds) = grind (arith, nat_tests, later-loaded (length (c ∷ d ∷ ds)) (0 + 1) (d ∷ ds))
loaded-is cs = grind arith

pub length-loaded : (count k : ℕ) (cs : List TableCall) → length (loaded_from count k cs) ≡ length cs
length-loaded count k [] = refl
length-loaded count k (c ∷ cs) = ap suc (length-loaded count (k + 1) cs)

extra-calls : (k : ℕ) (cs : List NewCall) → table_calls k (map by_table cs) ≡ new_calls k cs
extra-calls k [] = refl
extra-calls k (c ∷ cs) = ap (λ ds. table_call k (by_table c) ∷ ds) (extra-calls (k + 1) cs)

-- an extra train is one as the timetable would have it
pub extra-train : (day route : ℕ) (cs : List NewCall) → loaded_train day route (map by_table cs) ≡ new_train day route cs
extra-train day route cs = rw (length-map cs by_table, extra-calls 0 cs) refl

pub extra-length : (day route : ℕ) (cs : List NewCall) → length (new_train day route cs).calls ≡ length cs
extra-length day route cs = grind (arith, extra-train day route cs, loaded-is (map by_table cs), length-loaded (length (map by_table cs)) 0 (map by_table cs), length-map cs by_table)

pub loaded-report : (count k : ℕ) (cs : List TableCall) → report_of (loaded_from count k cs) ≡ None
loaded-report count k [] = refl
loaded-report count k (c ∷ cs) = grind (arith, loaded-report count (k + 1) cs)

pub last-loaded : (count k : ℕ) (cs : List TableCall) → 1 ≤ length cs → last_label (loaded_from count k cs) ≡ Some (k + (length cs - 1))
last-loaded count k (c ∷ d ∷ ds) l = grind (arith, last-loaded count (k + 1) (d ∷ ds))
last-loaded count k cs l = grind (arith, l)
