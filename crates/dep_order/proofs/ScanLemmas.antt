-- Departures as a scan comes to them, one after another.
use Rattle.dep_order.proofs.Words.{◌≡◌, ◌≢◌, ◌≤◌, ℕ, List, [], ◌∷◌, None, Some, refl, sym, ◌∙◌, ap, arith, nat_le, nat_tests, map, option_map_or, Leaving, Lists, AreKept, IsFirstPlace, departures_from, departures_in_order, entries_of, leaving_among, nobody, number_in, onwards_of}
use Rattle.std.proofs.Common.{filter}
use Rattle.dep_order.specs.Scanned.{IsStep}
use Rattle.dep_order.proofs.OrderLemmas.{before-time}
use Rattle.dep_order.proofs.SortedLemmas.{scan-first, scan-next}
use Rattle.dep_order.proofs.StoredLemmas.{distinct-keys}

-- those still to come from a number on
abbrev pub left_from : Lists → ℕ → List Leaving
left_from l n = map (leaving_among (entries_of l) (onwards_of l)) (option_map_or (departures_from (entries_of l)) (number_in n) [])

number-some : (n : ℕ) → n ≢ nobody → number_in n ≡ Some n
number-some n some = grind (arith, nat_tests, some)

pub left-none : (l : Lists) (n : ℕ) → n ≡ nobody → left_from l n ≡ []
left-none l n end = let e : number_in n ≡ None = grind (arith, nat_tests, end) in rw e refl

-- one further
pub left-step : (l : Lists) (n : ℕ) (leaving : Leaving) (b m : ℕ) → AreKept l → n ≢ nobody → IsStep l n leaving b m → left_from l n ≡ leaving ∷ left_from l m
left-step l n leaving b m k some s =
    let es = entries_of l in
    let f = leaving_among es (onwards_of l) in
    let next = scan-next es (distinct-keys es k.calls) n s.departure (number_in m) s.there s.ahead.first in
    rw (number-some n some) (ap (map f) next ∙ ap (λ (x : Leaving). x ∷ left_from l m) (sym s.leaving_is))

-- those from a time on
pub from-time : (l : Lists) (time b n : ℕ) → AreKept l → IsFirstPlace l (λ d. nat_le time d.time) b n → left_from l n ≡ map (leaving_among (entries_of l) (onwards_of l)) (filter (λ d. nat_le time d.time) (departures_in_order (entries_of l)))
from-time l time b n k x =
    let es = entries_of l in
    ap (map (leaving_among es (onwards_of l))) (scan-first es (distinct-keys es k.calls) (λ d. nat_le time d.time) (number_in n)
    (λ d e h j. let later = before-time d e j in let late : time ≤ d.time = grind (arith, nat_tests) in grind (arith, nat_tests)) x.first)
