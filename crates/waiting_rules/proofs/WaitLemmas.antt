-- The wait from the first rule that fits.
use Rattle.waiting_rules.proofs.Words.{Bool, ◌||◌, ◌≡◌, ◌≤◌, ℕ, zero, suc, true, false, List, [], ◌∷◌, All, map, Option, Some, None, unwrap_or, slice_get, nat_lt, ◌&&◌, inl, inr, refl, sym, subst, ◌∙◌, ap, arith, list_any, position_or_len, option_map_or, cases_Bool, cases_lt, lt-ltb, false≢true, RuleRow, has_wait, makes_wait, is_for, station_in, some_waits, WaitTable}
use Rattle.std.proofs.Common.{max, fold}
use Rattle.std.specs.List.{find}
use Rattle.std.specs.Option.{option_map}
use Rattle.std.proofs.lemmas.Bool.{and_parts}
use Rattle.std.proofs.lemmas.List.Folds.{find_at}
use Rattle.std.proofs.lemmas.Option.{slice_get-map, slice_get_cases}
use Rattle.mt_base.specs.declared.tables.StopRow.{StopRow}
use Rattle.mt_base.specs.Places.{is_platform}
use Rattle.delay_model.specs.Changes.{station, station_by}
use Rattle.delay_model.specs.Waits.{wait}
use Rattle.waiting_rules.specs.Rules.{longest_wait}
use Rattle.waiting_rules.specs.WaitTable.{parent_station}

station-by : (a : ℕ) (row : Option StopRow) → option_map_or (station_by a) row a ≡ unwrap_or (unwrap_or (option_map parent_station row) None) a
station-by a None = refl
station-by a (Some row) = elim (cases_Bool (is_platform row.kind)) [ inl here ↦ rw here refl | inr other ↦ rw other refl ]

-- the station of a location is that by the parent stations
station-is : (stops : List StopRow) (a : ℕ) → station stops a ≡ station_in (map parent_station stops) a
station-is stops a =
    station-by a (slice_get stops a) ∙ ap (λ row. unwrap_or (unwrap_or row None) a) (sym (slice_get-map parent_station stops a))

-- the wait is that of the first rule that fits, by the station of the stop
wait-by : (stops : List StopRow) (rules : List RuleRow) (parents : List (Option ℕ)) (feeder route stop : ℕ) → map parent_station stops ≡ parents → option_map_or (λ (rule : RuleRow). rule.max_wait) (find (is_for feeder route stop (station_in parents stop)) rules) 0 ≡ wait stops rules feeder route stop
unfolding wait
wait-by stops rules parents feeder route stop e =
    ap (λ t. option_map_or (λ (rule : RuleRow). rule.max_wait) (find (is_for feeder route stop t) rules) 0) (sym (station-is stops stop ∙ ap (λ ps. station_in ps stop) e))

pub wait-first : (stops : List StopRow) (rules : List RuleRow) (parents : List (Option ℕ)) (feeder route stop n : ℕ) → map parent_station stops ≡ parents → n ≡ position_or_len (is_for feeder route stop (station_in parents stop)) rules → option_map_or (λ (rule : RuleRow). rule.max_wait) (slice_get rules n) 0 ≡ wait stops rules feeder route stop
wait-first stops rules parents feeder route stop n e first =
    ap (λ k. option_map_or (λ (rule : RuleRow). rule.max_wait) (slice_get rules k) 0) first
    ∙ ap (λ found. option_map_or (λ (rule : RuleRow). rule.max_wait) found 0) (sym (find_at (is_for feeder route stop (station_in parents stop)) rules))
    ∙ wait-by stops rules parents feeder route stop e

no-wait : (n : ℕ) → nat_lt 0 n ≡ false → n ≡ 0
no-wait n h = elim (cases_lt 0 n) [ inl more ↦ let one = lt-ltb 0 n more in absurd (cc) | inr none ↦ omega arith ]

waits-not : (w m more : Bool) → w ≡ true → m ≡ true → ((w && m) || more) ≡ false → ⊥
waits-not true true more h k e = false≢true (sym e)
waits-not true false more h k e = false≢true k
waits-not false m more h k e = false≢true h

none-fits : (feeder route stop station : ℕ) (rules : List RuleRow) → list_any (λ rule. has_wait rule && makes_wait route stop station rule) rules ≡ false → option_map_or (λ (rule : RuleRow). rule.max_wait) (find (is_for feeder route stop station) rules) 0 ≡ 0
none-fits feeder route stop station [] h = refl
none-fits feeder route stop station (x ∷ xs) h = elim (cases_Bool (is_for feeder route stop station x)) [
  | inl here ↦
      let makes : makes_wait route stop station x ≡ true = (and_parts _ _ here).1 in
      elim (cases_Bool (has_wait x)) [
        | inl waits ↦ absurd (waits-not (has_wait x) (makes_wait route stop station x) _ waits makes h)
        | inr short ↦ rw here (no-wait x.max_wait short)
      ]
  | inr other ↦
      elim (cases_Bool (has_wait x && makes_wait route stop station x)) [
        | inl waits ↦ let none = rw waits at h in absurd (cc)
        | inr apart ↦ let rest = rw apart at h in rw other (none-fits feeder route stop station xs rest)
      ]
]

-- where no rule with a wait above 0 fits, no train waits
pub wait-none : (table : WaitTable) (route stop : ℕ) → some_waits table route stop ≡ false → (feeder : ℕ) (stops : List StopRow) → map parent_station stops ≡ table.parents → wait stops table.rules feeder route stop ≡ 0
wait-none table route stop h feeder stops e =
    sym (wait-by stops table.rules table.parents feeder route stop e) ∙ none-fits feeder route stop (station_in table.parents stop) table.rules h

-- no wait is longer than that of a rule
pub wait-bound : (rules : List RuleRow) (n : ℕ) → All (λ (rule : RuleRow). rule.max_wait ≤ 86400) rules → option_map_or (λ (rule : RuleRow). rule.max_wait) (slice_get rules n) 0 ≤ 86400
wait-bound rules n h = elim (slice_get_cases rules n).1 [
  | inl found ↦ let at = h n found.0 found.1 in rw found.2 (subst (λ (rule : RuleRow). rule.max_wait ≤ 86400) found.3 at)
  | inr past ↦ rw past.1 (omega arith)
]

fold-least : (m : ℕ) (rules : List RuleRow) → m ≤ fold (λ longest (rule : RuleRow). max longest rule.max_wait) m rules
fold-least m [] = omega arith
fold-least m (x ∷ xs) = omega (arith, fold-least (max m x.max_wait) xs)

longest-from : (m : ℕ) (rules : List RuleRow) → All (λ (rule : RuleRow). rule.max_wait ≤ fold (λ longest (r : RuleRow). max longest r.max_wait) m rules) rules
longest-from m [] k d l = absurd (omega arith)
longest-from m (x ∷ xs) zero d l = omega (arith, fold-least (max m x.max_wait) xs)
longest-from m (x ∷ xs) (suc k) d l = longest-from (max m x.max_wait) xs k d (omega arith)

-- no rule has a wait above the longest
pub longest-is : (rules : List RuleRow) → All (λ (rule : RuleRow). rule.max_wait ≤ longest_wait rules) rules
longest-is = longest-from 0

longest-up_to : (n m : ℕ) (rules : List RuleRow) → m ≤ n → All (λ (rule : RuleRow). rule.max_wait ≤ n) rules → fold (λ longest (r : RuleRow). max longest r.max_wait) m rules ≤ n
longest-up_to n m [] l h = l
longest-up_to n m (x ∷ xs) l h = longest-up_to n (max m x.max_wait) xs (omega (arith, h 0 x (omega arith))) (λ k d j. h (suc k) d (omega arith))

-- the longest wait is at most what no rule exceeds
pub longest-small : (n : ℕ) (rules : List RuleRow) → All (λ (rule : RuleRow). rule.max_wait ≤ n) rules → longest_wait rules ≤ n
longest-small n rules = longest-up_to n 0 rules (omega arith)
