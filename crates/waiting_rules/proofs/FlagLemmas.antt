-- Flags of locations, and the trains that wait.
use Rattle.waiting_rules.proofs.Words.{◌≡◌, ◌<◌, ℕ, zero, suc, Bool, true, false, List, [], ◌∷◌, ◌++◌, length, Option, Some, None, get_or, nat_eq, cond, ◌&&◌, ◌||◌, refl, sym, ◌∙◌, ap, arith, is_at, list_any, option_map_or, list_any-append, RuleRow, is_empty_or, Connecting, waits_among, has_wait, makes_wait, connecting_cmp, connecting_of, is_connecting, all_connecting, names_stop, flag_at, HasWaiting, in_waiting, station_in, some_waits}
use Rattle.std.proofs.Common.{is_none}
use Rattle.std.specs.BTreeSet.{BTreeSet}
use Rattle.waiting_rules.specs.Waiting.{names_none, AreFlags, HasFlags}
use Rattle.waiting_rules.specs.WaitTable.{may_wait}
use Rattle.waiting_rules.proofs.Anys.{any-swapped, any-either, none-weaker}
use Rattle.waiting_rules.proofs.FitLemmas.{six-connecting}
use Rattle.waiting_rules.proofs.Orders.{connecting_laws}

-- some of these trains wait where some rule with a wait above 0 is for them
some-wait : (rules : List RuleRow) (route stop station : ℕ) → list_any (λ (c : Connecting). list_any (λ rule. has_wait rule && is_connecting c rule) rules) (all_connecting route stop station) ≡ list_any (λ rule. has_wait rule && makes_wait route stop station rule) rules
some-wait rules route stop station =
    any-swapped has_wait is_connecting (all_connecting route stop station) rules
    ∙ ap (λ t. list_any t rules) (λ i rule. has_wait rule && six-connecting route stop station rule i)

-- some of the trains at a stop and its station wait where some rule with a wait above 0 fits
pub some-trains : (parents : List (Option ℕ)) (rules : List RuleRow) (route stop station : ℕ) (r : Bool) → station ≡ station_in parents stop → r ≡ list_any (waits_among rules) (all_connecting route stop station) → r ≡ some_waits (record { parents = parents; rules = rules }) route stop
some-trains parents rules route stop station r at is =
    is ∙ some-wait rules route stop station
    ∙ ap (λ t. list_any (λ rule. has_wait rule && makes_wait route stop t rule) rules) at

by-field : (w r : Bool) (field : Option ℕ) (stop station : ℕ) → (w && (r && (is_empty_or field stop || is_empty_or field station))) ≡ true → ((w && is_none field) || ((w && option_map_or (λ n. nat_eq n stop) field false) || (w && option_map_or (λ n. nat_eq n station) field false))) ≡ true
by-field false r field stop station h = cc
by-field true false field stop station h = cc
by-field true true None stop station h = refl
by-field true true (Some m) stop station h = h

either-none : (a b : Bool) → a ≡ false → b ≡ false → (a || b) ≡ false
either-none true b h k = cc
either-none false b h k = k

parts-none : (a b : Bool) → (a || b) ≡ false → (a ≡ false) × (b ≡ false)
parts-none true b h = absurd (cc)
parts-none false b h = (refl, h)

slice-none : (flags : List Bool) (stop : ℕ) → flag_at flags stop ≡ false → stop < length flags × ((d : Bool) → get_or flags stop d ≡ false)
slice-none [] stop h = absurd (cc)
slice-none (x ∷ xs) zero h = (omega arith, λ d. h)
slice-none (x ∷ xs) (suc stop) h = let rest = slice-none xs stop h in (omega (arith, rest.0), rest.1)

same-default : (named : List Bool) (stop : ℕ) → stop < length named → get_or named stop true ≡ false → get_or named stop false ≡ false
same-default [] stop l h = absurd (omega arith)
same-default (x ∷ xs) zero l h = h
same-default (x ∷ xs) (suc stop) l h = same-default xs stop (omega arith) h

or-end : (b : Bool) → b ≡ (b || false)
or-end true = refl
or-end false = refl

-- where the flags are those of the locations that rules name, or all are set, they tell where no train waits
flags-none : (parents : List (Option ℕ)) (rules : List RuleRow) (named flags : List Bool) → AreFlags parents named flags → ((stop : ℕ) → stop < length named → get_or named stop false ≡ (list_any names_none rules || list_any (names_stop stop) rules)) → (route stop : ℕ) → flag_at flags stop ≡ false → some_waits (record { parents = parents; rules = rules }) route stop ≡ false
flags-none parents rules named flags h is = λ route stop e.
    let here = slice-none flags stop e in
    let l : stop < length named = omega (arith, here.0, h.count) in
    let two = parts-none _ _ (sym (h.each stop l) ∙ here.1 true) in
    let at_station = slice-none named (station_in parents stop) two.1 in
    let first = parts-none _ _ (sym (is stop l) ∙ same-default named stop l two.0) in
    let second = parts-none _ _ (sym (is (station_in parents stop) at_station.0) ∙ at_station.1 false) in
    none-weaker (λ rule. has_wait rule && makes_wait route stop (station_in parents stop) rule) (λ rule. names_none rule || (names_stop stop rule || names_stop (station_in parents stop) rule))
    (λ rule. by-field (has_wait rule) (is_empty_or rule.connecting route) rule.stop stop (station_in parents stop)) rules
    (any-either names_none (λ rule. names_stop stop rule || names_stop (station_in parents stop) rule) rules
    ∙ either-none _ _ first.0 (any-either (names_stop stop) (names_stop (station_in parents stop)) rules ∙ either-none _ _ first.1 second.1))

by-both : (w : Bool) (field : Option ℕ) (stop station : ℕ) → (w && (is_empty_or field stop || is_empty_or field station)) ≡ ((w && is_none field) || ((w && option_map_or (λ n. nat_eq n stop) field false) || (w && option_map_or (λ n. nat_eq n station) field false)))
by-both false field stop station = refl
by-both true None stop station = refl
by-both true (Some m) stop station = refl

or-shared : (a b c : Bool) → ((a || b) || (a || c)) ≡ (a || (b || c))
or-shared true b c = refl
or-shared false b c = refl

at-flag : (flags : List Bool) (stop : ℕ) (d : Bool) → stop < length flags → flag_at flags stop ≡ get_or flags stop d
at-flag [] stop d l = absurd (omega arith)
at-flag (x ∷ xs) zero d l = refl
at-flag (x ∷ xs) (suc stop) d l = at-flag xs stop d (omega arith)

flags-some : (parents : List (Option ℕ)) (rules : List RuleRow) (named flags : List Bool) → AreFlags parents named flags → ((stop : ℕ) → stop < length named → get_or named stop false ≡ (list_any names_none rules || list_any (names_stop stop) rules)) → (stop : ℕ) → stop < length named → station_in parents stop < length named → flag_at flags stop ≡ may_wait (record { parents = parents; rules = rules }) stop
flags-some parents rules named flags h is = λ stop l k.
    let station = station_in parents stop in
    at-flag flags stop true (omega (arith, h.count)) ∙ h.each stop l
    ∙ (λ i. (sym (at-flag named stop true l) ∙ at-flag named stop false l ∙ is stop l) i || (at-flag named station false k ∙ is station k) i)
    ∙ or-shared (list_any names_none rules) (list_any (names_stop stop) rules) (list_any (names_stop station) rules)
    ∙ ap (λ b. list_any names_none rules || b) (sym (any-either (names_stop stop) (names_stop station) rules))
    ∙ sym (any-either names_none (λ rule. names_stop stop rule || names_stop station rule) rules)
    ∙ ap (λ t. list_any t rules) (λ i rule. sym (by-both (has_wait rule) rule.stop stop station) i)

pub flags-are : (parents : List (Option ℕ)) (rules : List RuleRow) (named flags : List Bool) → AreFlags parents named flags → length named ≡ length parents → ((stop : ℕ) → stop < length named → get_or named stop false ≡ (list_any names_none rules || list_any (names_stop stop) rules)) → HasFlags parents rules flags
flags-are parents rules named flags h count is = record {
  none = flags-none parents rules named flags h is;
  some = λ stop l k. flags-some parents rules named flags h is stop (omega (arith, count)) (omega (arith, count));
}

-- the trains of one more rule
pub waiting-more : (rules : List RuleRow) (rule : RuleRow) (old new : BTreeSet Connecting) → HasWaiting rules old → ((c : Connecting) → in_waiting new c ≡ (in_waiting old c || (has_wait rule && is_connecting c rule))) → HasWaiting (rules ++ rule ∷ []) new
waiting-more rules rule old new h more = λ c.
    more c ∙ ap (λ b. b || (has_wait rule && is_connecting c rule)) (h c)
    ∙ ap (λ b. list_any (λ r. has_wait r && is_connecting c r) rules || b) (or-end (has_wait rule && is_connecting c rule))
    ∙ sym (list_any-append (λ r. has_wait r && is_connecting c r) rules (rule ∷ []))

cond-or : (b o : Bool) → cond b true o ≡ (o || (true && b))
cond-or true true = refl
cond-or true false = refl
cond-or false true = refl
cond-or false false = refl

pub waiting-step : (rule : RuleRow) (before : Bool) (c : Connecting) → has_wait rule ≡ true → cond (is_at (connecting_cmp (connecting_of rule)) c) true before ≡ (before || (has_wait rule && is_connecting c rule))
waiting-step rule before c h =
    ap (λ b. cond b true before) (connecting_laws.symm (connecting_of rule) c) ∙ cond-or (is_connecting c rule) before ∙ ap (λ w. before || (w && is_connecting c rule)) (sym h)
