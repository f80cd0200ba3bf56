-- Departures that are passed over change nothing of what is known.
use Rattle.conn_scan.proofs.Words.{◌≡◌, inl, inr, ℕ, suc, ◌≤◌, ◌<◌, nat_eq, nat_lt, Bool, true, false, not, ◌&&◌, List, [], ◌∷◌, Option, Some, None, is_some, length, refl, sym, ◌∙◌, ap, subst, arith, All, All-tail, option_map, option_map_or, option_or, and_parts, cases_Bool, cases_lt, cond, cond-false, cond-true, eq-eqb, eqb-true, ne_eqb, ChangeTables, Query, Leaving, IsWithin, is_there_by, never}
use Rattle.std.proofs.lemmas.Bool.{le-ltb, lt-ltb}
use Rattle.std.proofs.lemmas.Bool.Decides.{nat_tests}
use Rattle.conn_scan.specs.declared.known.Ending.{Ending}
use Rattle.pareto_scan.specs.Levels.{first_open, level_at, opens, top_at, HasLevelRoom}
use Rattle.pareto_scan.specs.Bounds.{end_of}
use Rattle.pareto_scan.specs.Passed.{from_ridden, is_passed, is_quiet, HasRows}
use Rattle.pareto_scan.specs.Riders.{riding}
use Rattle.pareto_scan.specs.Ridden.{Ridden, below_of, boarding, departed, rider_at, rode, scanned, still_riding}
use Rattle.pareto_scan.specs.declared.bound.Bound.{Bound}
use Rattle.pareto_scan.specs.declared.level.Level.{Level}
use Rattle.pareto_scan.specs.declared.riders.Rider.{Rider}
use Rattle.pareto_scan.proofs.KeptEnds.{top-few}

-- ---- one departure, by what a scan has at hand

next-stays : (levels : List Level) (t n : ℕ) → nat_eq (top_at levels t (suc n)) (suc n) ≡ not (is_there_by (level_at levels (suc n)).best t)
next-stays levels t n = elim (cases_Bool (is_there_by (level_at levels (suc n)).best t)) [
  | inl there ↦ rw there (ne_eqb (top_at levels t n) (suc n) (λ same. let few = top-few levels t n in omega arith))
  | inr live ↦ rw live (eq-eqb (suc n) (suc n) refl)
]

top-stays : (levels : List Level) (t top n : ℕ) → suc n ≡ top → nat_eq (top_at levels t top) top ≡ not (is_there_by (level_at levels top).best t)
top-stays levels t top n next = subst (λ top. nat_eq (top_at levels t top) top ≡ not (is_there_by (level_at levels top).best t)) next (next-stays levels t n)

before-end : (best : Option Ending) (t : ℕ) → t < never → nat_lt t (end_of best) ≡ not (is_there_by best t)
before-end None t small = lt-ltb t 4294967295 (omega arith)
before-end (Some e) t small = grind (arith, nat_tests)

module _ (n : ℕ) (x : Leaving) (s : Ridden) where
  abbrev boards : Option Rider → Option Rider
  boards a = option_map (boarding x) (first_open s.levels x (below_of (suc n) a))

  some-or : (o : Option Rider) (r : Rider) → is_some (option_or o (Some r)) ≡ true
  some-or None r = refl
  some-or (Some c) r = refl

  nobody-by : (a : Option Rider) → not (is_some (option_or (boards a) (still_riding (suc n) a))) ≡ (not (is_some (still_riding (suc n) a)) && not (opens s.levels x n))
  nobody-by None = elim (cases_Bool (opens s.levels x n)) [
    | inl wide ↦ rw wide refl
    | inr shut ↦ rw shut refl
  ]
  nobody-by (Some r) = elim (cases_lt r.rides (suc n)) [
    | inl less ↦ rw (lt-ltb r.rides (suc n) less) (ap not (some-or (boards (Some r)) r))
    | inr past ↦
        let all : below_of (suc n) (Some r) ≡ suc n = omega arith in
        rw (le-ltb r.rides (suc n) past, all) (elim (cases_Bool (opens s.levels x n)) [
          | inl wide ↦ rw wide refl
          | inr shut ↦ rw shut refl
        ])
  ]

nobody : (top n : ℕ) → suc n ≡ top → (x : Leaving) (s : Ridden)
    → not (is_some (rider_at top x s)) ≡ (not (is_some (still_riding top (riding s.riders x.number))) && not (opens s.levels x n))
nobody top n next x s = subst
    (λ top. not (is_some (rider_at top x s)) ≡ (not (is_some (still_riding top (riding s.riders x.number))) && not (opens s.levels x n)))
    next (nobody-by n x s (riding s.riders x.number))

-- the test that a scan makes tells whether a departure is passed over
quiet-passed : (below : ℕ) (x : Leaving) (s : Ridden) (b : Bound) → suc below ≡ b.top → x.time < never
    → b.end ≡ end_of (level_at s.levels b.top).best → is_quiet b (level_at s.levels below).openings.times s.riders x ≡ is_passed b.top s x
quiet-passed below x s b next small ended =
    let before = ap (nat_lt x.time) ended ∙ before-end (level_at s.levels b.top).best x.time small ∙ sym (top-stays s.levels x.time b.top below next) in
    let alone = sym (nobody b.top below next x s) in
    λ i. before i && alone i

pub is-passed : (below : ℕ) (x : Leaving) (s : Ridden) (b : Bound) (times : List (Option ℕ)) (quiet : Bool) → suc below ≡ b.top → x.time < never
    → b.end ≡ end_of (level_at s.levels b.top).best → times ≡ (level_at s.levels below).openings.times → quiet ≡ is_quiet b times s.riders x → is_passed b.top s x ≡ quiet
is-passed below x s b times quiet next small ended opened is =
    sym (is ∙ ap (λ times. is_quiet b times s.riders x) opened ∙ quiet-passed below x s b next small ended)

-- ---- departures one after another

module _ (top : ℕ) (s : Ridden) where
  pub from-later : (x : Leaving) (xs : List Leaving) → is_passed top s x ≡ true → from_ridden top s (x ∷ xs) ≡ from_ridden top s xs
  from-later x xs passed = cond-true (is_passed top s x) (from_ridden top s xs) (x ∷ xs) passed

  pub from-here : (x : Leaving) (xs : List Leaving) → is_passed top s x ≡ false → from_ridden top s (x ∷ xs) ≡ x ∷ xs
  from-here x xs ridden = cond-false (is_passed top s x) (from_ridden top s xs) (x ∷ xs) ridden

  pub from-all : (P : Leaving → Type 0) (xs : List Leaving) → All P xs → All P (from_ridden top s xs)
  from-all P [] all = all
  from-all P (x ∷ xs) all = elim (cases_Bool (is_passed top s x)) [
    | inl passed ↦ subst (All P) (sym (from-later x xs passed)) (from-all P xs (All-tail P x xs all))
    | inr ridden ↦ subst (All P) (sym (from-here x xs ridden)) all
  ]

  pub from-few : (xs : List Leaving) → length (from_ridden top s xs) ≤ length xs
  from-few [] = omega arith
  from-few (x ∷ xs) = elim (cases_Bool (is_passed top s x)) [
    | inl passed ↦ subst (λ ys. length ys ≤ suc (length xs)) (sym (from-later x xs passed)) (let few = from-few xs in omega arith)
    | inr ridden ↦ subst (λ ys. length ys ≤ suc (length xs)) (sym (from-here x xs ridden)) (omega arith)
  ]

-- where nobody boards any more, all are passed over
none-aboard : (x : Leaving) (s : Ridden) (a : Option Rider) → not (is_some (option_or (option_map (boarding x) (first_open s.levels x (below_of 0 a))) (still_riding 0 a))) ≡ true
none-aboard x s None = refl
none-aboard x s (Some r) =
    let none : below_of 0 (Some r) ≡ 0 = omega arith in
    rw (le-ltb r.rides 0 (omega arith), none) refl

pub from-none : (s : Ridden) (xs : List Leaving) → from_ridden 0 s xs ≡ []
from-none s [] = refl
from-none s (x ∷ xs) = from-later 0 s x xs (none-aboard x s (riding s.riders x.number)) ∙ from-none s xs

-- there are rows for departures within what there is room for
pub rows-within : (stops numbers : ℕ) (s : Ridden) (xs : List Leaving) → All (IsWithin stops numbers) xs → All (HasLevelRoom stops) s.levels → numbers < length s.riders → All (HasRows s) xs
rows-within stops numbers s xs within room riders = λ i x l. record {
  number = omega (arith, (within i x l).number);
  stops = λ j v m. omega (arith, (within i x l).stop, (room j v m).times);
}

-- ---- a scan

module _ (t : ChangeTables) (q : Query) where
  scanned-none : (s : Ridden) (xs : List Leaving) → scanned t q 0 xs s ≡ s
  scanned-none s [] = refl
  scanned-none s (x ∷ xs) = refl

  same-left : (o : Option Rider) (x : Leaving) (s : Ridden) → not (is_some o) ≡ true → option_map_or (λ c. rode t q c x s) o s ≡ s
  same-left None x s none = refl
  same-left (Some c) x s none = absurd (Rattle.std.proofs.lemmas.Bool.both_ways true (sym none) refl)

  past-zero : (top : ℕ) (s : Ridden) (xs : List Leaving) (b : Bool) → nat_eq top 0 ≡ b → cond b s (scanned t q top xs s) ≡ scanned t q top xs s
  past-zero top s xs false some = refl
  past-zero top s xs true none = sym (subst (λ n. scanned t q n xs s ≡ s) (sym (eqb-true top 0 none)) (scanned-none s xs))

  one-passed : (top : ℕ) (s : Ridden) (x : Leaving) (xs : List Leaving) → is_passed top s x ≡ true → scanned t q top (x ∷ xs) s ≡ scanned t q top xs s
  one-passed top s x xs passed =
      let parts = and_parts (nat_eq (top_at s.levels x.time top) top) (not (is_some (rider_at top x s))) passed in
      let now : top_at s.levels x.time top ≡ top = eqb-true (top_at s.levels x.time top) top parts.0 in
      ap (λ n. cond (nat_eq n 0) s (scanned t q n xs (departed t q n x s))) now
      ∙ ap (λ r. cond (nat_eq top 0) s (scanned t q top xs r)) (same-left (rider_at top x s) x s parts.1)
      ∙ past-zero top s xs (nat_eq top 0) refl

  -- what is left once some are passed over makes of what is known what all of them make
  pub scanned-from : (top : ℕ) (s : Ridden) (xs : List Leaving) → scanned t q top (from_ridden top s xs) s ≡ scanned t q top xs s
  scanned-from top s [] = refl
  scanned-from top s (x ∷ xs) = elim (cases_Bool (is_passed top s x)) [
    | inl passed ↦ ap (λ ys. scanned t q top ys s) (from-later top s x xs passed) ∙ scanned-from top s xs ∙ sym (one-passed top s x xs passed)
    | inr ridden ↦ ap (λ ys. scanned t q top ys s) (from-here top s x xs ridden)
  ]
