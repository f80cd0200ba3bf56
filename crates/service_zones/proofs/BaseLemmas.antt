-- Bases where no day is too short or too long.
use Rattle.std.proofs.Common.{◌≡◌, ℕ, zero, suc, ◌+◌, ◌-◌, ◌*◌, ◌<◌, ◌≤◌, Bool, true, false, ◌||◌, int_lt, ℤ, pos, ◌+ℤ◌, ◌-ℤ◌, ◌≤ℤ◌, List, [], ◌∷◌, ◌++◌, length, map, get_or, nat_abs, None, refl, sym, ◌∙◌, ap, inl, inr, arith}
use Rattle.std.proofs.lemmas.Bool.{cases_Bool, cases_lt}
use Rattle.std.proofs.lemmas.Bool.Decides.{nat_tests}
use Rattle.std.proofs.lemmas.Int.{ints}
use Rattle.std.proofs.lemmas.List.{get_or-map, length-map, map-append}
use Rattle.std.proofs.lemmas.List.FromFn.{length-map-range_with_len, get_or-map-range_with_len, map-range_with_len_more}
use Rattle.std.specs.List.{find, range_with_len}
use Rattle.jiff_core.specs.Calendar.{IsBetween}
use Rattle.jiff_core.proofs.SignedLemmas.{signed_arith}
use Rattle.schedule_build.specs.Dates.{date_after}
use Rattle.service_zones.specs.Zones.{ZoneRules}
use Rattle.schedule_build.proofs.BaseLemmas.{past}
use Rattle.schedule_build.specs.Bases.{AreBases, base_at}
use Rattle.service_zones.specs.Bases.{west, base, bases, base_seconds, is_of_wrong_length, day_of_wrong_length}

-- where none is found, none passes the test
none-found : (test : ℕ → Bool) (n first : ℕ) → find test (range_with_len first n) ≡ None → (k : ℕ) → first ≤ k → k < first + n → test k ≡ false
none-found test zero first none k low high = absurd (omega arith)
none-found test (suc n) first none k low high = elim (cases_Bool (test first)) [
  | inl hit ↦ let found = rw hit at none in cc
  | inr miss ↦ elim (cases_lt first k) [
    | inl later ↦ none-found test n (first + 1) (rw miss at none) k (omega arith) (omega arith)
    | inr here ↦ let e : k ≡ first = omega arith in rw e miss
  ]
]

-- a step that is neither too short nor too long
even-step : (before after : ℤ) → (int_lt (after -ℤ before) (pos 79200) || int_lt (pos 93600) (after -ℤ before)) ≡ false → IsBetween (before +ℤ pos 79200) (before +ℤ pos 93600) after
even-step before after even = elim (cases_Bool (int_lt (after -ℤ before) (pos 79200))) [
  | inl short ↦ let wrong = rw short at even in cc
  | inr least ↦ let most = rw least at even in (omega (arith, signed_arith, least), omega (arith, signed_arith, most))
]

-- the base of one more day
pub one-more : (f : ℕ → ℤ) (found : List ℕ) (day n : ℕ) → map pos found ≡ map f (range_with_len 0 day) → pos n ≡ f day → map pos (found ++ n ∷ []) ≡ map f (range_with_len 0 (day + 1))
one-more f found day n so_far now = rw (map-append pos found (n ∷ []), so_far, now) (sym (map-range_with_len_more f 0 day day (omega arith)))

module _ (zone : ZoneRules) (first days : ℕ) (even : day_of_wrong_length zone first days ≡ None) where
  -- a base lies 22 to 26 hours after the one of the day before
  pub step : (day : ℕ) → suc day < days → IsBetween (base zone first day +ℤ pos 79200) (base zone first day +ℤ pos 93600) (base zone first (suc day))
  step day within =
      let back : suc day - 1 ≡ day = omega arith in
      let small = rw back at (none-found (is_of_wrong_length zone first) (days - 1) 1 even (suc day) (omega arith) (omega arith)) in
      even-step (base zone first day) (base zone first (suc day)) small

  -- so it is at least 22 hours a day, and at most 26
  pub between : (day : ℕ) → day < days → IsBetween (pos (79200 * day)) (pos (93600 * day)) (base zone first day)
  unfolding date_after
  between zero within = omega (arith, ints)
  between (suc day) within = let before = between day (omega arith) in let more = step day within in omega (arith, ints, before.0, before.1, more.0, more.1)

  -- the first base is 0, and there is none where there is no day
  at-first : (found : List ℕ) → length found ≡ days → (0 < days → pos (base_at found 0) ≡ base zone first 0) → base_at found 0 ≡ 0
  at-first found count same = elim (cases_lt 0 days) [
    | inl some ↦ let zero_is = between 0 some in omega (arith, ints, same some, zero_is.0, zero_is.1)
    | inr none ↦ past found 0 (omega (arith, count))
  ]

  -- what is found is as a schedule takes it
  pub are-bases : (found : List ℕ) → map pos found ≡ bases zone first days → AreBases days found
  are-bases found same =
      let count : length found ≡ days = sym (length-map found pos) ∙ ap length same ∙ length-map-range_with_len (base zone first) 0 days in
      let at = λ (day : ℕ) (within : day < days). sym (get_or-map pos found day 0 (pos 0) (omega (arith, count))) ∙ ap (λ (xs : List ℤ). get_or xs day (pos 0)) same ∙ get_or-map-range_with_len (base zone first) 0 days day day (pos 0) within (omega arith) in
      record {
        count = count;
        begin = at-first found count (at 0);
        least = λ day within. let e = at day (omega arith) in let f = at (suc day) within in let more = step day within in omega (arith, ints, e, f, more.0);
        most = λ day within. let e = at day (omega arith) in let f = at (suc day) within in let more = step day within in omega (arith, ints, e, f, more.1);
      }

-- numbers of seconds are those of the bases that they are
pub seconds-are : (found : List ℕ) (all : List ℤ) → map pos found ≡ all → found ≡ map nat_abs all
seconds-are found all same = rw (← same) (back found)
  where
    back : (xs : List ℕ) → xs ≡ map nat_abs (map pos xs)
    back [] = refl
    back (x ∷ xs) = ap (λ ys. x ∷ ys) (back xs)

-- whole numbers from 0 on are what they are as natural numbers
nats-back : (f : ℕ → ℤ) (at n : ℕ) → ((day : ℕ) → day < at + n → pos 0 ≤ℤ f day) → map pos (map nat_abs (map f (range_with_len at n))) ≡ map f (range_with_len at n)
nats-back f at zero h = refl
nats-back f at (suc n) h =
    let low = h at (omega arith) in
    let one : pos (nat_abs (f at)) ≡ f at = omega (arith, ints, low) in
    rw (one, nats-back f (at + 1) n (λ day l. h day (omega arith))) refl

pub seconds-back : (zone : ZoneRules) (first days : ℕ) → day_of_wrong_length zone first days ≡ None → map pos (base_seconds zone first days) ≡ bases zone first days
seconds-back zone first days none =
    nats-back (base zone first) 0 days (λ day l. let low = between zone first days none day (omega arith) in omega (arith, ints, low.0))
