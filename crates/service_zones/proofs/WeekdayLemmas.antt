-- The days of a month that fall on a weekday come every seven days.
use Rattle.std.proofs.Common.{◌≡◌, ℕ, zero, suc, ◌+◌, ◌-◌, ◌*◌, ◌%◌, ◌<◌, ◌≤◌, Bool, true, false, cond, nat_eq, List, [], ◌∷◌, length, slice_index, refl, inl, inr, arith}
use Rattle.std.proofs.lemmas.Bool.{cases_Bool}
use Rattle.std.proofs.lemmas.Bool.Decides.{nat_tests}
use Rattle.std.specs.List.{filter, range_with_len}

-- a test passes on the days that lie a number of weeks from one day
abbrev pub AreWeekly : (ℕ → Bool) → ℕ → Type 0
AreWeekly test day = (x : ℕ) → 1 ≤ x → test x ≡ nat_eq (x % 7) (day % 7)

-- the day is the one that comes so many weeks after the first days
pub at-week : (test : ℕ → Bool) (day : ℕ) → AreWeekly test day → (n first week : ℕ) → 1 ≤ first → day < first + n → 7 * week + first ≤ day → day < 7 * week + first + 7 → slice_index (filter test (range_with_len first n)) week ≡ day
at-week test day weekly zero first week low within least most = absurd (omega arith)
at-week test day weekly (suc n) first zero low within least most = elim (cases_Bool (test first)) [
  | inl hit ↦ rw hit (grind (arith, nat_tests, weekly first low))
  | inr miss ↦ rw miss (at-week test day weekly n (first + 1) zero (omega arith) (omega arith) (grind (arith, nat_tests, weekly first low)) (omega arith))
]
at-week test day weekly (suc n) first (suc week) low within least most = elim (cases_Bool (test first)) [
  | inl hit ↦ rw hit (at-week test day weekly n (first + 1) week (omega arith) (omega arith) (omega arith) (grind (arith, nat_tests, weekly first low)))
  | inr miss ↦ rw miss (at-week test day weekly n (first + 1) (suc week) (omega arith) (omega arith) (grind (arith, nat_tests, weekly first low)) (omega arith))
]

-- behind the last such day there is none
none-left : (test : ℕ → Bool) (day : ℕ) → AreWeekly test day → (n first : ℕ) → day < first → first + n ≤ day + 7 → length (filter test (range_with_len first n)) ≡ 0
none-left test day weekly zero first past last = refl
none-left test day weekly (suc n) first past last =
    let miss : test first ≡ false = grind (arith, nat_tests, weekly first (omega arith)) in
    rw miss (none-left test day weekly n (first + 1) (omega arith) (omega arith))

-- with the last such day there are so many
pub last-week : (test : ℕ → Bool) (day : ℕ) → AreWeekly test day → (n first week : ℕ) → 1 ≤ first → day < first + n → first + n ≤ day + 7 → 7 * week + first ≤ day → day < 7 * week + first + 7 → length (filter test (range_with_len first n)) ≡ suc week
last-week test day weekly zero first week low within last least most = absurd (omega arith)
last-week test day weekly (suc n) first zero low within last least most = elim (cases_Bool (test first)) [
  | inl hit ↦
      let here : first ≡ day = grind (arith, nat_tests, weekly first low) in
      rw hit (omega (arith, none-left test day weekly n (first + 1) (omega arith) (omega arith)))
  | inr miss ↦ rw miss (last-week test day weekly n (first + 1) zero (omega arith) (omega arith) (omega arith) (grind (arith, nat_tests, weekly first low)) (omega arith))
]
last-week test day weekly (suc n) first (suc week) low within last least most = elim (cases_Bool (test first)) [
  | inl hit ↦ rw hit (omega (arith, last-week test day weekly n (first + 1) week (omega arith) (omega arith) (omega arith) (omega arith) (grind (arith, nat_tests, weekly first low))))
  | inr miss ↦ rw miss (last-week test day weekly n (first + 1) (suc week) (omega arith) (omega arith) (omega arith) (grind (arith, nat_tests, weekly first low)) (omega arith))
]
