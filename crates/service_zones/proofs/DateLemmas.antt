-- The date of a change in a year.
use Rattle.std.proofs.Common.{◌≡◌, ℕ, suc, ◌+◌, ◌-◌, ◌*◌, ◌/◌, ◌%◌, ◌<◌, ◌≤◌, ◌⊎◌, true, false, nat_eq, ℤ, pos, length, slice_index, refl, sym, ◌∙◌, ap, inl, inr, arith}
use Rattle.std.proofs.lemmas.Bool.{cases_lt}
use Rattle.std.proofs.lemmas.Bool.Decides.{nat_tests}
use Rattle.std.specs.List.{filter, range_with_len}
use Rattle.jiff_core.specs.declared.civil.date.Date.{Date}
use Rattle.jiff_core.specs.Calendar.{days_from_civil, days_in_month, weekday_number}
use Rattle.jiff_core.specs.Date.{epoch_day, weekday_of, month_length, IsInWeek}
use Rattle.jiff_core.proofs.SignedLemmas.{signed_arith}
use Rattle.jiff_core.proofs.CalendarLemmas.{weekday_number_bound}
use Rattle.jiff_core.proofs.DateLemmas.{weekday_number-day}
use Rattle.service_zones.specs.declared.changes.Change.{Change}
use Rattle.service_zones.specs.Zones.{IsChange}
use Rattle.service_zones.specs.Changes.{is_on_weekday, weekdays, day_in}
use Rattle.service_zones.proofs.WeekdayLemmas.{AreWeekly, at-week, last-week}

-- a day that is not after another one falls on the weekday exactly where whole weeks lie between
before-weekly : (w x day weekday : ℕ) → w < 7 → weekday ≤ 6 → x ≤ day → (weekday + 6) % 7 ≡ (w + (day - x)) % 7 → nat_eq ((w + 1) % 7) weekday ≡ nat_eq (x % 7) (day % 7)
before-weekly w x day weekday small low order e = grind (arith, nat_tests)

-- and so does a later one
after-weekly : (w x day weekday : ℕ) → weekday ≤ 6 → day ≤ x → w ≡ ((weekday + 6) % 7 + (x - day)) % 7 → nat_eq ((w + 1) % 7) weekday ≡ nat_eq (x % 7) (day % 7)
after-weekly w x day weekday low order e = grind (arith, nat_tests)

weekly : (year : ℤ) (c : Change) (day : ℕ) → c.weekday ≤ 6 → 1 ≤ day → weekday_number (days_from_civil year c.month day) ≡ (c.weekday + 6) % 7 → AreWeekly (is_on_weekday year c) day
weekly year c day small low on x first = elim (cases_lt x day) [
  | inl before ↦ before-weekly _ x day c.weekday (weekday_number_bound (days_from_civil year c.month x)) small (omega arith) (sym on ∙ weekday_number-day year c.month x day first (omega arith))
  | inr after ↦ after-weekly _ x day c.weekday small after (rw on at (weekday_number-day year c.month day x low after))
]

-- the day lies in the week of the change
abbrev IsInItsWeek : ℤ → Change → ℕ → Type 0
IsInItsWeek year c day = ((c.week ≡ 5) × (days_in_month year c.month < day + 7)) ⊎ ((c.week < 5) × (7 * c.week < day + 7) × (day ≤ 7 * c.week))

-- the day of the month that falls on the weekday in that week
day-is : (year : ℤ) (c : Change) (day : ℕ) → IsChange c → 1 ≤ day → day ≤ days_in_month year c.month → weekday_number (days_from_civil year c.month day) ≡ (c.weekday + 6) % 7 → IsInItsWeek year c day → day_in year c ≡ day
unfolding day_in weekdays
day-is year c day h low high on (inl (last, end)) =
    let all = weekly year c day h.weekday_in low on in
    let week = (day - 1) / 7 in
    let days = filter (is_on_weekday year c) (range_with_len 1 (days_in_month year c.month)) in
    let test : nat_eq c.week 5 ≡ true = grind (arith, nat_tests) in
    let count : length days ≡ suc week = last-week (is_on_weekday year c) day all (days_in_month year c.month) 1 week (omega arith) (omega arith) (omega arith) (omega arith) (omega arith) in
    let back : length days - 1 ≡ week = omega (arith, count) in
    rw (test, back) (at-week (is_on_weekday year c) day all (days_in_month year c.month) 1 week (omega arith) (omega arith) (omega arith) (omega arith))
day-is year c day h low high on (inr (other, least, most)) =
    let all = weekly year c day h.weekday_in low on in
    let test : nat_eq c.week 5 ≡ false = grind (arith, nat_tests) in
    rw test (at-week (is_on_weekday year c) day all (days_in_month year c.month) 1 (c.week - 1) (omega arith) (omega arith) (omega (arith, h.week_in)) (omega (arith, h.week_in)))

-- the last such date of the month is that of a change whose week is 5
pub last-date : (year : ℤ) (c : Change) (date : Date) → IsChange c → c.week ≡ 5 → date.year ≡ year → date.month ≡ c.month → weekday_of date ≡ (c.weekday + 6) % 7 → IsInWeek 1 (pos (month_length date + 1 - date.day))
    → epoch_day date ≡ days_from_civil year c.month (day_in year c)
last-date year c date h last y m on week =
    let weekday = rw (y, m) at on in
    let near = rw (y, m) at week in
    let inside = date.day_in in
    let in_month = rw (y, m) at inside in
    let is = day-is year c date.day h in_month.0 in_month.1 weekday (inl (last, omega (arith, signed_arith, near.0, in_month.1))) in
    rw (y, m, is) refl

-- the date in a week from the beginning of the month is that of a change with this week
pub nth-date : (year : ℤ) (c : Change) (date : Date) → IsChange c → c.week < 5 → date.year ≡ year → date.month ≡ c.month → weekday_of date ≡ (c.weekday + 6) % 7 → IsInWeek c.week (pos date.day)
    → epoch_day date ≡ days_from_civil year c.month (day_in year c)
nth-date year c date h early y m on week =
    let weekday = rw (y, m) at on in
    let inside = date.day_in in
    let in_month = rw (y, m) at inside in
    let is = day-is year c date.day h in_month.0 in_month.1 weekday (inr (early, omega (arith, signed_arith, week.0), omega (arith, signed_arith, week.1))) in
    rw (y, m, is) refl
