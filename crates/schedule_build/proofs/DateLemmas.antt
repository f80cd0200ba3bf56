-- The dates that follow a civil date are civil, and their day numbers follow.
use Rattle.std.proofs.Common.{rules, ◌≡◌, ℕ, zero, suc, ◌+◌, ◌*◌, ◌≤◌, pos, ◌+ℤ◌, ◌∙◌, ap, arith, inl, inr}
use Rattle.jiff_core.proofs.SignedLemmas.{signed_arith}
use Rattle.std.proofs.lemmas.Bool.{cases_lt}
use Rattle.jiff_core.specs.Calendar.{days_from_civil, days_in_month}
use Rattle.jiff_core.proofs.DateLemmas.{days_from_civil-day, days_from_civil-next_month, days_from_civil-next_year}
use Rattle.jiff_core.proofs.CalendarLemmas.{days_in_month_bounds}
use Rattle.mt_base.specs.Civil.{IsCivil}
use Rattle.schedule_build.specs.Dates.{year_of, month_of, day_of, day_number, next_date, date_after}

-- what is left to show of a date's successor
pub record IsNext (date next : ℕ) : Type 0 where
  pub civil : IsCivil next
  pub number : day_number next ≡ day_number date +ℤ pos 1
  pub year : year_of next ≤ year_of date + 1

-- by the digits of the successor
next-by : (date next y m d : ℕ) → next_date date ≡ next → next ≡ y * 10000 + m * 100 + d → y ≤ 9999 → y ≤ year_of date + 1 → 1 ≤ m → m ≤ 12 → 1 ≤ d → d ≤ days_in_month (pos y) m
    → days_from_civil (pos y) m d ≡ day_number date +ℤ pos 1 → IsNext date (next_date date)
next-by date next y m d e all a b low high first last n =
    let short = days_in_month_bounds (pos y) m in
    let year : year_of next ≡ y = omega arith in
    let month : month_of next ≡ m = omega arith in
    let day : day_of next ≡ d = omega arith in
    rw e (record { civil = rw (year, month, day) (grind (arith, signed_arith)); number = rw (year, month, day) n; year = omega arith })

-- the date after a civil date is civil, and has the next day number
pub next-law : (date : ℕ) → IsCivil date → year_of date ≤ 9998 → IsNext date (next_date date)
next-law date h a =
    let y = year_of date in
    let m = month_of date in
    let d = day_of date in
    let month_low : 1 ≤ m = omega (arith, signed_arith, h.1.0) in
    let month_high : m ≤ 12 = omega (arith, signed_arith, h.1.1) in
    let day_low : 1 ≤ d = omega (arith, signed_arith, h.2.0) in
    let day_high : d ≤ days_in_month (pos y) m = omega (arith, signed_arith, h.2.1) in
    elim (cases_lt d (days_in_month (pos y) m)) [
      | inl l ↦
          let step = days_from_civil-day (pos y) m (d + 1) d (omega arith) (omega arith) in
          next-by date (date + 1) y m (d + 1) (search rules) (omega arith) (omega arith) (omega arith) month_low month_high (omega arith) (omega arith) (omega (arith, signed_arith, step))
      | inr l ↦
          let last : d ≡ days_in_month (pos y) m = omega arith in
          elim (cases_lt m 12) [
            | inl k ↦
                let short = days_in_month_bounds (pos y) (m + 1) in
                next-by date (y * 10000 + (m + 1) * 100 + 1) y (m + 1) 1 (search rules) (omega arith) (omega arith) (omega arith) (omega arith) (omega arith) (omega arith) (omega arith)
                (days_from_civil-next_month (pos y) m d month_low last)
            | inr k ↦
                let e : m ≡ 12 = omega arith in
                let end : d ≡ 31 = last ∙ ap (days_in_month (pos y)) e in
                let step = days_from_civil-next_year (pos y) (pos (y + 1)) (omega (arith, signed_arith)) (omega (arith, signed_arith)) in
                next-by date ((y + 1) * 10000 + 101) (y + 1) 1 1 (search rules) (omega arith) (omega arith) (omega arith) (omega arith) (omega arith) (omega arith) (omega arith) (rw (e, end) step)
          ]
    ]

-- what holds of the date so many days after a civil date
pub record IsAfter (first days : ℕ) : Type 0 where
  pub civil : IsCivil (date_after first days)
  pub number : day_number (date_after first days) ≡ day_number first +ℤ pos days
  pub year : year_of (date_after first days) ≤ year_of first + days

pub after-law : (first days : ℕ) → IsCivil first → year_of first + days ≤ 9999 → IsAfter first days
unfolding date_after
after-law first zero h a = record { civil = h; number = omega (arith, signed_arith); year = omega arith }
after-law first (suc days) h a =
    let b = after-law first days h (omega arith) in
    let n = next-law (date_after first days) b.civil (omega (arith, b.year)) in
    record { civil = n.civil; number = omega (arith, signed_arith, n.number, b.number); year = omega (arith, n.year, b.year) }
