-- What the rows of `calendar.txt` and `calendar_dates.txt` keep: each is of one of the services, and dates are of the calendar.
use Rattle.gtfs_tables.proofs.Words.{◌≡◌, ℕ, ◌≤◌, List, [], Bool, true, Some, Ok, All, not, length, subst, arith, All-nil, All-push, All-weaker, AreDistinct, Column, ServiceId, Calendar, Dates, fault, number_in, names_with}
use Rattle.std.proofs.lemmas.Bool.Decides.{nat_tests}
use Rattle.std.proofs.lemmas.Int.{ints}
use Rattle.mt_base.specs.Civil.{IsCivil, is_civil}
use Rattle.mt_base.specs.declared.tables.CalendarRow.{CalendarRow}
use Rattle.feed_tables.specs.Lawful.{IsWeekly, IsException}
use Rattle.gtfs_tables.specs.declared.columns.Column.TheVariants.{Monday, Tuesday, Wednesday, Thursday, Friday, Saturday, Sunday}
use Rattle.gtfs_tables.specs.Calendar.{calendar_columns, calendar_of, calendar_step, days_of, has_service, with_service}
use Rattle.gtfs_tables.specs.CalendarDates.{calendar_dates_of, date_columns, date_step, with_date}
use Rattle.gtfs_tables.specs.declared.faults.Cause.TheVariants.{BadDate, DuplicateKey}
use Rattle.mt_base.specs.Texts.{date_of, eight_digits}
use Rattle.gtfs_tables.proofs.LawNames.{with-name}
use Rattle.gtfs_tables.proofs.LawSteps.{check-ok, ok-same, bind-ok, need-ok, table-keeps, tested}

civil : (date : ℕ) → is_civil date ≡ true → IsCivil date
civil date h = grind (arith, nat_tests, ints)

date-civil : (bytes : List ℕ) (date : ℕ) → date_of bytes ≡ Some date → IsCivil date
unfolding date_of
date-civil bytes date h = civil date (tested is_civil (eight_digits bytes) date h).1

-- the rows of `calendar.txt` are of the services, which are so many at least
pub record IsCalendar (least : ℕ) (s : Calendar) : Type 0 where
  pub rows : All (IsWeekly (length s.services)) s.rows
  pub names : AreDistinct s.services
  pub longer : least ≤ length s.services

-- there may be more services than there were
pub more-weekly : (services more : ℕ) (rows : List CalendarRow) → services ≤ more → All (IsWeekly services) rows → All (IsWeekly more) rows
more-weekly services more rows l h = All-weaker (IsWeekly services) (IsWeekly more) (λ row t. grind arith) rows h

service-added : (least row : ℕ) (name : List ℕ) (days : List Bool) (first last : ℕ) (s next : Calendar) → with_service row name days first last s ≡ Ok next → IsCivil first → IsCivil last → IsCalendar least s → IsCalendar least next
unfolding with_service
service-added least row name days first last s next h c d k =
    let new = with-name name s.services in
    let rows = more-weekly (length s.services) _ s.rows new.longer k.rows in
    let free = check-ok (fault row DuplicateKey) (not (has_service (number_in name s.services) s.rows)) _ next h in
    let weekly = All-push (IsWeekly _) s.rows _ rows (record { service = new.below; first = c; last = d }) in
    subst (IsCalendar least) (ok-same free.1) (record { rows = weekly; names = new.distinct k.names; longer = omega (arith, k.longer, new.longer) })

calendar-added : (least row : ℕ) (field : Column → List ℕ) (s next : Calendar) → calendar_step row field s ≡ Ok next → IsCalendar least s → IsCalendar least next
calendar-added least row field s next h k =
    let days = bind-ok (days_of row (field Monday) (field Tuesday) (field Wednesday) (field Thursday) (field Friday) (field Saturday) (field Sunday)) _ next h in
    let first = need-ok (fault row BadDate) _ _ next days.2 in
    let last = need-ok (fault row BadDate) _ _ next first.2 in
    service-added least row _ _ _ _ s next last.2 (date-civil _ _ first.1) (date-civil _ _ last.1) k

pub no-weekly : (names : List (List ℕ)) → AreDistinct names → IsCalendar (length names) (record { services = names; rows = [] })
no-weekly names h = record { rows = All-nil (IsWeekly (length names)); names = h; longer = omega arith }

pub calendar-keeps : (names : List (List ℕ)) (all : List (List (List ℕ))) (s : Calendar) → AreDistinct names → calendar_of names all ≡ Ok s → IsCalendar (length names) s
calendar-keeps names all s n h =
    table-keeps (IsCalendar (length names)) calendar_step (calendar-added (length names)) calendar_columns (record { services = names; rows = [] }) s all h (no-weekly names n)

-- the rows of `calendar_dates.txt` are of the services, which are so many at least
pub record AreDates (least : ℕ) (s : Dates) : Type 0 where
  pub rows : All (IsException (length s.services)) s.rows
  pub names : AreDistinct s.services
  pub longer : least ≤ length s.services

dates-added : (least row : ℕ) (field : Column → List ℕ) (s next : Dates) → date_step row field s ≡ Ok next → AreDates least s → AreDates least next
unfolding with_date
dates-added least row field s next h k =
    let more = length (names_with (field ServiceId) s.services) in
    let new = with-name (field ServiceId) s.services in
    let rows = All-weaker (IsException (length s.services)) (IsException more) (λ row t. record { service = omega (arith, t.service, new.longer); date = t.date }) s.rows k.rows in
    grind (arith, date-civil, new, rows, All-push (IsException more) s.rows)

pub no-dates : (names : List (List ℕ)) → AreDistinct names → AreDates (length names) (record { services = names; rows = [] })
no-dates names h = record { rows = All-nil (IsException (length names)); names = h; longer = omega arith }

pub dates-keep : (names : List (List ℕ)) (all : List (List (List ℕ))) (s : Dates) → AreDistinct names → calendar_dates_of names all ≡ Ok s → AreDates (length names) s
dates-keep names all s n h =
    table-keeps (AreDates (length names)) date_step (dates-added (length names)) date_columns (record { services = names; rows = [] }) s all h (no-dates names n)
