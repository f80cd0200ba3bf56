-- What the rows of `stop_times.txt` keep, each by itself: their trips and their stops are there, and no time is above 99:59:59.
use Rattle.gtfs_tables.proofs.Words.{◌≡◌, ℕ, List, Some, Ok, All, length, subst, arith, All-push, Platform, CallRow, StopRow, HasKind, IsCall, Column, BadNumber, UnknownReference, fault, time_of, number_of, number_from, Named, call_step}
use Rattle.gtfs_tables.specs.declared.faults.Cause.TheVariants.{BadTime}
use Rattle.gtfs_tables.specs.Fields.{number_or_zero}
use Rattle.gtfs_tables.specs.StopTimes.{Calls, call_of, stop_named, with_call}
use Rattle.gtfs_tables.proofs.LawKeptRows.{IsAlike, alike-more}
use Rattle.gtfs_tables.proofs.LawNames.{number-below}
use Rattle.gtfs_tables.proofs.LawSteps.{need-ok, ok-same}
use Rattle.gtfs_tables.proofs.LawStops.{platform-is}
use Rattle.gtfs_tables.proofs.LawTimes.{time-small}

stop-there : (stops : List StopRow) (id : List ℕ) (n : ℕ) → stop_named stops id ≡ Some n → HasKind stops Platform n
stop-there stops id n h = grind (arith, platform-is)

call-read : (named : Named) (row : ℕ) (trip arr dep stop seq pickup drop_off : List ℕ) (call : CallRow) → call_of named row trip arr dep stop seq pickup drop_off ≡ Ok call → IsCall named.stops (length named.trips) call
unfolding call_of
call-read named row trip arr dep stop seq pickup drop_off call h =
    let t = need-ok (fault row UnknownReference) (number_from 0 trip named.trips) _ call h in
    let a = need-ok (fault row BadTime) (time_of arr) _ call t.2 in
    let d = need-ok (fault row BadTime) (time_of dep) _ call a.2 in
    let p = need-ok (fault row UnknownReference) (stop_named named.stops stop) _ call d.2 in
    let s = need-ok (fault row BadNumber) (number_of seq) _ call p.2 in
    let u = need-ok (fault row BadNumber) (number_or_zero pickup) _ call s.2 in
    let o = need-ok (fault row BadNumber) (number_or_zero drop_off) _ call u.2 in
    let there = number-below trip named.trips t.0 t.1 in
    subst (IsCall named.stops (length named.trips)) (ok-same o.2) (record { trip = there; stop = stop-there named.stops stop p.0 p.1; arr = time-small arr a.0 a.1; dep = time-small dep d.0 d.1 })

-- what the rows so far made
pub record AreCalls (named : Named) (s : Calls) : Type 0 where
  pub alike : IsAlike s.rows s.by_key
  pub calls : All (IsCall named.stops (length named.trips)) s.rows

pub call-added : (named : Named) (row : ℕ) (field : Column → List ℕ) (s next : Calls) → call_step named row field s ≡ Ok next → AreCalls named s → AreCalls named next
unfolding with_call
call-added named row field s next h k = grind (arith, call-read named row, alike-more s.rows s.by_key row, All-push (IsCall named.stops (length named.trips)) s.rows)
