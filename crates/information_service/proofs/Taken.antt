-- What becomes of whoever holds a timetable by a message.
use Rattle.information_service.proofs.Words.{◌≡◌, ◌<◌, ◌+◌, ℕ, Option, Some, None, Result, Ok, Err, refl, arith, Message, Names, Refusal, Reply, refusal, Wire, resolved}
use Rattle.std.specs.Prelude.{◌^◌, IfErr, IfOk, OnOk}
use Rattle.schedule_build.specs.InStep.{AreInStep}
use Rattle.timetable.specs.TimetableState.{TimetableState, counted}
use Rattle.information_service.specs.ServiceState.{after_answer, after_message}
use Rattle.information_service.specs.Taking.{HasTaken, IsHeldAfter, IsStepped, IsTakenFrom, IsTimetable, service_with}
use Rattle.information_service.proofs.InStep.{stays-in_step}

-- below 2^64 - 1 messages are counted
pub counted-more : (n : ℕ) → n + 1 < 2 ^ 64 → counted n ≡ n + 1
counted-more n few = omega (arith, few)

-- ---- a timetable that takes messages where it stands, as a service

next-by : (t now : TimetableState) (names known : Names) (w : Wire) (m : Message) (o : Option Refusal) → t.count + 1 < 2 ^ 64 → IsHeldAfter IsStepped t now m o
    → known ≡ (after_answer (service_with t t.count names) w m o).names
    → service_with now now.count known ≡ after_answer (service_with t t.count names) w m o
next-by t now names known w m None few is e = rw (is, e, counted-more t.count few) refl
next-by t now names known w m (Some r) few is e = rw (is, e) refl

-- the service after the message
pub next-service : (t now : TimetableState) (names known : Names) (w : Wire) (read : Result Message Refusal) → t.count + 1 < 2 ^ 64 → HasTaken IsStepped t t now read
    → known ≡ (after_message (service_with t t.count names) w read).names
    → service_with now now.count known ≡ after_message (service_with t t.count names) w read
next-service t now names known w (Ok m) few is e = next-by t now names known w m (refusal t.network t.state m) few is e
next-service t now names known w (Err r) few is e = rw (is, e) refl

-- what stays of a timetable, and that its trains stay in step with the names
pub record IsReadyStill (t now : TimetableState) (known : Names) : Type 0 where
  pub network : now.network ≡ t.network
  pub numbers : now.numbers ≡ t.numbers
  pub in_step : AreInStep known now.state

ready-by : (t now : TimetableState) (names known : Names) (w : Wire) (m : Message) (o : Option Refusal) → AreInStep names t.state → resolved names w ≡ Ok m → IsHeldAfter IsStepped t now m o
    → known ≡ (after_answer (service_with t t.count names) w m o).names → IsReadyStill t now known
ready-by t now names known w m None h read is e =
    record { network = rw is refl; numbers = rw is refl; in_step = rw (is, e) (stays-in_step names t.state w m h read) }
ready-by t now names known w m (Some r) h read is e =
    record { network = rw is refl; numbers = rw is refl; in_step = rw (is, e) h }

pub ready-still : (t now : TimetableState) (names known : Names) (w : Wire) (read : Result Message Refusal) → AreInStep names t.state → resolved names w ≡ read → HasTaken IsStepped t t now read
    → known ≡ (after_message (service_with t t.count names) w read).names → IsReadyStill t now known
ready-still t now names known w (Ok m) h is taken e = ready-by t now names known w m (refusal t.network t.state m) h is taken e
ready-still t now names known w (Err r) h is same e =
    record { network = rw same refl; numbers = rw same refl; in_step = rw (same, e) h }

-- the same of a call that takes a message by names, or that finds no memory
pub ready-behind : {E : Type 0} (number : ℕ) (w : Wire) (t now : TimetableState) (names known : Names) (run : Result Reply E)
    → IfOk run (IsTakenFrom IsTimetable IsStepped number w t now names known) → IfErr run (λ _. now ≡ t) → IfErr run (λ _. known ≡ names)
    → AreInStep names t.state → IsReadyStill t now known
ready-behind number w t now names known (Ok reply) took same e h =
    let one = took t t.count (refl, refl) in
    ready-still t now names known w (resolved names w) h refl one.holder one.known
ready-behind number w t now names known (Err fault) took same e h =
    record { network = rw same refl; numbers = rw same refl; in_step = rw (same, e) h }

pub service-behind : {E : Type 0} (number : ℕ) (w : Wire) (t now : TimetableState) (names known : Names) (run : Result Reply E)
    → t.count + 1 < 2 ^ 64 → IfOk run (IsTakenFrom IsTimetable IsStepped number w t now names known)
    → OnOk run (service_with now now.count known ≡ after_message (service_with t t.count names) w (resolved names w))
service-behind number w t now names known (Ok reply) few took =
    let one = took t t.count (refl, refl) in
    next-service t now names known w (resolved names w) few one.holder one.known
service-behind number w t now names known (Err fault) few took = tt
