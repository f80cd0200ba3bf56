-- Faults: how often an object has failed, when it can, and what a failed call says.
use Rattle.std.specs.Prelude.{ℕ, ◌≡◌, ◌+◌, ◌-◌, ◌^◌, ◌≤◌, ◌<◌, min, Result, OnOk, OnErr, List, length, take, Some, None, IfSome}
use Rattle.std.specs.Io.KnownBytes.{Appends}
use Rattle.std.specs.declared.option.Option.{Option}

-- when an object can fail: at any call, at none, or, where bytes are written to it, once so many
-- were written
pub data CanFail : Type 0 where
  at_any_call : CanFail
  never : CanFail
  once_full : ℕ → CanFail

-- How often an object has failed, and when it can.
pub record Faults : Type 0 where
  pub count : ℕ
  pub can : CanFail

-- the faults of what can never fail
abbrev pub no_faults : Faults
no_faults = record { count = 0; can = never }

-- the faults of an object that has failed so often, and can at any call
abbrev pub failed_times : ℕ → Faults
failed_times n = record { count = n; can = at_any_call }

-- a count of 64 bits after one more: it stands still at its type's end
abbrev pub one_more : ℕ → ℕ
one_more n = min (n + 1) (2 ^ 64 - 1)

-- the faults after one more, of an object that can fail
abbrev pub counted_if : CanFail → ℕ → Option Faults
counted_if never count = None
counted_if at_any_call count = Some (record { count = one_more count; can = at_any_call })
counted_if (once_full room) count = Some (record { count = one_more count; can = once_full room })

-- the faults after one more. What can never fail has none
abbrev pub counted : Faults → Option Faults
counted before = counted_if before.can before.count

-- the count rose: it is greater than before, or stands at its type's end
abbrev pub Rose : Faults → Faults → Type 0
Rose before now = one_more before.count ≤ now.count

-- a call that answers well counts no fault, and one that answers that the object failed counts
-- exactly one
pub record HasCause {T E : Type 0} (before now : Faults) (result : Result T E) : Type 0 where
  pub answered : OnOk result (now ≡ before)
  pub failed : OnErr result (Some now ≡ counted before)

-- what can fail only once it is full has as many bytes as it can
abbrev pub IsFullBy : CanFail → List ℕ → Type 0
IsFullBy at_any_call held = Unit {0}
IsFullBy never held = Unit {0}
IsFullBy (once_full room) held = room ≤ length held

-- the same of an object with these faults, where it tells its bytes
abbrev pub IsFull : Faults → Option (List ℕ) → Type 0
IsFull faults written = IfSome written (IsFullBy faults.can)

-- known bytes grow by a front of bs, but not by all of it
abbrev pub AppendsPart : Option (List ℕ) → Option (List ℕ) → List ℕ → Type 0
AppendsPart old new bs = (k : ℕ) × (k < length bs) × Appends old new (take k bs)
