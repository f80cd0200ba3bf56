-- Why answering lines stops before its end, and what it then has done.
use Rattle.std.specs.Prelude.{ℕ, ◌≡◌, ◌<◌, ◌≤◌, List, length, Result, Ok, Err, Some, OnOk, IsErrOf}
use Rattle.std.specs.declared.option.Option.{Option}
use Rattle.std.specs.Io.KnownBytes.{Consumes}
use Rattle.mt_io.specs.Causes.{Faults, counted}
use Rattle.information_service.specs.declared.fault.LinesFault.{LinesFault}
use Rattle.information_service.specs.declared.fault.LinesFault.TheVariants.{ReadFault, WriteFault}
use Rattle.information_service.specs.declared.fault.LinesFault.TheVariants.{OutOfMemory, TooLong}

-- the faults of an input after a run with this result, by those before it: one more where the run
-- stopped because a read failed, else the same
abbrev pub reads_failed : {T : Type 0} → Result T LinesFault → Faults → Option Faults
reads_failed (Ok value) before = Some before
reads_failed (Err ReadFault) before = counted before
reads_failed (Err WriteFault) before = Some before
reads_failed (Err OutOfMemory) before = Some before
reads_failed (Err TooLong) before = Some before

-- the faults of an output after a run with this result, by those before it: one more where the run
-- stopped because a write failed, else the same
abbrev pub writes_failed : {T : Type 0} → Result T LinesFault → Faults → Option Faults
writes_failed (Ok value) before = Some before
writes_failed (Err ReadFault) before = Some before
writes_failed (Err WriteFault) before = counted before
writes_failed (Err OutOfMemory) before = Some before
writes_failed (Err TooLong) before = Some before

-- the fault is none of an input: no read failed, and no input is too long
abbrev pub IsNotOfInput : LinesFault → Type 0
IsNotOfInput ReadFault = ⊥
IsNotOfInput WriteFault = Unit {0}
IsNotOfInput OutOfMemory = Unit {0}
IsNotOfInput TooLong = ⊥

-- this holds where answering stopped because a read failed or the input is too long
abbrev pub WhereLinesStop : Type 0 → LinesFault → Type 0
WhereLinesStop holds ReadFault = holds
WhereLinesStop holds WriteFault = Unit {0}
WhereLinesStop holds OutOfMemory = Unit {0}
WhereLinesStop holds TooLong = holds

-- where the input tells its bytes, the number of those that were taken is one of these
abbrev pub Took : (ℕ → Type 0) → Option (List ℕ) → Option (List ℕ) → Type 0
Took Is left left_now = (bytes : List ℕ) × Consumes left left_now bytes × Is (length bytes)

-- as many bytes were taken as may be
abbrev pub TookAll : ℕ → Option (List ℕ) → Option (List ℕ) → Type 0
TookAll budget = Took (λ n. n ≡ budget)

-- no more bytes were taken than may be
abbrev pub TookAtMost : ℕ → Option (List ℕ) → Option (List ℕ) → Type 0
TookAtMost budget = Took (λ n. n ≤ budget)

-- fewer bytes were taken than may be
abbrev pub TookFewer : ℕ → Option (List ℕ) → Option (List ℕ) → Type 0
TookFewer budget = Took (λ n. n < budget)

-- what a run with this result counts of an input and an output: their faults, and the bytes that it
-- takes. The faults of the output are those before and after the run, and `Full` says that it is
-- full, if it can fail only then
pub record HasCounts {T : Type 0} (budget : ℕ) (run : Result T LinesFault)
    (left left_now : Option (List ℕ)) (read_faults read_faults_now : Faults)
    (write_faults write_faults_now : Faults) (Full : Type 0) : Type 0 where
  -- a fault of a read or a write is counted, and there is no other
  pub reads : Some read_faults_now ≡ reads_failed run read_faults
  pub writes : Some write_faults_now ≡ writes_failed run write_faults
  pub full : IsErrOf run WriteFault → Full
  -- no more bytes are taken than may be, and fewer where all went well or a read failed
  pub at_most : TookAtMost budget left left_now
  pub fewer : OnOk run (TookFewer budget left left_now)
  pub read_early : IsErrOf run ReadFault → TookFewer budget left left_now
  -- the input is too long where as many were taken as may be
  pub too_long : IsErrOf run TooLong → TookAll budget left left_now
