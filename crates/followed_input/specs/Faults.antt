-- Why following an input stops before its end.
use Rattle.std.specs.Prelude.{ℕ, nat_eq, if◌then◌else◌, Result, Ok, Err, Some}
use Rattle.std.specs.declared.option.Option.{Option}
use Rattle.mt_io.specs.Causes.{Faults, counted}
use Rattle.journal_replay.specs.declared.refusal.JournalRefusal.{JournalRefusal}
use Rattle.journal_replay.specs.declared.refusal.JournalRefusal.TheVariants.{Header, Line}
use Rattle.journal_replay.specs.declared.refusal.JournalRefusal.TheVariants as refusals
use Rattle.followed_input.specs.declared.fault.FollowFault.{FollowFault}
use Rattle.followed_input.specs.declared.fault.FollowFault.TheVariants.{Refused, ReadFault}
use Rattle.followed_input.specs.declared.fault.FollowFault.TheVariants.{OutOfMemory, TooLong}

-- why it stops where the journal is read no further for this
abbrev pub fault_of : JournalRefusal → FollowFault
fault_of Header = Refused Header
fault_of (Line line) = Refused (Line line)
fault_of refusals.OutOfMemory = OutOfMemory

-- what is answered at the end of an input of which so many lines were taken
abbrev pub ended : ℕ → Result (Unit {0}) FollowFault
ended lines = if nat_eq lines 0 then Err (Refused Header) else Ok tt

-- the faults of an input after it was followed with this result, by those before it: one more where
-- following stopped because a read failed, else the same
abbrev pub reads_failed : {T : Type 0} → Result T FollowFault → Faults → Option Faults
reads_failed (Ok value) before = Some before
reads_failed (Err (Refused why)) before = Some before
reads_failed (Err ReadFault) before = counted before
reads_failed (Err OutOfMemory) before = Some before
reads_failed (Err TooLong) before = Some before
