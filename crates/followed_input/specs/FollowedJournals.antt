-- A journal that an input holds, followed from its beginning.
use Rattle.std.specs.Prelude.{◌≡◌, ◌≢◌, ◌<◌, ◌≤◌, ◌⊎◌, ℕ, List, length}
use Rattle.std.specs.Prelude.{Result, Ok, Err, None, Some}
use Rattle.std.specs.declared.option.Option.{Option}
use Rattle.std.specs.Io.KnownBytes.{Consumes}
use Rattle.information_service.specs.Fronts.{EndWasRead}
use Rattle.information_service.specs.ServiceState.{ServiceState}
use Rattle.journal_replay.specs.Reading.{JournalProgress}
use Rattle.journal_replay.specs.Replayed.{refusal_at_end, replay_of}
use Rattle.journal_replay.specs.declared.refusal.JournalRefusal.{JournalRefusal}
use Rattle.journal_replay.specs.declared.refusal.JournalRefusal.TheVariants as refusals
use Rattle.schedule_build.specs.Directory.{Names}
use Rattle.timetable.specs.TimetableState.{TimetableState}
use Rattle.followed_input.specs.declared.fault.FollowFault.{FollowFault}
use Rattle.followed_input.specs.declared.fault.FollowFault.TheVariants.{Refused, ReadFault}
use Rattle.followed_input.specs.declared.fault.FollowFault.TheVariants.{OutOfMemory, TooLong}

-- the timetable and its names are those of a service in this state
pub record IsTimetableAt (s : ServiceState) (t : TimetableState) (names : Names) : Type 0 where
  pub network : t.network ≡ s.network
  pub state : t.state ≡ s.state
  pub names_are : names ≡ s.names

-- the journal is refused for this, of which these bytes were taken from an input and which is read
-- so far behind them: a line among them is refused; or it is refused at its end, where it also has
-- to have a whole line, and the end of the input was read
abbrev pub IsRefusedSoFar : ℕ → Option (List ℕ) → List ℕ → JournalProgress → JournalRefusal
    → Type 0
IsRefusedSoFar budget left_now bytes p why = (p.refusal ≡ Some why)
    ⊎ (EndWasRead budget left_now bytes × (refusal_at_end p ≡ Some why))

-- so it is where this is answered, of a journal of which these bytes were taken from an input, no
-- more than may be, and which is read so far behind them: the end of the input was read, nothing is
-- refused, and this is the timetable behind the journal; the journal is refused for this, which is
-- not want of memory; a read failed, nothing is refused, and more bytes could have been taken;
-- there was no memory; or nothing is refused, and as many bytes were taken as may be
abbrev pub IsAnsweredSoFar : ℕ → Option (List ℕ) → List ℕ → JournalProgress
    → Result (TimetableState × Names) FollowFault → Type 0
IsAnsweredSoFar budget left_now bytes p (Ok whole) = EndWasRead budget left_now bytes
    × (refusal_at_end p ≡ None) × IsTimetableAt p.service whole.0 whole.1
IsAnsweredSoFar budget left_now bytes p (Err (Refused why)) = (why ≢ refusals.OutOfMemory)
    × IsRefusedSoFar budget left_now bytes p why
IsAnsweredSoFar budget left_now bytes p (Err ReadFault) =
    (p.refusal ≡ None) × (length bytes < budget)
IsAnsweredSoFar budget left_now bytes p (Err OutOfMemory) = Unit {0}
IsAnsweredSoFar budget left_now bytes p (Err TooLong) =
    (p.refusal ≡ None) × (length bytes ≡ budget)

-- a journal with this header was followed from its beginning, of a service that began in this
-- state, with this result: this was left of the input and this is left now, and these bytes were
-- taken, no more than may be
pub record IsJournalFollowed (budget : ℕ) (header : List ℕ) (s : ServiceState)
    (left left_now : Option (List ℕ)) (bytes : List ℕ)
    (result : Result (TimetableState × Names) FollowFault) : Type 0 where
  -- they were taken of the input
  pub taken : Consumes left left_now bytes
  -- they are no more than may be
  pub within : length bytes ≤ budget
  -- so it is where this is answered
  pub answered : IsAnsweredSoFar budget left_now bytes (replay_of header s bytes) result
