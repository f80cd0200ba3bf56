-- An input that was followed.
use Rattle.std.specs.Prelude.{◌≡◌, ◌≢◌, ◌<◌, ◌≤◌, ◌⊎◌, ℕ, List, length}
use Rattle.std.specs.Prelude.{Result, Ok, Err, None, Some}
use Rattle.std.specs.declared.option.Option.{Option}
use Rattle.std.specs.Io.KnownBytes.{Consumes, IsAtEnd}
use Rattle.delay_model.specs.declared.messages.Message.{Message}
use Rattle.journal_follower.specs.Boards.{StandsAs}
use Rattle.journal_follower.specs.Following.{FollowerState}
use Rattle.journal_replay.specs.ReaderStates.{BreaksOff, HasRead, ReaderState}
use Rattle.journal_replay.specs.declared.refusal.JournalRefusal.{JournalRefusal}
use Rattle.journal_replay.specs.declared.refusal.JournalRefusal.TheVariants.{Header}
use Rattle.journal_replay.specs.declared.refusal.JournalRefusal.TheVariants as refusals
use Rattle.timetable.specs.TimetableState.{TimetableState}
use Rattle.followed_input.specs.declared.fault.FollowFault.{FollowFault}
use Rattle.followed_input.specs.declared.fault.FollowFault.TheVariants.{Refused, ReadFault}
use Rattle.followed_input.specs.declared.fault.FollowFault.TheVariants.{OutOfMemory, TooLong}

-- In the first three, so many bytes of an input may be taken, so many were taken, this is left of
-- it, and the reader of its journal stands so.

-- the input is at its end, and nothing of it is refused
pub record HasEnded (budget taken : ℕ) (left_now : Option (List ℕ)) (reader : ReaderState)
    : Type 0 where
  -- no byte is left
  pub end : IsAtEnd left_now
  -- the reader refuses nothing
  pub not_refused : reader.refusal ≡ None
  -- fewer bytes were taken than may be: where all were, no end is read
  pub fewer : taken < budget

-- it has ended without a whole line, and is refused for this
pub record HasNoLine (budget taken : ℕ) (left_now : Option (List ℕ)) (reader : ReaderState)
    (why : JournalRefusal) : Type 0 where
  -- it has ended
  pub ended : HasEnded budget taken left_now reader
  -- no line was taken
  pub no_line : reader.lines ≡ 0
  -- which is a bad header
  pub header : why ≡ Header

-- so it is where this is answered: the input has ended, and a line of it was taken at least; the
-- reader refuses the journal for this, or there is no whole line; nothing is refused, and more
-- bytes could have been taken; or nothing is refused, and as many were taken as may be
abbrev pub IsAnswered : ℕ → ℕ → Option (List ℕ) → ReaderState → Result (Unit {0}) FollowFault
    → Type 0
IsAnswered budget taken left_now reader (Ok u) =
    HasEnded budget taken left_now reader × (0 < reader.lines)
IsAnswered budget taken left_now reader (Err (Refused why)) = (why ≢ refusals.OutOfMemory)
    × ((reader.refusal ≡ Some why) ⊎ HasNoLine budget taken left_now reader why)
IsAnswered budget taken left_now reader (Err ReadFault) =
    (reader.refusal ≡ None) × (taken < budget)
IsAnswered budget taken left_now reader (Err OutOfMemory) = Unit {0}
IsAnswered budget taken left_now reader (Err TooLong) =
    (reader.refusal ≡ None) × (taken ≡ budget)

-- an input of which so many bytes may be taken was followed with this result: the follower stood as
-- the first and stands as the second, this was left of the input and this is left now, and these
-- bytes were taken
pub record IsFollowed (o : Option TimetableState) (budget : ℕ)
    (old new : FollowerState (List Message)) (left left_now : Option (List ℕ)) (bytes : List ℕ)
    (result : Result (Unit {0}) FollowFault) : Type 0 where
  -- they were taken of the input
  pub taken : Consumes left left_now bytes
  -- they are no more than may be
  pub within : length bytes ≤ budget
  -- the follower stands behind them
  pub read : result ≢ Err OutOfMemory
      → HasRead (StandsAs o) old.board old.reader bytes new.board new.reader
  -- or, where there was no memory, behind a beginning of them
  pub memory : result ≡ Err OutOfMemory
      → BreaksOff (StandsAs o) old.board old.reader bytes new.board new.reader.lines
  -- so it is where this is answered
  pub answered : IsAnswered budget (length bytes) left_now new.reader result
