-- What the workers of the crew answer.
use Rattle.std.specs.Prelude.{◌≡◌, ◌<◌, ◌≤◌, ℕ, ◌+◌, ◌%◌, ◌==◌, List, [], ◌∷◌, ◌++◌, length, slice_get, sum, cond, Bool, true, false, Some, None, Result, Ok, Err}
use Rattle.std.specs.declared.option.Option.{Option}
use mathlib.Core.List.{IsPrefix}
use Rattle.delay_model.specs.declared.messages.Message.{Message}
use Rattle.delay_report.specs.declared.replies.Reply.{Reply}
use Rattle.message_reader.specs.declared.bad_line.BadLine.{BadLine}
use Rattle.message_reader.specs.declared.resolve_queries.AskedQuery.{AskedQuery}
use Rattle.snapshot_board.specs.Knowledge.{Knowledge}
use Rattle.timetable.specs.TimetableState.{TimetableState}
use Rattle.query_crew.specs.declared.window_line.WindowLine.{WindowLine}
use Rattle.query_crew.specs.declared.window_line.WindowLine.TheVariants as shown
use Rattle.query_crew.specs.Posted.{IsAnswerAt}
use Rattle.query_crew.specs.Served.{shown_count}

-- the query by number, if the line is not bad
abbrev pub asked_in : Result AskedQuery BadLine → Option AskedQuery
asked_in (Ok asked) = Some asked
asked_in (Err b) = None

-- the query of the line, if it is one of a client of this worker
abbrev pub asked_of : ℕ → ℕ → WindowLine → Option AskedQuery
asked_of me workers (shown.Query q) = cond (sum q.client % workers == me) (asked_in q.asked) None
asked_of me workers (shown.Message w) = None
asked_of me workers shown.Flush = None
asked_of me workers (shown.Bad b) = None

-- what a worker has for a line: an answer if the line asks something, and else nothing
abbrev pub IsEntry : Option TimetableState → List Message → ℕ → ℕ → Option AskedQuery
    → Option Reply → Type 0
IsEntry o list least number None entry = entry ≡ None
IsEntry o list least number (Some asked) entry =
    (reply : Reply) × (entry ≡ Some reply) × IsAnswerAt o list least number asked reply

-- the same for what was answered last: in the timetable after the whole list, which begins with all
-- that was learnt
abbrev pub IsNewEntry : Option TimetableState → List Message → List Message → ℕ
    → Option AskedQuery → Option Reply → Type 0
IsNewEntry o learnt list number None entry = entry ≡ None
IsNewEntry o learnt list number (Some asked) entry =
    (reply : Reply) × (entry ≡ Some reply) × IsAnswerAt o list (length list) number asked reply
    × IsPrefix learnt list

-- what was answered stands behind these entries
abbrev pub IsPushed : {E : Type 0} → List (Option Reply) → Result (Option Reply) E
    → List (Option Reply) → Type 0
IsPushed xs (Ok entry) ys = ys ≡ xs ++ entry ∷ []
IsPushed xs (Err e) ys = ⊥

-- the counts that are shown do not fall
abbrev pub CountsRise : List (Option Reply) → Type 0
CountsRise xs =
    (i j : ℕ) (r s : Reply) (m n : ℕ) → i < j → slice_get xs i ≡ Some (Some r)
    → slice_get xs j ≡ Some (Some s) → shown_count r ≡ Some m → shown_count s ≡ Some n → m ≤ n

-- what a worker has for the first of these lines, of which `first` stand before the window: each
-- query of its clients has an answer over the list
pub record HasAnswered (o : Option TimetableState) (list : List Message)
    (least first me workers : ℕ) (lines : List WindowLine)
    (xs : List (Option Reply)) : Type 0 where
  pub each : (place : ℕ) (line : WindowLine) (entry : Option Reply)
      → slice_get lines place ≡ Some line → slice_get xs place ≡ Some entry
      → IsEntry o list least (first + (place + 1)) (asked_of me workers line) entry
  pub rise : CountsRise xs

-- a worker has an entry for each line
pub record HasAnsweredAll (o : Option TimetableState) (list : List Message)
    (least first me workers : ℕ) (lines : List WindowLine) (xs : List (Option Reply)) : Type 0 where
  pub answered : HasAnswered o list least first me workers lines xs
  pub all : length xs ≡ length lines

-- what a worker did that learnt the note, if it has a viewer: it answered all lines, over the list
-- that its viewer saw in the end, and no answer is older than the note
abbrev pub HasWorked : Option TimetableState → List Message → Option (Knowledge Message) → ℕ → ℕ → ℕ
    → List WindowLine → List (Option Reply) → Type 0
HasWorked o note None first me workers lines xs = Unit {0}
HasWorked o note (Some viewer) first me workers lines xs =
    HasAnsweredAll o viewer.seen (length note) first me workers lines xs

-- where it is told that a viewer is there and saw no more than was posted, this is so
abbrev pub IsWithin : Bool → Option (Knowledge Message) → List Message → Type 0
IsWithin false viewer posted = Unit {0}
IsWithin true None posted = ⊥
IsWithin true (Some viewer) posted = IsPrefix viewer.seen posted
