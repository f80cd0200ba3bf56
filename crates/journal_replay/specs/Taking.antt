-- What is done with the lines of a journal by who takes its messages. In all of these `Stands` says
-- that one stands as a service in a state, after some messages.
use Rattle.std.specs.Prelude.{◌≡◌, ◌<◌, ◌^◌, ℕ, ◌+◌, List, [], ◌∷◌, ◌++◌, Bool, true, false, Result, Ok, Err, Some, None}
use Rattle.std.specs.declared.option.Option.{Option}
use Rattle.delay_model.specs.declared.messages.Message.{Message}
use Rattle.information_service.specs.ServiceState.{ServiceState}
use Rattle.message_reader.specs.declared.wire.Wire.{Wire}
use Rattle.journal_replay.specs.Reading.{JournalProgress, accepted_wire, after_wire, line_taken, refused}
use Rattle.journal_replay.specs.declared.refusal.JournalRefusal.{JournalRefusal}
use Rattle.journal_replay.specs.declared.refusal.JournalRefusal.TheVariants.{Header, Line, OutOfMemory}

-- ---- a message

-- it stands as a service in some state, and so many messages more can be counted
pub record IsReadyFor {T : Type 0} (Stands : T → ServiceState → List Message → Type 0)
    (taker : T) (more : ℕ) : Type 0 where
  pub service : ServiceState
  pub before : List Message
  pub stands : Stands taker service before
  pub room : service.count + more < 2 ^ 64

-- what became of one that stood so and was given a message, which is accepted as this one, if it
-- is: it took it, and stands as behind it; or it stands as before
abbrev pub IsWireTakenAs : {T : Type 0} → (T → ServiceState → List Message → Type 0) → ServiceState
    → List Message → Wire → T → Bool → Option Message → Type 0
IsWireTakenAs Stands s before w new taken None = (taken ≡ false) × Stands new s before
IsWireTakenAs Stands s before w new taken (Some m) =
    (taken ≡ true) × Stands new (after_wire s w) (before ++ m ∷ [])

-- the same, as the message is accepted there
abbrev pub IsWireTaken : {T : Type 0} → (T → ServiceState → List Message → Type 0) → ServiceState
    → List Message → Wire → T → Bool → Type 0
IsWireTaken Stands s before w new taken = IsWireTakenAs Stands s before w new taken (accepted_wire s w)

-- a service stands in its own state, after whatever messages
abbrev pub IsService : ServiceState → ServiceState → List Message → Type 0
IsService taker s before = s ≡ taker

-- ---- a line

-- the same of a line that is the line of this message, or of none
abbrev pub IsLineTaken : {T : Type 0} → (T → ServiceState → List Message → Type 0) → ServiceState
    → List Message → Option Wire → T → Bool → Type 0
IsLineTaken Stands s before None new taken = (taken ≡ false) × Stands new s before
IsLineTaken Stands s before (Some w) new taken = IsWireTaken Stands s before w new taken

-- so far the journal is read behind so many lines, before a line is taken
abbrev pub before_line : ℕ → ServiceState → List Message → JournalProgress
before_line lines s before =
    record { service = s; messages = before; lines = lines; held = []; refusal = None }

-- a line, which leads from the first of these to the second, was judged so
abbrev pub IsJudgedAs : {T : Type 0} → (T → ServiceState → List Message → Type 0) → JournalProgress
    → JournalProgress → T → Result (Unit {0}) JournalRefusal → Type 0
IsJudgedAs Stands p q new (Ok u) =
    (q.refusal ≡ None) × (q.lines ≡ p.lines + 1) × Stands new q.service q.messages
IsJudgedAs Stands p q new (Err Header) =
    (q ≡ refused Header p) × Stands new p.service p.messages
IsJudgedAs Stands p q new (Err (Line line)) =
    (q ≡ refused (Line line) p) × Stands new p.service p.messages
IsJudgedAs Stands p q new (Err OutOfMemory) = Stands new p.service p.messages

-- the same of this line with its end, behind so many lines
abbrev pub IsJudged : {T : Type 0} → (T → ServiceState → List Message → Type 0) → List ℕ → ℕ
    → ServiceState → List Message → List ℕ → T → Result (Unit {0}) JournalRefusal → Type 0
IsJudged Stands header lines s before ended new result =
    let p = before_line lines s before in
    IsJudgedAs Stands p (line_taken header ended p) new result
