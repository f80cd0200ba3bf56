-- What was taken from the input, and what of its output is written.
use Rattle.std.specs.Prelude.{ℕ, ◌≡◌, ◌<◌, ◌⊎◌, ◌++◌, List, [], length, true, false}
use Rattle.std.specs.declared.option.Option.{Option}
use Rattle.std.specs.Io.KnownBytes.{Appends, Consumes, IsAtEnd}
use Rattle.delay_model.specs.declared.network.Network.{Network}
use Rattle.delay_model.specs.declared.state.State.{State}
use Rattle.mt_io.specs.Lines.{Line, lines_of}
use Rattle.mt_io.specs.Reader.{Reader, IsWithinBudget}
use Rattle.mt_io.specs.Runs.{HasAnswered}
use Rattle.schedule_build.specs.Directory.{Names}
use Rattle.information_service.specs.Answering.{Answering, AreAnsweredBy, AreFirstAnswers}
use Rattle.information_service.specs.Output.{AreReplies, IsOutput}
use Rattle.information_service.specs.ServiceState.{ServiceState}

-- bytes of which this holds were written
pub record AppendsAll (Is : List ℕ → Type 0) (old new : Option (List ℕ)) : Type 0 where
  pub shown : List ℕ
  pub is : Is shown
  pub written : Appends old new shown

-- a front of these bytes was written: all of them, a part, or none. Where a write has `Failed`, it
-- was not all of them
pub record AppendsFront (Failed : Type 0) (old new : Option (List ℕ))
    (bytes : List ℕ) : Type 0 where
  pub front : List ℕ
  pub rest : List ℕ
  pub written : Appends old new front
  pub all : front ++ rest ≡ bytes
  pub not_all : Failed → 0 < length rest

-- of these bytes a front was written, and the rest is gathered
pub record Gathers (old new : Option (List ℕ)) (bytes gathered : List ℕ) : Type 0 where
  pub front : List ℕ
  pub written : Appends old new front
  pub all : bytes ≡ front ++ gathered

-- a front of replies to the first of these lines was written, however the later ones would be
-- answered. `Are` says which bytes are replies to lines that begin an input
pub record AppendsFirst (Failed : Type 0) (Are : List Line → List ℕ → Type 0) (lines : List Line)
    (old new : Option (List ℕ)) : Type 0 where
  pub first : List Line
  pub later : List Line
  pub shown : List ℕ
  pub split : first ++ later ≡ lines
  pub is : Are first shown
  pub front : AppendsFront Failed old new shown

-- a front of a whole output of these lines was written: of the replies to the first of them, or of
-- all of it. `IsWhole` says which bytes are a whole output
abbrev pub AppendsWholeFront : Type 0 → (List Line → List ℕ → Type 0)
    → (List Line → List ℕ → Type 0) → List Line → Option (List ℕ) → Option (List ℕ) → Type 0
AppendsWholeFront Failed IsWhole Are lines old new = AppendsFirst Failed Are lines old new
    ⊎ ((all : List ℕ) × IsWhole lines all × AppendsFront Failed old new all)

-- the end of an input was read: nothing is left of it, and fewer bytes were taken than may be
pub record EndWasRead (budget : ℕ) (left_now : Option (List ℕ)) (bytes : List ℕ) : Type 0 where
  pub left : IsAtEnd left_now
  pub fewer : length bytes < budget

-- a front was written of what is to be written for the bytes that were taken from an input: of the
-- replies to the first of the lines that are whole among them; or, where the end of the input was
-- read, of the replies to the first of all their lines, or of a whole output
pub record AppendsTakenFront (Failed : Type 0) (IsWhole Are : List Line → List ℕ → Type 0)
    (budget : ℕ) (left left_now written written_now : Option (List ℕ)) : Type 0 where
  pub bytes : List ℕ
  pub took : Consumes left left_now bytes
  pub front : AppendsFirst Failed Are (lines_of false bytes) written written_now
      ⊎ (EndWasRead budget left_now bytes
      × AppendsWholeFront Failed IsWhole Are (lines_of true bytes) written written_now)

-- replies to these lines, which begin an input, were written
abbrev pub AppendsReplies : Network → Names → State → List Line → Option (List ℕ)
    → Option (List ℕ) → Type 0
AppendsReplies nw names st lines = AppendsAll (AreReplies nw names st [] lines)

-- an output of these lines was written
abbrev pub AppendsOutput : Network → Names → State → List Line → Option (List ℕ)
    → Option (List ℕ) → Type 0
AppendsOutput nw names st lines = AppendsAll (IsOutput nw names st lines)

-- a front was written of an output for the bytes that were taken: of the replies to the first of
-- the lines, or, at the end of the input, of all replies and the table. Every query has an answer,
-- so the first replies too begin an output of all lines
abbrev pub AppendsOutputFront : Type 0 → Network → Names → State → ℕ → Option (List ℕ)
    → Option (List ℕ) → Option (List ℕ) → Option (List ℕ) → Type 0
AppendsOutputFront Failed nw names st =
    AppendsTakenFront Failed (IsOutput nw names st) (AreReplies nw names st [])

-- these bytes were taken from the input, no more than may be, and these are the lines of them that
-- were read
pub record IsTaken (r : Reader) (left left_now : Option (List ℕ)) (bytes : List ℕ)
    (lines : List Line) : Type 0 where
  pub source : Consumes left left_now bytes
  pub lines_so_far : HasAnswered bytes lines r
  pub end : r.ended ≡ true → IsAtEnd left_now
  pub within : IsWithinBudget r

-- these lines were taken from the input and answered, and the answers are written. The service and
-- what the command keeps are the first two before, and the last two afterwards
pub record AreAnswered {C : Type 0} (A : Answering C) (first : ServiceState) (kept : C)
    (now : ServiceState) (kept_now : C) (r : Reader)
    (left left_now written written_now : Option (List ℕ)) (bytes : List ℕ)
    (lines : List Line) : Type 0 where
  pub taken : IsTaken r left left_now bytes lines
  pub shown : List ℕ
  pub answers : AreAnsweredBy A first kept 0 lines shown now kept_now
  pub output : Appends written written_now shown

-- these lines were taken from the input, and a front of answers to the first of them is written
pub record Begun {C : Type 0} (Failed : Type 0) (A : Answering C) (first : ServiceState) (kept : C)
    (r : Reader) (left left_now written written_now : Option (List ℕ)) (bytes : List ℕ)
    (lines : List Line) : Type 0 where
  pub taken : IsTaken r left left_now bytes lines
  pub output : AppendsFirst Failed (AreFirstAnswers A first kept) lines written written_now

-- an answer to a line was written or gathered behind what was gathered
pub record GathersAnswer {C : Type 0} (A : Answering C) (t : ServiceState) (kept : C) (number : ℕ)
    (x : Line) (now : ServiceState) (kept_now : C) (old new : Option (List ℕ))
    (gathered gathered_now : List ℕ) : Type 0 where
  pub text : List ℕ
  pub is : A t kept number x text now kept_now
  pub gathers : Gathers old new (gathered ++ text) gathered_now

-- a front was written of what was gathered, or of that and an answer to a line. Where a write has
-- `Failed`, it was not all of them
abbrev pub AppendsGatheredFront : {C : Type 0} → Type 0 → Answering C → ServiceState → C → ℕ
    → Line → Option (List ℕ) → Option (List ℕ) → List ℕ → Type 0
AppendsGatheredFront {C = C} Failed A t kept number x old new gathered =
    AppendsFront Failed old new gathered
    ⊎ ((text : List ℕ) × (now : ServiceState) × (kept_now : C) × A t kept number x text now kept_now
    × AppendsFront Failed old new (gathered ++ text))
