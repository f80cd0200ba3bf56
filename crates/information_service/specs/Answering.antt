-- What a command writes for the lines of an input.
use Rattle.std.specs.Prelude.{◌≡◌, ◌<◌, ◌^◌, ℕ, ◌+◌, List, [], ◌∷◌, ◌++◌, length}
use Rattle.mt_io.specs.Lines.{Line, short, long}
use Rattle.information_service.specs.declared.answering.InputLine.{InputLine}
use Rattle.information_service.specs.declared.answering.InputLine.TheVariants as lines
use Rattle.information_service.specs.ServiceState.{ServiceState}

-- the line that is given so
abbrev pub given_line : InputLine → Line
given_line (lines.Short bytes) = short bytes.now
given_line lines.Long = long

-- a line that is not long has fewer than 2^31 bytes
abbrev pub HasFewBytes : Line → Type 0
HasFewBytes (short bytes) = length bytes < 2 ^ 31
HasFewBytes long = Unit {0}

-- how a command answers a line: in this state of the service, with what the command keeps, the line
-- of this number is answered by this text, and then the service and what is kept are so
abbrev pub Answering : Type 0 → Type 1
Answering C = ServiceState → C → ℕ → Line → List ℕ → ServiceState → C → Type 0

-- what a command writes that keeps something of this type
pub record LineOutput (C : Type 0) : Type 1 where
  -- what always holds between the service and what is kept, from before the first line on
  pub fits : ServiceState → C → Type 0
  -- before the first line, by the service and what is kept then
  pub begins : ServiceState → C → List ℕ
  -- to each line
  pub answers : Answering C
  -- behind the last line
  pub ends : ServiceState → C → List ℕ

-- lines are answered one after the other by these bytes, the first of them behind so many lines.
-- The service and what is kept are the first two before, and the last two afterwards
abbrev pub AreAnsweredBy : {C : Type 0} → Answering C → ServiceState → C → ℕ → List Line → List ℕ
    → ServiceState → C → Type 0
AreAnsweredBy A t kept before [] bytes now kept_now =
    (bytes ≡ []) × (now ≡ t) × (kept_now ≡ kept)
AreAnsweredBy {C = C} A t kept before (x ∷ xs) bytes now kept_now =
    (text : List ℕ) × (rest : List ℕ) × (next : ServiceState) × (kept_next : C)
    × A t kept (before + 1) x text next kept_next
    × AreAnsweredBy A next kept_next (before + 1) xs rest now kept_now × (bytes ≡ text ++ rest)

-- these bytes answer these lines, which begin an input
pub record AreFirstAnswers {C : Type 0} (A : Answering C) (t : ServiceState) (kept : C)
    (lines : List Line) (bytes : List ℕ) : Type 0 where
  pub now : ServiceState
  pub kept_now : C
  pub answers : AreAnsweredBy A t kept 0 lines bytes now kept_now

-- these bytes are what a command writes up to the answers to these lines, which begin an input
pub record IsBeginning {C : Type 0} (o : LineOutput C) (t : ServiceState) (kept : C)
    (lines : List Line) (bytes : List ℕ) : Type 0 where
  pub shown : List ℕ
  pub answers : AreFirstAnswers o.answers t kept lines shown
  pub all : bytes ≡ o.begins t kept ++ shown

-- these bytes are all that a command writes for these lines, which are all of an input
pub record IsWhole {C : Type 0} (o : LineOutput C) (t : ServiceState) (kept : C)
    (lines : List Line) (bytes : List ℕ) : Type 0 where
  pub shown : List ℕ
  pub answers : AreFirstAnswers o.answers t kept lines shown
  pub all : bytes ≡ o.begins t kept ++ (shown ++ o.ends answers.now answers.kept_now)
