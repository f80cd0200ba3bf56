-- What a line says to who checks claims: what it says to every command, or a claim. The faults of
-- a line that is no claim are those of `Lines`, and a claim has `Shape` where its version is none.
use Rattle.std.specs.Prelude.{ℕ, ◌==◌, ◌||◌, List, Bool, false, if◌then◌else◌, Result, Ok, Err, bytes_eq, codes}
use Rattle.std.specs.Option.{option_map_or}
use Rattle.serde_json.specs.Data.{Data}
use Rattle.schedule_build.specs.Directory.{Names}
use Rattle.message_reader.specs.declared.bad_line.BadLine.{BadLine}
use Rattle.message_reader.specs.declared.bad_line.BadLine.TheVariants.{Shape}
use Rattle.message_reader.specs.declared.check_lines.CheckLine.{CheckLine}
use Rattle.message_reader.specs.declared.check_lines.CheckLine.TheVariants as checks
use Rattle.message_reader.specs.declared.wire.Line.{Line}
use Rattle.message_reader.specs.Chain.{◌>>=◌, need, unless}
use Rattle.message_reader.specs.Claims.{claim_of}
use Rattle.message_reader.specs.Fields.{text_at, number_at}
use Rattle.message_reader.specs.Lines.{value_of, said_by_value}
use Rattle.message_reader.specs.Wires.{IsLine}

-- whether the type of an object is `claim`
abbrev pub is_claim : Data → Bool
is_claim d = option_map_or (λ name. bytes_eq name (codes "claim")) (text_at (codes "type") d) false

-- the claim of an object of this type, which has `v`, the whole number 1 or 2
unfoldable pub claim_said : Names → Data → Result CheckLine BadLine
claim_said names d = do
  v ← need Shape (number_at (codes "v") d)
  _ ← unless ((v == 1) || (v == 2)) Shape
  claim ← claim_of names d
  Ok (checks.Claim claim)

-- what a line says to every command, as it is said to who checks claims
abbrev pub as_check_line : Result Line BadLine → Result CheckLine BadLine
as_check_line said = said >>= λ line. Ok (checks.Line line)

-- what an object says that is no claim
unfoldable pub line_said : Data → Result CheckLine BadLine
line_said d = as_check_line (said_by_value d)

-- what the value of a line says
unfoldable pub check_said : Names → Data → Result CheckLine BadLine
check_said names d = if is_claim d then claim_said names d else line_said d

-- what the line says, or the first fault that holds
unfoldable pub check_line_of : Names → List ℕ → Result CheckLine BadLine
check_line_of names bytes = do
  d ← value_of bytes
  check_said names d

-- whether the value of a line, if it has one, is an object of the type `claim`
abbrev pub is_claim_in : Result Data BadLine → Bool
is_claim_in (Ok d) = is_claim d
is_claim_in (Err bad) = false

-- the message or query of a line that is no claim keeps what every one that is read keeps
abbrev pub IsCheckLine : CheckLine → Type 0
IsCheckLine (checks.Line line) = IsLine line
IsCheckLine (checks.Claim claim) = Unit {0}
