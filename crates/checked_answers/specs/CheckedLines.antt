-- What `check` writes to each line.
use Rattle.std.specs.Prelude.{◌≡◌, ℕ, List, [], Result, Ok, Err}
use Rattle.delay_report.specs.Replies.{text_of_reply}
use Rattle.delay_report.specs.declared.replies.Reply.{Reply}
use Rattle.delay_report.specs.declared.replies.Reply.TheVariants.{Bad}
use Rattle.information_service.specs.Answering.{LineOutput}
use Rattle.information_service.specs.Output.{IsReply}
use Rattle.information_service.specs.ServiceState.{ServiceState, after_line, after_said}
use Rattle.message_reader.specs.CheckLines.{check_line_of}
use Rattle.message_reader.specs.ResolvedQueries.{query_resolved}
use Rattle.message_reader.specs.declared.bad_line.BadLine.{BadLine}
use Rattle.message_reader.specs.declared.bad_line.BadLine.TheVariants.{Long}
use Rattle.message_reader.specs.declared.check_lines.CheckLine.{CheckLine}
use Rattle.message_reader.specs.declared.check_lines.CheckLine.TheVariants as checks
use Rattle.message_reader.specs.declared.wire.Line.{Line as Spoken}
use Rattle.message_reader.specs.declared.wire.Line.TheVariants.{Message as Says, Query as Asks, Flush}
use Rattle.mt_io.specs.Lines.{Line, short, long}
use Rattle.schedule_build.specs.Directory.{Names}
use Rattle.checked_answers.specs.CheckedClaims.{IsClaimText}
use Rattle.checked_answers.specs.CheckedQueries.{IsQueryText}

-- what a line says to `check` by the names that are known, or why it is bad
abbrev pub check_said_by : Names → Line → Result CheckLine BadLine
check_said_by names long = Err Long
check_said_by names (short bytes) = check_line_of names bytes

-- this is the text of the reply to a bad line
abbrev pub IsBadText : Names → ℕ → BadLine → List ℕ → Type 0
IsBadText names line bad text = text ≡ text_of_reply names (Bad line bad)

-- this is the text of a reply to what a line says, as `times` has it, by the names that are known
-- after it
pub record IsCommonText (t : ServiceState) (line : ℕ) (said : Spoken) (text : List ℕ)
    (now : ServiceState) : Type 0 where
  pub reply : Reply
  pub is_reply : IsReply t.network t.names t.state t.count line (Ok said) reply
  pub text_is : text ≡ text_of_reply now.names reply

-- this is the text of the reply to a line that is no claim: that of a query has more than the
-- common one. Afterwards the service is the second
abbrev pub IsSaidText : ServiceState → ℕ → Spoken → List ℕ → ServiceState → Type 0
IsSaidText t line (Asks q) text now = IsQueryText t line (query_resolved t.names q) text
IsSaidText t line (Says w) text now = IsCommonText t line (Says w) text now
IsSaidText t line Flush text now = IsCommonText t line Flush text now

-- this is the text of the reply to what a line says to `check`
abbrev pub IsReplyText : ServiceState → ℕ → Result CheckLine BadLine → List ℕ → ServiceState
    → Type 0
IsReplyText t line (Err bad) text now = IsBadText t.names line bad text
IsReplyText t line (Ok (checks.Claim claim)) text now = IsClaimText t line claim text
IsReplyText t line (Ok (checks.Line said)) text now = IsSaidText t line said text now

-- the service after what a line says to `check`
abbrev pub after_checked : ServiceState → Result CheckLine BadLine → ServiceState
after_checked t (Err bad) = t
after_checked t (Ok (checks.Claim claim)) = t
after_checked t (Ok (checks.Line said)) = after_said t (Ok said)

-- the line of this number is answered so, and leaves the service as it leaves that of `times`
pub record IsChecked (t : ServiceState) (line : ℕ) (x : Line) (text : List ℕ)
    (now : ServiceState) : Type 0 where
  pub reply : IsReplyText t line (check_said_by t.names x) text now
  pub leaves : now ≡ after_line t x

-- a reply to each line, and nothing else
abbrev pub checked_output : LineOutput (Unit {0})
checked_output = record {
  fits = λ t kept. Unit {0};
  begins = λ t kept. [];
  answers = λ t kept number x text now kept_now. IsChecked t number x text now;
  ends = λ t kept. [];
}
