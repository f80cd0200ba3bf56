-- What `desk` writes to each line.
use Rattle.std.specs.Prelude.{◌≡◌, ℕ, List, [], Result, Ok, Err}
use Rattle.delay_report.specs.Replies.{text_of_reply}
use Rattle.delay_report.specs.declared.replies.Reply.{Reply}
use Rattle.delay_report.specs.declared.replies.Reply.TheVariants.{Bad}
use Rattle.desk_lines.specs.DeskLines.{desk_line_of}
use Rattle.desk_lines.specs.Questions.{departures_resolved}
use Rattle.desk_lines.specs.declared.lines.DeskLine.{DeskLine}
use Rattle.desk_lines.specs.declared.lines.DeskLine.TheVariants as desks
use Rattle.information_service.specs.Answering.{LineOutput}
use Rattle.information_service.specs.Output.{IsReply}
use Rattle.information_service.specs.ServiceState.{ServiceState, after_line, after_said}
use Rattle.message_reader.specs.Resolved.{node_named}
use Rattle.message_reader.specs.declared.bad_line.BadLine.{BadLine}
use Rattle.message_reader.specs.declared.bad_line.BadLine.TheVariants.{Long}
use Rattle.message_reader.specs.declared.wire.Line.{Line as Spoken}
use Rattle.mt_io.specs.Lines.{Line, short, long}
use Rattle.schedule_build.specs.Directory.{Names}
use Rattle.desk_answers.specs.Questions.{departures_text, event_text}

-- what a line says to `desk`, or why it is bad
abbrev pub desk_said_by : Line → Result DeskLine BadLine
desk_said_by long = Err Long
desk_said_by (short bytes) = desk_line_of bytes

-- this is the text of the reply to a bad line
abbrev pub IsBadText : Names → ℕ → BadLine → List ℕ → Type 0
IsBadText names line bad text = text ≡ text_of_reply names (Bad line bad)

-- this is the text of a reply to what a line says, as `times` has it, by the names that are known
-- after it
pub record IsSaidText (t : ServiceState) (line : ℕ) (said : Spoken) (text : List ℕ)
    (now : ServiceState) : Type 0 where
  pub reply : Reply
  pub is_reply : IsReply t.network t.names t.state t.count line (Ok said) reply
  pub text_is : text ≡ text_of_reply now.names reply

-- this is the text of the reply to what a line says to `desk`. Afterwards the service is the second
abbrev pub IsReplyText : ServiceState → ℕ → Result DeskLine BadLine → List ℕ → ServiceState → Type 0
IsReplyText t line (Err bad) text now = IsBadText t.names line bad text
IsReplyText t line (Ok (desks.Line said)) text now = IsSaidText t line said text now
IsReplyText t line (Ok (desks.Departures asked)) text now =
    text ≡ departures_text t line (departures_resolved t.names asked)
IsReplyText t line (Ok (desks.Why asked)) text now =
    text ≡ event_text t line (node_named t.names asked.dep asked.call)

-- the service after what a line says to `desk`
abbrev pub after_desk : ServiceState → Result DeskLine BadLine → ServiceState
after_desk t (Err bad) = t
after_desk t (Ok (desks.Line said)) = after_said t (Ok said)
after_desk t (Ok (desks.Departures asked)) = t
after_desk t (Ok (desks.Why asked)) = t

-- the line of this number is answered so, and leaves the service as it leaves that of `times`
pub record IsAtDesk (t : ServiceState) (line : ℕ) (x : Line) (text : List ℕ) (now : ServiceState)
    : Type 0 where
  pub reply : IsReplyText t line (desk_said_by x) text now
  pub leaves : now ≡ after_line t x

-- a reply to each line, and nothing else
abbrev pub desk_output : LineOutput (Unit {0})
desk_output = record {
  fits = λ t kept. Unit {0};
  begins = λ t kept. [];
  answers = λ t kept number x text now kept_now. IsAtDesk t number x text now;
  ends = λ t kept. [];
}
