-- What `plans` writes to each line.
use Rattle.std.specs.Prelude.{◌≡◌, ℕ, List, [], Result, Ok, Err}
use Rattle.delay_report.specs.Replies.{text_of_reply}
use Rattle.delay_report.specs.declared.replies.Reply.{Reply}
use Rattle.information_service.specs.Answering.{LineOutput}
use Rattle.information_service.specs.Lines.{said_by}
use Rattle.information_service.specs.Output.{IsReply}
use Rattle.information_service.specs.ServiceState.{ServiceState, after_line}
use Rattle.message_reader.specs.ResolvedQueries.{query_resolved}
use Rattle.message_reader.specs.declared.bad_line.BadLine.{BadLine}
use Rattle.message_reader.specs.declared.wire.Line.{Line as Spoken}
use Rattle.message_reader.specs.declared.wire.Line.TheVariants.{Message as Says, Query as Asks, Flush}
use Rattle.mt_io.specs.Lines.{Line}
use Rattle.plan_answers.specs.PlannedQueries.{IsQueryText}

-- this is the text of a reply to what a line says, as `times` has it, by the names that are known
-- after it
pub record IsTextOfReply (t : ServiceState) (line : ℕ) (said : Result Spoken BadLine)
    (text : List ℕ) (now : ServiceState) : Type 0 where
  pub reply : Reply
  pub is_reply : IsReply t.network t.names t.state t.count line said reply
  pub text_is : text ≡ text_of_reply now.names reply

-- this is the text of the reply to what a line says: to a query its best plans with at most so many
-- rides, and to anything else what `times` replies. Afterwards the service is the second
abbrev pub IsPlannedText : ServiceState → ℕ → ℕ → Result Spoken BadLine → List ℕ → ServiceState
    → Type 0
IsPlannedText t rides line (Ok (Asks q)) text now =
    IsQueryText t rides line (query_resolved t.names q) text
IsPlannedText t rides line (Ok (Says w)) text now = IsTextOfReply t line (Ok (Says w)) text now
IsPlannedText t rides line (Ok Flush) text now = IsTextOfReply t line (Ok Flush) text now
IsPlannedText t rides line (Err bad) text now = IsTextOfReply t line (Err bad) text now

-- the line of this number is answered so, and leaves the service as it leaves that of `times`
pub record IsPlanned (t : ServiceState) (rides line : ℕ) (x : Line) (text : List ℕ)
    (now : ServiceState) : Type 0 where
  pub reply : IsPlannedText t rides line (said_by x) text now
  pub leaves : now ≡ after_line t x

-- a reply to each line, and nothing else; the number of rides is kept
abbrev pub planned_output : LineOutput ℕ
planned_output = record {
  fits = λ t rides. Unit {0};
  begins = λ t rides. [];
  answers = λ t rides number x text now rides_now.
      IsPlanned t rides number x text now × (rides_now ≡ rides);
  ends = λ t rides. [];
}
