-- What `journal` writes for the lines of an input.
use Rattle.std.specs.Prelude.{◌≡◌, ℕ, List, [], Result, Ok, Err, Some, None}
use Rattle.std.specs.declared.option.Option.{Option}
use Rattle.delay_model.specs.declared.messages.Message.{Message}
use Rattle.delay_model.specs.After.{accepted_message}
use Rattle.information_service.specs.Answering.{LineOutput}
use Rattle.information_service.specs.Lines.{said_by}
use Rattle.information_service.specs.ServiceState.{ServiceState, after_line}
use Rattle.journal_lines.specs.Lines.{text_of_message}
use Rattle.message_reader.specs.declared.bad_line.BadLine.{BadLine}
use Rattle.message_reader.specs.declared.wire.Line.{Line as Spoken}
use Rattle.message_reader.specs.declared.wire.Line.TheVariants.{Message as Says, Query as Asks, Flush}
use Rattle.message_reader.specs.declared.wire.Wire.{Wire}
use Rattle.message_reader.specs.Resolved.{resolved}
use Rattle.mt_io.specs.Lines.{Line}

-- the line of a message, if it is accepted as this one by number; else nothing
abbrev pub accepted_text : Wire → Option Message → List ℕ
accepted_text w (Some m) = text_of_message w
accepted_text w None = []

-- to what a line says
abbrev pub said_text : ServiceState → Result Spoken BadLine → List ℕ
said_text t (Ok (Says w)) =
    accepted_text w (accepted_message t.network t.state (resolved t.names w))
said_text t (Ok (Asks q)) = []
said_text t (Ok Flush) = []
said_text t (Err bad) = []

-- to a line, in this state of the service
abbrev pub text_by : ServiceState → Line → List ℕ
text_by t x = said_text t (said_by x)

-- the line is answered so, and leaves the service as it leaves that of `times`
pub record IsJournaled (t : ServiceState) (header : List ℕ) (x : Line) (text : List ℕ)
    (now : ServiceState) (header_now : List ℕ) : Type 0 where
  pub text_is : text ≡ text_by t x
  pub leaves : now ≡ after_line t x
  pub header_is : header_now ≡ header

-- a header, and then the line of each message that is accepted, in the order of the lines that say
-- them
abbrev pub journal_output : LineOutput (List ℕ)
journal_output = record {
  fits = λ t header. Unit {0};
  begins = λ t header. header;
  answers = λ t header number x text now header_now. IsJournaled t header x text now header_now;
  ends = λ t header. [];
}
