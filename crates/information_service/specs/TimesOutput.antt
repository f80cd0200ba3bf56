-- What `times` writes to each line, and behind the last.
use Rattle.std.specs.Prelude.{◌≡◌, ℕ, List, []}
use Rattle.delay_report.specs.declared.replies.Reply.{Reply}
use Rattle.delay_report.specs.Replies.{text_of_reply}
use Rattle.delay_report.specs.Table.{table}
use Rattle.mt_io.specs.Lines.{Line}
use Rattle.information_service.specs.Answering.{LineOutput}
use Rattle.information_service.specs.Output.{IsReplyTo}
use Rattle.information_service.specs.ServiceState.{ServiceState, after_line}

-- this text is that of a reply to the line of this number, by the names that are known after it,
-- and the line leaves the service so
pub record IsReplied (t : ServiceState) (number : ℕ) (x : Line) (text : List ℕ)
    (now : ServiceState) : Type 0 where
  pub reply : Reply
  pub is_reply : IsReplyTo t number x reply
  pub text_is : text ≡ text_of_reply now.names reply
  pub leaves : now ≡ after_line t x

-- a reply to each line, and then the table of all times
abbrev pub times_output : LineOutput (Unit {0})
times_output = record {
  fits = λ t kept. Unit {0};
  begins = λ t kept. [];
  answers = λ t kept number x text now kept_now. IsReplied t number x text now;
  ends = λ t kept. table t.network t.names t.state;
}
