-- What `times` writes is the same over networks that are alike.
use Rattle.information_service.proofs.Words.{◌≡◌, ◌∙◌, ap, refl, sym, Result, Ok, Err, Option, None, Some, Network, Message, Refusal, refusal, resolved, BadLine, Line, ServiceState, Wire, after_line, said_by}
use Rattle.message_reader.specs.declared.wire.Line.{Line as Spoken}
use Rattle.message_reader.specs.declared.wire.Line.TheVariants.{Message as Says, Query as Asks, Flush}
use Rattle.information_service.specs.Networks.{IsSame, IsWrittenAlike, over}
use Rattle.information_service.specs.ServiceState.{after_answer, after_message, after_said}
use Rattle.information_service.specs.TimesOutput.{times_output}
use Rattle.information_service.proofs.Networks.{refusal-same, reply-same, table-same}

answer-over : (nw : Network) (t : ServiceState) (w : Wire) (m : Message) (o : Option Refusal) → after_answer (over nw t) w m o ≡ over nw (after_answer t w m o)
answer-over nw t w m None = refl
answer-over nw t w m (Some r) = refl

pub message-over : (nw : Network) (t : ServiceState) (w : Wire) (read : Result Message Refusal) → IsSame nw t.network → after_message (over nw t) w read ≡ over nw (after_message t w read)
message-over nw t w (Ok m) same = answer-over nw t w m (refusal nw t.state m) ∙ ap (λ o. over nw (after_answer t w m o)) (sym (refusal-same nw t.network same t.state m))
message-over nw t w (Err r) same = refl

said-over : (nw : Network) (t : ServiceState) (said : Result Spoken BadLine) → IsSame nw t.network → after_said (over nw t) said ≡ over nw (after_said t said)
said-over nw t (Ok (Says w)) same = message-over nw t w (resolved t.names w) same
said-over nw t (Ok (Asks q)) same = refl
said-over nw t (Ok Flush) same = refl
said-over nw t (Err b) same = refl

answer-keeps : (t : ServiceState) (w : Wire) (m : Message) (o : Option Refusal) → (after_answer t w m o).network ≡ t.network
answer-keeps t w m None = refl
answer-keeps t w m (Some r) = refl

pub message-keeps : (t : ServiceState) (w : Wire) (read : Result Message Refusal) → (after_message t w read).network ≡ t.network
message-keeps t w (Ok m) = answer-keeps t w m (refusal t.network t.state m)
message-keeps t w (Err r) = refl

said-keeps : (t : ServiceState) (said : Result Spoken BadLine) → (after_said t said).network ≡ t.network
said-keeps t (Ok (Says w)) = message-keeps t w (resolved t.names w)
said-keeps t (Ok (Asks q)) = refl
said-keeps t (Ok Flush) = refl
said-keeps t (Err b) = refl

-- how a line leaves the service over another network, and that it leaves its network
pub line-over : (nw : Network) (t : ServiceState) (x : Line) → IsSame nw t.network → after_line (over nw t) x ≡ over nw (after_line t x)
line-over nw t x same = said-over nw t (said_by x) same

pub line-keeps : (t : ServiceState) (x : Line) → (after_line t x).network ≡ t.network
line-keeps t x = said-keeps t (said_by x)

pub times-alike : IsWrittenAlike times_output
times-alike = record {
  begins = λ nw t kept same. refl;
  answers = λ nw t kept number x text now kept_now same one. record {
    reply = one.reply;
    is_reply = reply-same nw t.network same t.names t.state t.count number (said_by x) one.reply one.is_reply;
    text_is = one.text_is;
    leaves = ap (over nw) one.leaves ∙ sym (line-over nw t x same);
  };
  ends = λ nw t kept same. sym (table-same nw t.network same t.names t.state);
  keeps = λ t kept number x text now kept_now one. ap (λ (s : ServiceState). s.network) one.leaves ∙ line-keeps t x;
}
