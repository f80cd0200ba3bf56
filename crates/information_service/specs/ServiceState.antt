-- The state of a service, and how lines leave it.
use Rattle.std.specs.Coded.{Coded, code_by, coded×, coded_ℕ}
use Rattle.std.specs.Prelude.{ℕ, ◌+◌, List, Some, None, Result, Ok, Err, length, refl}
use Rattle.std.specs.declared.option.Option.{Option}
use Rattle.delay_model.specs.declared.messages.Message.{Message}
use Rattle.delay_model.specs.declared.messages.Refusal.{Refusal}
use Rattle.delay_model.specs.declared.network.Network.{Network}
use Rattle.delay_model.specs.declared.state.State.{State}
use Rattle.delay_model.specs.contracts.network.Network.{the_row as network_row}
use Rattle.delay_model.specs.contracts.state.State.{the_row as state_row}
use Rattle.delay_model.specs.After.{after_messages}
use Rattle.delay_model.specs.Effect.{effect}
use Rattle.delay_model.specs.Refusals.{refusal}
use Rattle.message_reader.specs.declared.bad_line.BadLine.{BadLine}
use Rattle.message_reader.specs.declared.wire.Wire.{Wire}
use Rattle.message_reader.specs.declared.wire.Line.{Line as Spoken}
use Rattle.message_reader.specs.declared.wire.Line.TheVariants.{Message as Says, Query as Asks, Flush}
use Rattle.message_reader.specs.Resolved.{resolved}
use Rattle.mt_io.specs.Lines.{Line}
use Rattle.schedule_build.specs.contracts.directory.Directory.{the_row as directory_row}
use Rattle.schedule_build.specs.Directory.{Names}
use Rattle.information_service.specs.Lines.{said_by, accepted_of, names_with, names_after}

-- what no message changes, the state of the trains, how many messages were accepted, and the names
-- that are known
pub record ServiceState : Type 0 where
  pub network : Network
  pub state : State
  pub count : ℕ
  pub names : Names

-- it is stored as its fields
abbrev pub service_state_code : Coded ServiceState
service_state_code =
    code_by (Network × (State × (ℕ × Names)))
    (coded× network_row.coded (coded× state_row.coded (coded× coded_ℕ directory_row.coded)))
    (λ t. (t.network, (t.state, (t.count, t.names))))
    (λ p. record { network = p.0; state = p.1.0; count = p.1.1.0; names = p.1.1.1 })
    (λ _. refl)

-- after a message with this answer
abbrev pub after_answer : ServiceState → Wire → Message → Option Refusal → ServiceState
after_answer t w m None = record t {
  state = effect t.state m;
  count = t.count + 1;
  names = names_with t.names w;
}
after_answer t w m (Some r) = t

-- after a message, or after names that decide its refusal
abbrev pub after_message : ServiceState → Wire → Result Message Refusal → ServiceState
after_message t w (Ok m) = after_answer t w m (refusal t.network t.state m)
after_message t w (Err r) = t

-- after a line that says this
abbrev pub after_said : ServiceState → Result Spoken BadLine → ServiceState
after_said t (Ok (Says w)) = after_message t w (resolved t.names w)
after_said t (Ok (Asks q)) = t
after_said t (Ok Flush) = t
after_said t (Err b) = t

-- after this line
abbrev pub after_line : ServiceState → Line → ServiceState
after_line t x = after_said t (said_by x)

-- the service that began in the state `st` with these names, after these lines
abbrev pub service_after : Network → Names → State → List Line → ServiceState
service_after nw names st lines =
    let ms = accepted_of nw names st lines in
    record {
      network = nw;
      state = after_messages st ms;
      count = length ms;
      names = names_after nw names st lines;
    }
