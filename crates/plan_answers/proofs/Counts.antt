-- The count of accepted messages grows by one at most.
use Rattle.std.proofs.Common.{◌≤◌, ◌+◌, ℕ, Option, None, Some, Result, Ok, Err, arith}
use Rattle.std.specs.Result.{OnOk}
use Rattle.delay_model.specs.Refusals.{refusal}
use Rattle.delay_model.specs.declared.messages.Message.{Message}
use Rattle.delay_model.specs.declared.messages.Refusal.{Refusal}
use Rattle.information_service.specs.ServiceState.{ServiceState, after_answer, after_message, after_said}
use Rattle.message_reader.specs.Resolved.{resolved}
use Rattle.message_reader.specs.declared.wire.Line.TheVariants.{Message as Says, Query as Asks, Flush}
use Rattle.message_reader.specs.declared.wire.Line.{Line as Spoken}
use Rattle.message_reader.specs.declared.wire.Wire.{Wire}

few-answer : (t : ServiceState) (w : Wire) (m : Message) (o : Option Refusal) → (after_answer t w m o).count ≤ t.count + 1
few-answer t w m None = omega arith
few-answer t w m (Some r) = omega arith

few-message : (t : ServiceState) (w : Wire) (read : Result Message Refusal) → (after_message t w read).count ≤ t.count + 1
few-message t w (Ok m) = few-answer t w m (refusal t.network t.state m)
few-message t w (Err r) = omega arith

pub few-said : (t : ServiceState) (said : Spoken) → (after_said t (Ok said)).count ≤ t.count + 1
few-said t (Says w) = few-message t w (resolved t.names w)
few-said t (Asks q) = omega arith
few-said t Flush = omega arith
