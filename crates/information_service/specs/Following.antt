-- What is done right behind an accepted message, by the timetable that took it.
use Rattle.std.specs.Prelude.{◌≡◌, ℕ, ◌+◌, ◌≤◌, Bool, true, false, None, Some, Result}
use Rattle.std.specs.declared.option.Option.{Option}
use Rattle.delay_model.specs.declared.messages.Message.{Message}
use Rattle.delay_model.specs.declared.messages.Refusal.{Refusal}
use Rattle.delay_model.specs.declared.network.Network.{Network}
use Rattle.delay_model.specs.declared.state.State.{State}
use Rattle.delay_model.specs.After.{accepted_message}
use Rattle.delay_model.specs.Effect.{effect}
use Rattle.delay_model.specs.Messages.{IsWellFormed}
use Rattle.delay_model.specs.Refusals.{refusal}
use Rattle.delay_model.specs.Valid.{IsValid}
use Rattle.delay_report.specs.declared.replies.Reply.{Reply}
use Rattle.delay_report.specs.declared.replies.Reply.TheVariants.{Accepted}
use Rattle.message_reader.specs.declared.wire.Wire.{Wire}
use Rattle.schedule_build.specs.Directory.{Names}
use Rattle.schedule_build.specs.InStep.{AreInStep}
use Rattle.timetable.specs.Changed.{changed_nodes}
use Rattle.timetable.specs.TimetableState.{TimetableState}
use Rattle.information_service.specs.ServiceState.{ServiceState}
use Rattle.information_service.specs.Taking.{IsMessageTaken, IsStepped}

-- it is the reply to an accepted message
abbrev pub is_accepted : Reply → Bool
is_accepted (Accepted line count changed) = true
is_accepted _ = false

-- the timetable was as the first, has done with the message of a line what is due, and is as the
-- second; and this is the reply
abbrev pub IsTaken : TimetableState → TimetableState → ℕ → Wire → Names → Names → Reply → Type 0
IsTaken t now number w names known reply =
    IsMessageTaken IsStepped t t.count number w t now names known reply

-- what stays of a timetable, whatever message it took, and that one message more was counted at
-- most; it is in step with these names
pub record IsLeft (t now : TimetableState) (known : Names) : Type 0 where
  pub network : now.network ≡ t.network
  pub numbers : now.numbers ≡ t.numbers
  pub in_step : AreInStep known now.state
  pub count : now.count ≤ t.count + 1

-- the timetable has just taken an accepted message, before which this held of its state and of what
-- is kept, and lists the events that the message changed
pub record HasJustTaken {C : Type 0} (Ready : Network → State → C → Type 0) (t : TimetableState)
    (kept : C) : Type 0 where
  pub before : State
  pub message : Message
  pub valid : IsValid t.network before
  pub formed : IsWellFormed message
  pub accepted : refusal t.network before message ≡ None
  pub state_is : t.state ≡ effect before message
  pub changed_are : t.changed ≡ changed_nodes t.network before t.state
  pub ready : Ready t.network before kept

-- what is done behind a message: nothing, where it is not accepted; else, in the state after it,
-- what `Follows` says of what was kept, what is answered and what is kept then
abbrev pub IsFollowedBy : {C R : Type 0} → (Network → State → C → R → C → Type 0) → Network
    → State → C → Option R → C → Option Message → Type 0
IsFollowedBy Follows nw st old told new None = (told ≡ None) × (new ≡ old)
IsFollowedBy {R = R} Follows nw st old told new (Some m) =
    (r : R) × (told ≡ Some r) × Follows nw (effect st m) old r new

-- the same behind a message of a service, as its names read it
abbrev pub IsFollowed : {C R : Type 0} → (Network → State → C → R → C → Type 0) → ServiceState
    → Result Message Refusal → C → Option R → C → Type 0
IsFollowed Follows t read old told new =
    IsFollowedBy Follows t.network t.state old told new (accepted_message t.network t.state read)
