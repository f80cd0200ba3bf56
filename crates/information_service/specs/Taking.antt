-- What is done with a message by whoever holds the timetable.
use Rattle.std.specs.Prelude.{◌≡◌, ◌<◌, ◌^◌, ℕ, ◌+◌, Some, None, Result, Ok, Err}
use Rattle.std.specs.declared.option.Option.{Option}
use Rattle.delay_model.specs.declared.messages.Message.{Message}
use Rattle.delay_model.specs.declared.messages.Refusal.{Refusal}
use Rattle.delay_model.specs.Refusals.{refusal}
use Rattle.delay_report.specs.declared.replies.Reply.{Reply}
use Rattle.message_reader.specs.declared.wire.Wire.{Wire}
use Rattle.message_reader.specs.Resolved.{resolved}
use Rattle.schedule_build.specs.Directory.{Names}
use Rattle.schedule_build.specs.InStep.{AreInStep}
use Rattle.timetable.specs.TimetableState.{TimetableState, stepped}
use Rattle.information_service.specs.Output.{reply_to_message}
use Rattle.information_service.specs.ServiceState.{ServiceState, after_message}

-- a timetable after so many accepted messages, with the names that are known, as a service
abbrev pub service_with : TimetableState → ℕ → Names → ServiceState
service_with t count names =
    record { network = t.network; state = t.state; count = count; names = names }

-- ---- before a message

-- it holds a timetable that accepts the message, and one message more can be counted
pub record Accepts {P : Type 0} (Holds : P → TimetableState → ℕ → Type 0) (holder : P)
    (m : Message) : Type 0 where
  pub timetable : TimetableState
  pub count : ℕ
  pub held : Holds holder timetable count
  pub room : count + 1 < 2 ^ 64
  pub accepted : refusal timetable.network timetable.state m ≡ None

-- it holds a timetable that is in step with the names, and one message more can be counted
pub record CanTake {P : Type 0} (Holds : P → TimetableState → ℕ → Type 0) (holder : P)
    (names : Names) : Type 0 where
  pub timetable : TimetableState
  pub count : ℕ
  pub held : Holds holder timetable count
  pub room : count + 1 < 2 ^ 64
  pub in_step : AreInStep names timetable.state

-- the same, and the message is accepted
pub record CanTakeAccepted {P : Type 0} (Holds : P → TimetableState → ℕ → Type 0) (holder : P)
    (names : Names) (m : Message) : Type 0 where
  pub ready : CanTake Holds holder names
  pub accepted : (t : TimetableState) (count : ℕ) → Holds holder t count
      → refusal t.network t.state m ≡ None

-- ---- after it

-- what became of the holder of a timetable, which gives the message this answer: it took the
-- message, or it is as it was
abbrev pub IsHeldAfter : {P : Type 0} → (P → Message → P → Type 0) → P → P → Message
    → Option Refusal → Type 0
IsHeldAfter Takes old new m None = Takes old m new
IsHeldAfter Takes old new m (Some r) = new ≡ old

-- the same of a message by names, or of names that decide its refusal
abbrev pub HasTaken : {P : Type 0} → (P → Message → P → Type 0) → TimetableState → P → P
    → Result Message Refusal → Type 0
HasTaken Takes t old new (Ok m) = IsHeldAfter Takes old new m (refusal t.network t.state m)
HasTaken Takes t old new (Err r) = new ≡ old

-- what is done with the message of the line of this number, by a timetable after so many accepted
-- messages: it is taken if it is accepted, the names are those that are known after it, and this is
-- its reply
pub record IsMessageTaken {P : Type 0} (Takes : P → Message → P → Type 0) (t : TimetableState)
    (count number : ℕ) (w : Wire) (old new : P) (names names_now : Names)
    (reply : Reply) : Type 0 where
  pub holder : HasTaken Takes t old new (resolved names w)
  pub known : names_now ≡ (after_message (service_with t count names) w (resolved names w)).names
  pub replied : reply ≡ reply_to_message t.network names t.state count number w (resolved names w)

-- the same, whatever timetable the holder holds, after however many accepted messages
abbrev pub IsTakenFrom : {P : Type 0} → (P → TimetableState → ℕ → Type 0)
    → (P → Message → P → Type 0) → ℕ → Wire → P → P → Names → Names → Reply → Type 0
IsTakenFrom Holds Takes number w old new names names_now reply = (t : TimetableState) (count : ℕ)
    → Holds old t count → IsMessageTaken Takes t count number w old new names names_now reply

-- ---- a timetable that takes messages where it stands

-- it is this timetable, and counts its accepted messages itself
abbrev pub IsTimetable : TimetableState → TimetableState → ℕ → Type 0
IsTimetable holder t count = (t ≡ holder) × (count ≡ holder.count)

-- it is as it is after the message
abbrev pub IsStepped : TimetableState → Message → TimetableState → Type 0
IsStepped old m new = new ≡ stepped old m
