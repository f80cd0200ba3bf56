-- What a message that is accepted changes, and that one that is refused changes nothing.
use Rattle.std.proofs.Common.{◌≡◌, ◌+◌, List, [], ◌∷◌, Option, Some, None, IsSome, Result, Ok, Err, refl, ◌∙◌, subst, length, is_none, if◌then◌else◌, arith}
use Rattle.delay_model.specs.After.{accepted_message, after_messages, AreAccepted}
use Rattle.delay_model.specs.Effect.{effect}
use Rattle.delay_model.specs.Refusals.{refusal}
use Rattle.delay_model.specs.declared.messages.Message.{Message}
use Rattle.delay_model.specs.declared.messages.Refusal.{Refusal}
use Rattle.delay_model.specs.declared.network.Network.{Network}
use Rattle.delay_model.specs.declared.state.State.{State}
use Rattle.information_service.specs.ServiceState.{ServiceState, after_answer, after_message}
use Rattle.message_reader.specs.Resolved.{resolved}
use Rattle.message_reader.specs.declared.wire.Wire.{Wire}
use Rattle.journal_replay.specs.Journals.{AreTaken, after_wires, messages_in}
use Rattle.journal_replay.specs.Reading.{accepted_wire, after_wire}

-- a value that is there
pub some-there : {T : Type 0} (o : Option T) → IsSome o → (x : T) × (o ≡ Some x)
some-there (Some x) is = (x, refl)
some-there None is = cc

-- it is accepted as this message by number, and the service is so behind it
pub record IsTakenThere (s : ServiceState) (m : Message) (next : ServiceState) : Type 0 where
  pub accepted : refusal s.network s.state m ≡ None
  pub network : next.network ≡ s.network
  pub state : next.state ≡ effect s.state m
  pub count : next.count ≡ s.count + 1

by-answer : (s : ServiceState) (w : Wire) (m x : Message) (o : Option Refusal) → refusal s.network s.state m ≡ o
    → (if is_none o then Some m else None) ≡ Some x → IsTakenThere s x (after_answer s w m o)
by-answer s w m x None answered is =
    let same : m ≡ x = cc in
    subst (λ (y : Message). IsTakenThere s y (after_answer s w m None)) same (record { accepted = answered; network = refl; state = refl; count = refl })
by-answer s w m x (Some r) answered is = cc

by-message : (s : ServiceState) (w : Wire) (x : Message) (read : Result Message Refusal) → accepted_message s.network s.state read ≡ Some x → IsTakenThere s x (after_message s w read)
by-message s w x (Ok m) is = by-answer s w m x (refusal s.network s.state m) refl is
by-message s w x (Err r) is = cc

pub accepted-leaves : (s : ServiceState) (w : Wire) (m : Message) → accepted_wire s w ≡ Some m → IsTakenThere s m (after_wire s w)
accepted-leaves s w m is = by-message s w m (resolved s.names w) is

-- ---- a message that is refused

none-by-answer : (s : ServiceState) (w : Wire) (m : Message) (o : Option Refusal) → (if is_none o then Some m else None) ≡ None → after_answer s w m o ≡ s
none-by-answer s w m None is = cc
none-by-answer s w m (Some r) is = refl

none-by-message : (s : ServiceState) (w : Wire) (read : Result Message Refusal) → accepted_message s.network s.state read ≡ None → after_message s w read ≡ s
none-by-message s w (Ok m) is = none-by-answer s w m (refusal s.network s.state m) is
none-by-message s w (Err r) is = refl

pub refused-leaves : (s : ServiceState) (w : Wire) → accepted_wire s w ≡ None → after_wire s w ≡ s
refused-leaves s w is = none-by-message s w (resolved s.names w) is

-- ---- messages one after the other

pub are-accepted : (s : ServiceState) (ws : List Wire) → AreTaken s ws → AreAccepted s.network s.state (messages_in s ws)
are-accepted s [] taken = tt
are-accepted s (w ∷ ws) taken =
    let m = some-there (accepted_wire s w) taken.0 in
    let there = accepted-leaves s w m.0 m.1 in
    let next = are-accepted (after_wire s w) ws taken.1 in
    let ms : List Message = messages_in (after_wire s w) ws in
    let over : AreAccepted s.network (after_wire s w).state ms = subst (λ (nw : Network). AreAccepted nw (after_wire s w).state ms) there.network next in
    rw m.1 (there.accepted, subst (λ (st : State). AreAccepted s.network st ms) there.state over)

pub states-agree : (s : ServiceState) (ws : List Wire) → AreTaken s ws → (after_wires s ws).state ≡ after_messages s.state (messages_in s ws)
states-agree s [] taken = refl
states-agree s (w ∷ ws) taken =
    let m = some-there (accepted_wire s w) taken.0 in
    let there = accepted-leaves s w m.0 m.1 in
    states-agree (after_wire s w) ws taken.1 ∙ rw (m.1, there.state) refl

pub all-there : (s : ServiceState) (ws : List Wire) → AreTaken s ws → length (messages_in s ws) ≡ length ws
all-there s [] taken = refl
all-there s (w ∷ ws) taken =
    let m = some-there (accepted_wire s w) taken.0 in
    rw m.1 (omega (arith, all-there (after_wire s w) ws taken.1))
