-- The state after a list of messages, and which messages of a list of lines are accepted.
use Rattle.std.specs.Prelude.{◌≡◌, ℕ, ◌+◌, List, [], ◌∷◌, Option, Some, None, if◌then◌else◌, is_none}
use Rattle.std.specs.Prelude.{Result, Ok, Err}
use Rattle.std.specs.Option.{option_map_or}
use Rattle.delay_model.specs.declared.network.Network.{Network}
use Rattle.delay_model.specs.declared.state.State.{State}
use Rattle.delay_model.specs.declared.messages.Message.{Message}
use Rattle.delay_model.specs.declared.messages.Refusal.{Refusal}
use Rattle.delay_model.specs.Effect.{effect}
use Rattle.delay_model.specs.Refusals.{refusal}

-- the state after these messages, each of which has its effect
abbrev pub after_messages : State → List Message → State
after_messages st [] = st
after_messages st (m ∷ ms) = after_messages (effect st m) ms

-- each of these messages is accepted in the state after those before it
abbrev pub AreAccepted : Network → State → List Message → Type 0
AreAccepted nw st [] = Unit {0}
AreAccepted nw st (m ∷ ms) = (refusal nw st m ≡ None) × AreAccepted nw (effect st m) ms

-- how a line of type X is read by the names that are known by then, of type N: as a message that
-- speaks by number, or as the refusal that the names decide; and which names are known once it is
-- accepted
pub record Reading (X N : Type 0) : Type 0 where
  pub message : N → X → Result Message Refusal
  pub known : N → X → N

-- the answer to a line: the refusal that the names decide, or that of the message
abbrev pub answer : Network → State → Result Message Refusal → Option Refusal
answer nw st (Ok m) = refusal nw st m
answer nw st (Err r) = Some r

-- the message of a line, if it is accepted
abbrev pub accepted_message : Network → State → Result Message Refusal → Option Message
accepted_message nw st (Ok m) = if is_none (refusal nw st m) then Some m else None
accepted_message nw st (Err r) = None

-- the accepted messages of these lines, each read and tested in what the accepted messages before
-- it left. A line that is refused changes nothing
abbrev pub accepted : {X N : Type 0} → Network → Reading X N → State → N → List X → List Message
accepted nw reading st names [] = []
accepted nw reading st names (x ∷ xs) =
    option_map_or (λ m. m ∷ accepted nw reading (effect st m) (reading.known names x) xs)
    (accepted_message nw st (reading.message names x)) (accepted nw reading st names xs)

-- the names that are known after these lines
abbrev pub known_after : {X N : Type 0} → Network → Reading X N → State → N → List X → N
known_after nw reading st names [] = names
known_after nw reading st names (x ∷ xs) =
    option_map_or (λ m. known_after nw reading (effect st m) (reading.known names x) xs)
    (accepted_message nw st (reading.message names x)) (known_after nw reading st names xs)

-- what lines leave: the state, the names that are known, and the number of accepted messages
pub record Progress (N : Type 0) : Type 0 where
  pub state : State
  pub names : N
  pub count : ℕ

abbrev pub after_accepted : {N : Type 0} → Progress N → N → Option Message → Progress N
after_accepted p names None = p
after_accepted p names (Some m) = record {
  state = effect p.state m;
  names = names;
  count = p.count + 1;
}

-- what one more line leaves
abbrev pub after_line : {X N : Type 0} → Network → Reading X N → Progress N → X → Progress N
after_line nw reading p x =
    after_accepted p (reading.known p.names x)
    (accepted_message nw p.state (reading.message p.names x))
