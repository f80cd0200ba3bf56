-- Kinds of messages.
use Rattle.std.specs.Prelude.{ℕ, ◌^◌, ◌<◌, Bool, true, false, Option, Some, None, length}
use Rattle.mt_base.specs.declared.keys.Node.{Node}
use Rattle.delay_model.specs.declared.messages.Message.{Message}
use Rattle.delay_model.specs.declared.messages.Message.TheVariants.{Report, Forecast, Correct, Withdraw, Cancel, Reroute, Extra, Keep, Drop, Rule}
use Rattle.delay_model.specs.declared.overrides.Override.{Override}
use Rattle.delay_model.specs.declared.overrides.Override.TheVariants as Chosen
use Rattle.train_nodes.specs.declared.kinds.Kind.{Kind}
use Rattle.train_nodes.specs.declared.kinds.Kind.TheVariants as Kinds
use Rattle.train_nodes.specs.declared.kinds.ValueKind.{ValueKind}
use Rattle.train_nodes.specs.declared.kinds.ValueKind.TheVariants as ValueKinds
use Rattle.train_nodes.specs.declared.kinds.Value.{Value}
use Rattle.train_nodes.specs.declared.kinds.Value.TheVariants as Values
use Rattle.train_nodes.specs.declared.kinds.Choice.{Choice}
use Rattle.train_nodes.specs.declared.kinds.Shape.{Shape}
use Rattle.train_nodes.specs.declared.kinds.Shape.TheVariants as Shapes

-- the message that gives an event a time of this kind
abbrev pub message_by_kind : ValueKind → Node → ℕ → Message
message_by_kind ValueKinds.Report n t = Report n t
message_by_kind ValueKinds.Forecast n t = Forecast n t

-- the message that says this of the report or the forecast of an event
abbrev pub message_of_value : Value → Message
message_of_value (Values.Event kind n t) = message_by_kind kind n t
message_of_value (Values.Correct n o) = Correct n o
message_of_value (Values.Withdraw n) = Withdraw n

-- the event of which it is said
abbrev pub changed_event : Value → Node
changed_event (Values.Event kind n t) = n
changed_event (Values.Correct n o) = n
changed_event (Values.Withdraw n) = n

-- a time of this kind is a report
abbrev pub is_report : ValueKind → Bool
is_report ValueKinds.Report = true
is_report ValueKinds.Forecast = false

-- it is said of the report, and not of the forecast
abbrev pub is_of_report : Value → Bool
is_of_report (Values.Event kind n t) = is_report kind
is_of_report (Values.Correct n o) = true
is_of_report (Values.Withdraw n) = false

-- the message that makes this choice for a connection
abbrev pub message_by_choice : Option Override → Node → Node → Message
message_by_choice (Some Chosen.Keep) feeder train = Keep feeder train
message_by_choice (Some Chosen.Drop) feeder train = Drop feeder train
message_by_choice None feeder train = Rule feeder train

-- the message that chooses for a connection
abbrev pub message_of_choice : Choice → Message
message_of_choice c = message_by_choice c.choice c.feeder c.train

-- the message that changes which calls a train makes, or which of its events take place
abbrev pub message_of_shape : Shape → Message
message_of_shape (Shapes.Cancel train from to) = Cancel train from to
message_of_shape (Shapes.Reroute train from to via) = Reroute train from to via.now
message_of_shape (Shapes.Extra train day route calls) = Extra train day route calls.now

-- the message that changes what is said
abbrev pub message_of : Kind → Message
message_of (Kinds.Value v) = message_of_value v
message_of (Kinds.Choice c) = message_of_choice c
message_of (Kinds.Shape s) = message_of_shape s

-- the train that is changed or added
abbrev pub changed_train : Shape → ℕ
changed_train (Shapes.Cancel train from to) = train
changed_train (Shapes.Reroute train from to via) = train
changed_train (Shapes.Extra train day route calls) = train

-- the message makes fewer than 2^31 new calls, so that each has a label
abbrev pub HasFewCalls : Message → Type 0
HasFewCalls (Reroute train from to via) = length via < 2 ^ 31
HasFewCalls (Extra train day route calls) = length calls < 2 ^ 31
HasFewCalls _ = Unit {0}
