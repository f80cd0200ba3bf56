-- What the type of the messages that are read keeps, whether they are accepted or not.
use Rattle.std.specs.Prelude.{◌≡◌, ◌<◌, ◌≤◌, ◌^◌, true, false, All, IfSome, length}
use Rattle.mt_base.specs.declared.new_calls.NewCall.{NewCall}
use Rattle.delay_model.specs.declared.messages.Message.{Message}
use Rattle.delay_model.specs.declared.messages.Message.TheVariants.{Report, Forecast, Correct, Withdraw, Cancel, Reroute, Extra, Keep, Drop, Rule}

-- both times of a new call are below 2^24 seconds
abbrev pub IsSmallCall : NewCall → Type 0
IsSmallCall c = (c.arr < 2 ^ 24) × (c.dep < 2 ^ 24)

-- times are below 2^24 seconds, an extra train has at least two calls, a feeder is an arrival, and
-- what it feeds a departure
abbrev pub IsWellFormed : Message → Type 0
IsWellFormed (Report n t) = t < 2 ^ 24
IsWellFormed (Forecast n t) = t < 2 ^ 24
IsWellFormed (Correct n o) = IfSome o (λ t. t < 2 ^ 24)
IsWellFormed (Withdraw n) = Unit {0}
IsWellFormed (Cancel train from to) = Unit {0}
IsWellFormed (Reroute train from to via) = All IsSmallCall via
IsWellFormed (Extra train day route calls) = (2 ≤ length calls) × All IsSmallCall calls
IsWellFormed (Keep feeder train) = (feeder.dep ≡ false) × (train.dep ≡ true)
IsWellFormed (Drop feeder train) = (feeder.dep ≡ false) × (train.dep ≡ true)
IsWellFormed (Rule feeder train) = (feeder.dep ≡ false) × (train.dep ≡ true)
