-- The events before and after an event on its train, by name.
use Rattle.std.specs.Prelude.{ℕ, Bool, true, false, Option, Some}
use Rattle.std.specs.Option.{option_map}
use Rattle.mt_base.specs.declared.keys.Node.{Node}
use Rattle.delay_model.specs.declared.state.State.{State}
use Rattle.delay_model.specs.Effect.{node_at}
use Rattle.delay_model.specs.Events.{calls_of}
use Rattle.train_nodes.specs.Calls.{label_after, label_before}

-- the arrival of a call, and before it the departure of the call before, if there is one
abbrev pub previous_by : State → ℕ → ℕ → Bool → Option Node
previous_by st train label true = Some (node_at train label false)
previous_by st train label false = option_map (λ before. node_at train before true)
    (label_before (calls_of st train) label)

-- the event before this one on its train
abbrev pub previous_of : State → Node → Option Node
previous_of st n = previous_by st n.train n.label n.dep

-- the departure of a call, and after it the arrival of the call after, if there is one
abbrev pub next_by : State → ℕ → ℕ → Bool → Option Node
next_by st train label false = Some (node_at train label true)
next_by st train label true = option_map (λ after. node_at train after false)
    (label_after (calls_of st train) label)

-- the event after this one on its train
abbrev pub next_of : State → Node → Option Node
next_of st n = next_by st n.train n.label n.dep
