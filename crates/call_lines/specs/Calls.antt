-- The calls of a state by train and label, and what stands beside a call.
use Rattle.std.specs.Prelude.{ℕ, List, [], ◌∷◌, Bool, true, false, Option, Some, None, is_some, slice_get, find}
use Rattle.std.specs.Option.{option_map}
use Rattle.mt_base.specs.declared.keys.Node.{Node}
use Rattle.delay_model.specs.declared.state.EventValues.{EventValues}
use Rattle.delay_model.specs.declared.state.Call.{Call}
use Rattle.delay_model.specs.declared.state.State.{State}
use Rattle.delay_model.specs.Cuts.{before, after}
use Rattle.delay_model.specs.Effect.{is_call}
use Rattle.delay_model.specs.Events.{calls_of}

-- what is known of a call's departure (dep true) or arrival (dep false)
abbrev pub values_of : Bool → Call → EventValues
values_of true c = c.departure
values_of false c = c.arrival

-- the call of a train that has this label, if it is there
abbrev pub call_named : State → ℕ → ℕ → Option Call
call_named st train label = find (is_call label) (calls_of st train)

-- the train is there and has a call with this label
abbrev pub has_call : State → ℕ → ℕ → Bool
has_call st train label = is_some (call_named st train label)

-- the event of this name is there, live or not
abbrev pub has_event : State → Node → Bool
has_event st n = has_call st n.train n.label

-- the label of the first of these calls, if there is one
abbrev pub first_label : List Call → Option ℕ
first_label cs = option_map (λ (c : Call). c.label) (slice_get cs 0)

-- the label of the last of these calls, if there is one
abbrev pub last_label : List Call → Option ℕ
last_label [] = None
last_label (c ∷ []) = Some c.label
last_label (c ∷ d ∷ ds) = last_label (d ∷ ds)

-- the label of the call after the one with a label, if it is not the last
abbrev pub label_after : List Call → ℕ → Option ℕ
label_after cs label = first_label (after (is_call label) cs)

-- the label of the call before the one with a label, if it is not the first
abbrev pub label_before : List Call → ℕ → Option ℕ
label_before cs label = last_label (before (is_call label) cs)
