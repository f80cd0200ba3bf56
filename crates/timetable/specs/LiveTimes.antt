-- The live events of a state, and their times.
use Rattle.std.specs.Prelude.{ℕ, ◌&&◌, Option, find}
use Rattle.std.specs.Option.{option_map}
use Rattle.mt_base.specs.declared.keys.Node.{Node}
use Rattle.delay_model.specs.declared.network.Network.{Network}
use Rattle.delay_model.specs.declared.state.State.{State}
use Rattle.delay_model.specs.declared.state.Event.{Event}
use Rattle.delay_model.specs.Events.{train_events, is_event}
use Rattle.delay_model.specs.Timing.{event_time}
pub use Rattle.propagate.specs.LiveKeys.{live_keys}

-- the event of this name, if it is there and live
abbrev pub live_event : State → Node → Option Event
live_event st n = find (λ v. is_event n v && v.live) (train_events st n.train)

-- the time of the event of this name, if it is there and live
abbrev pub live_time : Network → State → Node → Option ℕ
live_time nw st n = option_map (λ (v : Event). event_time nw st v.key) (live_event st n)
