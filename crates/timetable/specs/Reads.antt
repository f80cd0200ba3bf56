-- How many stored times are read to follow a timetable that took a message before.
use Rattle.std.specs.Prelude.{ℕ, ◌+◌, ◌*◌, if◌then◌else◌, is_none, length}
use Rattle.delay_model.specs.declared.messages.Message.{Message}
use Rattle.delay_model.specs.declared.network.Network.{Network}
use Rattle.delay_model.specs.declared.state.State.{State}
use Rattle.delay_model.specs.Effect.{effect}
use Rattle.delay_model.specs.Events.{events}
use Rattle.delay_model.specs.Refusals.{refusal}
use Rattle.delay_model.specs.Timing.{event_time}
use Rattle.delay_model.specs.Touched.{live_only, time_changes}

-- how many events are live after an accepted message that were not live before it, or had another
-- time
abbrev pub renewed_count : Network → State → Message → ℕ
renewed_count nw st m =
    let new = effect st m in
    length (live_only (events new) (events st))
    + length (time_changes (event_time nw st) (event_time nw new) (events st) (events new))

-- two for each of these events, and none for a message that is refused
abbrev pub follow_reads_of : Network → State → Message → ℕ
follow_reads_of nw st m = if is_none (refusal nw st m) then 2 * renewed_count nw st m else 0
