-- Events of which nothing but the schedule is known.
use Rattle.std.specs.Prelude.{Bool, ◌&&◌}
use Rattle.std.specs.Option.{is_none}
use Rattle.delay_model.specs.declared.state.Event.{Event}

-- the event has neither a forecast nor a report
abbrev pub has_schedule_alone : Event → Bool
has_schedule_alone v = is_none v.forecast && is_none v.report
