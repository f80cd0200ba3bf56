-- Changes of what is known of an event.
use Rattle.std.specs.Prelude.{true}
use Rattle.delay_model.specs.declared.state.EventValues.{EventValues}
use Rattle.delay_model.specs.Effect.{with_forecast, with_report, killed}
use Rattle.call_lines.specs.declared.calls.Edit.{Edit}
use Rattle.call_lines.specs.declared.calls.Edit.TheVariants.{Forecast, Report, Kill}

-- an event's values after a change
abbrev pub edited : Edit → EventValues → EventValues
edited (Forecast f) e = with_forecast f e
edited (Report r) e = with_report r e
edited Kill e = killed true e
