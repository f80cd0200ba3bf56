use Rattle.delay_model.specs.Effect.{effect}
use Rattle.graph_edit.proofs.values.apply_value.Goals as goal

pub returns-in-Report : goal.returns-in-Report
unfolding effect
returns-in-Report c = record { effect = rw (c.in-Event.is, c.in-Report.is) c.set_report.ensures }

pub returns-in-Forecast : goal.returns-in-Forecast
unfolding effect
returns-in-Forecast c = record { effect = rw (c.in-Event.is, c.in-Forecast.is) c.set_forecast.ensures }

pub returns-in-Some : goal.returns-in-Some
unfolding effect
returns-in-Some c = record { effect = rw (c.in-Correct.is, c.in-Some.is) c.set_report-in-Some.ensures }

pub returns-in-None : goal.returns-in-None
unfolding effect
returns-in-None c = record { effect = rw (c.in-Correct.is, c.in-None.is) c.clear_report.ensures }
