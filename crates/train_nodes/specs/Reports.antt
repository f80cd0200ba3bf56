-- The reports along a train.
use Rattle.std.specs.Prelude.{ℕ, Option}
use Rattle.mt_base.specs.declared.keys.Node.{Node}
use Rattle.delay_model.specs.declared.state.State.{State}
use Rattle.delay_model.specs.Cuts.{after}
use Rattle.delay_model.specs.Events.{train_events, is_event}
use Rattle.delay_model.specs.Timing.{first_report}

-- the report of the next live event of the train, after the event of this name, that has one
abbrev pub report_after : State → Node → Option ℕ
report_after st n = first_report n.train (after (is_event n) (train_events st n.train))
