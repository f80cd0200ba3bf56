use Rattle.std.proofs.Common.{◌≡◌, ◌++◌, drop}
use Rattle.delay_model.specs.Events.{events_from}
use Rattle.delay_model.proofs.events.list_events.Given as goal

abbrev pub invariant-loop-number : goal.invariant-loop-number
invariant-loop-number l = l.all.items ++ events_from l.number (drop l.number l.trains) ≡ events_from 0 l.trains
