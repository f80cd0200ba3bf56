use Rattle.std.proofs.Common.{◌≡◌, ◌++◌, drop}
use Rattle.delay_model.specs.Events.{events_at}
use Rattle.delay_model.proofs.events.push_events.Given as goal

abbrev pub invariant-loop-call : goal.invariant-loop-call
invariant-loop-call l = l.all.items ++ events_at l.train l.route (drop l.call-index l.calls) ≡ l.initial.all.items ++ events_at l.train l.route l.calls
