use Rattle.std.proofs.Common.{◌≡◌, ◌++◌, drop, map}
use Rattle.delay_model.specs.Events.{live_events}
use Rattle.delay_model.specs.Timing.{timed_by, time_at}
use Rattle.delay_model.proofs.evaluate.keep_live.Given as goal

abbrev pub invariant-loop-v : goal.invariant-loop-v
invariant-loop-v l = l.all.items ++ map (timed_by (time_at l.times)) (live_events (drop l.v-index l.events)) ≡ map (timed_by (time_at l.times)) (live_events l.events)
