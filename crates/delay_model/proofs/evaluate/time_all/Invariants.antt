use Rattle.std.proofs.Common.{◌≡◌, map, take}
use Rattle.delay_model.specs.Timing.{event_time, timed_by}
use Rattle.delay_model.proofs.evaluate.time_all.Given as goal

-- each event so far has its time
abbrev pub invariant-loop-v : goal.invariant-loop-v
invariant-loop-v l = l.times.items ≡ map (timed_by (event_time l.nw l.st)) (take l.v-index l.v-items)
