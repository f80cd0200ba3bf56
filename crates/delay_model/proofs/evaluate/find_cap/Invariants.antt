use Rattle.std.proofs.Common.{◌≡◌, drop}
use Rattle.delay_model.specs.Timing.{after_key}
use Rattle.delay_model.proofs.evaluate.find_cap.Given as goal

abbrev pub invariant-loop-i : goal.invariant-loop-i
invariant-loop-i l = after_key l.v.key (drop l.i l.events) ≡ after_key l.v.key l.events
