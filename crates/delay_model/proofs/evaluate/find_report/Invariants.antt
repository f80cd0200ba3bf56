use Rattle.std.proofs.Common.{◌≡◌, drop}
use Rattle.delay_model.specs.Timing.{first_report}
use Rattle.delay_model.proofs.evaluate.find_report.Given as goal

abbrev pub invariant-loop-v : goal.invariant-loop-v
invariant-loop-v l = first_report l.train (drop l.v-index l.events) ≡ first_report l.train l.events
