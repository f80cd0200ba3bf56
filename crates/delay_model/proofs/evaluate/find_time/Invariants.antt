use Rattle.std.proofs.Common.{◌≡◌, drop}
use Rattle.delay_model.specs.Timing.{time_at}
use Rattle.delay_model.proofs.evaluate.find_time.Given as goal

abbrev pub invariant-loop-r : goal.invariant-loop-r
invariant-loop-r l = time_at (drop l.r-index l.rows) l.k ≡ time_at l.rows l.k
