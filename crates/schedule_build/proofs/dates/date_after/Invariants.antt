use Rattle.std.proofs.Common.{◌≡◌}
use Rattle.schedule_build.specs.Dates.{date_after}
use Rattle.schedule_build.proofs.dates.date_after.Given as goal

abbrev pub invariant-loop-day : goal.invariant-loop-day
invariant-loop-day l = l.date ≡ date_after l.first l._day
