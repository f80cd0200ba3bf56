use Rattle.conn_scan.proofs.Words.{◌≡◌, ◌<◌, Some}
use Rattle.pareto_scan.specs.Levels.{first_open, least_open}
use Rattle.pareto_scan.proofs.level.first_open.Given as goal

-- one can board after so many rides, and from there on it is looked for fewer
abbrev pub invariant-loop-rides : goal.invariant-loop-rides
invariant-loop-rides l = (first_open l.levels l.d l.below ≡ Some (least_open l.levels l.d l.rides)) × (l.rides < l.below)

abbrev pub decreases-loop-rides : goal.decreases-loop-rides
decreases-loop-rides l = l.rides
