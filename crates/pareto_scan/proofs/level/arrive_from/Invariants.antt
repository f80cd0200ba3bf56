use Rattle.conn_scan.proofs.Words.{◌≡◌, ◌-◌, All, length}
use Rattle.pareto_scan.specs.Levels.{arrived_from, HasLevelRoom, KeepsRoom}
use Rattle.pareto_scan.proofs.level.arrive_from.Given as goal

-- what is left from so many rides on makes of what is known what all makes of what was
abbrev pub invariant-loop-taken : goal.invariant-loop-taken
invariant-loop-taken l = record {
  rest : arrived_from l.taken l.changes l.asked.query l.d l.ride l.levels ≡ arrived_from l.rides l.changes l.asked.query l.d l.ride l.fn.levels;
  keeps : KeepsRoom l.fn.levels l.levels;
  rows : All (HasLevelRoom (length l.changes.stops)) l.levels;
}

abbrev pub decreases-loop-taken : goal.decreases-loop-taken
decreases-loop-taken l = length l.levels - l.taken
