use Rattle.conn_scan.proofs.Words.{◌≡◌, length, All, leaving_from, IsWithin}
use Rattle.pareto_scan.specs.Bounds.{IsBound}
use Rattle.pareto_scan.specs.Levels.{KeepsRoom}
use Rattle.pareto_scan.specs.Ridden.{known, scanned}
use Rattle.pareto_scan.proofs.scan.scan.Given as goal

-- the departures that are left make of what is known what all of them make of what was
abbrev pub invariant-loop-d : goal.invariant-loop-d
invariant-loop-d l = record {
  rest : scanned l.changes l.asked.query l.bound.top l.departures
      (known l.levels l.riders) ≡ scanned l.changes l.asked.query l.most (leaving_from l.order l.asked.query.time) (known l.fn.levels l.fn.riders);
  within : All (IsWithin (length l.changes.stops) (length l.order.entries)) l.departures;
  keeps : KeepsRoom l.fn.levels l.levels;
  riders : length l.riders ≡ length l.fn.riders;
  bound : IsBound l.levels l.bound;
}

abbrev pub decreases-loop-d : goal.decreases-loop-d
decreases-loop-d l = length l.departures
