use Rattle.conn_scan.proofs.Words.{◌≡◌, All}
use Rattle.pareto_scan.specs.Passed.{from_ridden, HasRows}
use Rattle.pareto_scan.specs.Ridden.{known}
use Rattle.pareto_scan.proofs.passed.next_ridden.Given as goal

-- those so far are passed over
abbrev pub invariant-loop-d : goal.invariant-loop-d
invariant-loop-d l = record {
  rest : from_ridden l.bound.top (known l.levels l.riders) l.fn.departures ≡ from_ridden l.bound.top (known l.levels l.riders) l.departures;
  rows : All (HasRows (known l.levels l.riders)) l.departures;
}
