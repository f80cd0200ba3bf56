use Rattle.conn_scan.proofs.Words.{◌≡◌, ◌≤◌, ◌++◌, ◌∷◌, ride_along}
use Rattle.pareto_scan.specs.Traced.{way_back}
use Rattle.pareto_scan.proofs.trace.trace.Given as goal

-- the rides so far, and the way back from the last of them, are the ride and the way back from it
abbrev pub invariant-loop-level : goal.invariant-loop-level
invariant-loop-level l = record {
  rest : l.rides.items ++ way_back l.trains l.order l.levels l.level l.next ≡ ride_along l.trains l.order l.last ∷ way_back l.trains l.order l.levels l.before (ride_along l.trains l.order l.last);
  few : l.level ≤ l.before;
}

abbrev pub decreases-loop-level : goal.decreases-loop-level
decreases-loop-level l = l.level
