use Rattle.conn_scan.proofs.Words.{◌≡◌}
use Rattle.pareto_scan.specs.Traced.{plans_within}
use Rattle.pareto_scan.proofs.plans.plans_within.Given as goal

-- the plans with fewer rides are there
abbrev pub invariant-loop-rides : goal.invariant-loop-rides
invariant-loop-rides l = l.plans.items ≡ plans_within l.trains l.order l.levels l.rides
