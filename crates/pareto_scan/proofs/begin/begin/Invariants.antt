use Rattle.conn_scan.proofs.Words.{◌≡◌}
use Rattle.pareto_scan.proofs.BegunLevels.{begun_some}
use Rattle.pareto_scan.proofs.begin.begin.Given as goal

-- after fewer rides all is begun
abbrev pub invariant-loop-rides : goal.invariant-loop-rides
invariant-loop-rides l = l.levels ≡ begun_some l.changes l.asked.query l.rides l.fn.levels
