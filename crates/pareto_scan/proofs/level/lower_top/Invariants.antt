use Rattle.conn_scan.proofs.Words.{◌≡◌, ◌≤◌}
use Rattle.pareto_scan.specs.Levels.{top_at}
use Rattle.pareto_scan.proofs.level.lower_top.Given as goal

-- what is left comes to the same
abbrev pub invariant-loop-top : goal.invariant-loop-top
invariant-loop-top l = (top_at l.levels l.time l.top ≡ top_at l.levels l.time l.most) × (l.top ≤ l.most)

abbrev pub decreases-loop-top : goal.decreases-loop-top
decreases-loop-top l = l.top
