use Rattle.gtfs_tables.proofs.Words.{◌≡◌, ◌++◌}
use Rattle.gtfs_tables.proofs.keyed_calls.move_from.Given as goal

abbrev pub invariant-loop-last : goal.invariant-loop-last
invariant-loop-last l = l.in_order.items ++ l.sorted.entries ≡ l.fn.in_order.items ++ l.fn.sorted.entries

abbrev pub decreases-loop-last : goal.decreases-loop-last
decreases-loop-last l = goal.left-loop-last l
