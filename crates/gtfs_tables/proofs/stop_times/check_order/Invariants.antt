use Rattle.gtfs_tables.proofs.Words.{◌≡◌, drop, check_order}
use Rattle.gtfs_tables.proofs.stop_times.check_order.Given as goal

abbrev pub invariant-loop-call : goal.invariant-loop-call
invariant-loop-call l = check_order 0 l.calls ≡ check_order l.before (drop l.call-index l.calls)
