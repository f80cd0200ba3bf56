use Rattle.gtfs_tables.proofs.Words.{◌≡◌, [], drop, check_trips}
use Rattle.gtfs_tables.proofs.stop_times.check_trips.Given as goal

abbrev pub invariant-loop-key : goal.invariant-loop-key
invariant-loop-key l = check_trips 0 [] l.by_key ≡ check_trips l.trip l.passed.items (drop l.key-index l.by_key)
