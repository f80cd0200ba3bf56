use Rattle.gtfs_tables.proofs.Words.{◌≡◌, ◌++◌}
use Rattle.gtfs_tables.proofs.keyed_calls.KeyedCalls.into_entries.Given as goal

abbrev pub invariant-loop-key : goal.invariant-loop-key
invariant-loop-key l = l.entries.items ++ l.key-iterator ≡ l.fn.self
