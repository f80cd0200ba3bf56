use Rattle.gtfs_tables.proofs.Words.{◌≡◌, length, reverse, trim_start}
use Rattle.gtfs_tables.proofs.fields.trim_end.Given as goal

abbrev pub invariant-loop-bytes : goal.invariant-loop-bytes
invariant-loop-bytes l = trim_start (reverse l.bytes) ≡ trim_start (reverse l.fn.bytes)

abbrev pub decreases-loop-bytes : goal.decreases-loop-bytes
decreases-loop-bytes l = length l.bytes
