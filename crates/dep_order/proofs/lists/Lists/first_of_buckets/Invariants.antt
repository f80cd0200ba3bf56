use Rattle.dep_order.proofs.Words.{◌≡◌, ◌≤◌, ℕ, Some, Departure, held, bucket_count, bucket_of, entries_of}
use Rattle.dep_order.proofs.lists.Lists.first_of_buckets.Given as goal

-- no departure is in the buckets up to here
abbrev pub invariant-loop-bucket : goal.invariant-loop-bucket
invariant-loop-bucket l = (i : ℕ) (d : Departure) → held (entries_of l.self) i ≡ Some d → l.from ≤ bucket_of (bucket_count l.self) d → l.bucket ≤ bucket_of (bucket_count l.self) d
