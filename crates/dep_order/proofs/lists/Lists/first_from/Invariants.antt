use Rattle.dep_order.proofs.Words.{nat_le, IsReached, bucket_count, bucket_of, entries_of, leaves_before}
use Rattle.dep_order.proofs.ReachLemmas.{left}
use Rattle.dep_order.proofs.lists.Lists.first_from.Given as goal

-- the departures that were passed take place before the time
abbrev pub invariant-walk : goal.invariant-walk
invariant-walk l = IsReached leaves_before (bucket_of (bucket_count l.self)) (entries_of l.self) l.bucket (λ d. nat_le l.fn.time d.time) l.number

abbrev pub decreases-walk : goal.decreases-walk
decreases-walk l = left leaves_before (entries_of l.self) l.number
