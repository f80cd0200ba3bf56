use Rattle.dep_order.proofs.Words.{◌≢◌, ◌<◌, ◌≤◌, IsReached, bucket_count, bucket_of, entries_of, leaves_after, leaves_before, nobody}
use Rattle.dep_order.proofs.ReachLemmas.{left}
use Rattle.dep_order.proofs.lists.Lists.walk.Given as goal

-- either walk has come to a departure, and not past the gap
abbrev pub invariant-search : goal.invariant-search
invariant-search l = record {
  front : IsReached leaves_before (bucket_of (bucket_count l.self)) (entries_of l.self) l.fn.ends.bucket (leaves_before l.departure) l.after;
  front_is : l.after ≢ nobody;
  back : IsReached leaves_after (bucket_of (bucket_count l.self)) (entries_of l.self) l.fn.ends.bucket (leaves_after l.departure) l.before;
  back_is : l.before ≢ nobody;
  fewer : left leaves_before (entries_of l.self) l.after ≤ left leaves_before (entries_of l.self) l.fn.ends.front;
  few : l.steps < 32;
}

abbrev pub decreases-search : goal.decreases-search
decreases-search l = left leaves_before (entries_of l.self) l.after
