-- Stored times by event, after one is written, and after times are added.
use Rattle.event_numbers.proofs.Words.{◌≡◌, ℕ, ◌+◌, ◌*◌, ◌<◌, ◌≤◌, List, true, cond, nat_lt, length, arith, Some, None, slice_get, option_map, nat_tests, get_or-replicate, slice_get_cases}
use Rattle.event_numbers.proofs.Words.{length-replicate, Node, is_same_node, StoredTimes, place_of, time_of, has_time, with_time, no_time, blank_times, with_train_times, with_labels}
use Rattle.event_numbers.proofs.ListLemmas.{change-get, get-append, set-get}

-- a written time is the event's, and the others stay
pub with_time-law : (k : StoredTimes) (n m : Node) (x : ℕ) → has_time k n ≡ true → time_of (with_time n x k) m ≡ cond (is_same_node n m) (Some x) (time_of k m)
unfolding time_of is_same_node
with_time-law k n m x h = grind (arith, nat_tests, h, change-get, set-get)

pub blank-get : (labels i : ℕ) → slice_get (blank_times labels) i ≡ cond (nat_lt i (2 * labels)) (Some no_time) None
blank-get labels i =
    grind (arith, nat_tests, slice_get_cases (blank_times labels) i, length-replicate (2 * labels) no_time, get_or-replicate (2 * labels) i no_time)

-- with times for one more train, an old time stays
pub pushed-old : (labels : ℕ) (k : StoredTimes) (n : Node) → has_time k n ≡ true → time_of (with_train_times labels k) n ≡ time_of k n
unfolding time_of
pushed-old labels k n h = grind (arith, nat_tests, h, get-append, slice_get_cases k.trains n.train)

-- and a new one is that of no event
pub pushed-new : (labels : ℕ) (k : StoredTimes) (n : Node) → n.train ≡ length k.trains → n.label < labels → time_of (with_train_times labels k) n ≡ Some no_time
unfolding time_of
pushed-new labels k n e l = grind (arith, nat_tests, e, l, get-append, blank-get)

-- with times for more labels of a train, an old time stays
pub added-old : (t labels : ℕ) (k : StoredTimes) (n : Node) → has_time k n ≡ true → time_of (with_labels t labels k) n ≡ time_of k n
unfolding time_of
added-old t labels k n h = grind (arith, nat_tests, h, change-get, get-append, λ (ts : List ℕ). slice_get_cases ts (place_of n))

-- and a new one is that of no event
pub added-new : (t labels : ℕ) (k : StoredTimes) (n : Node) (next : ℕ) → n.train ≡ t → option_map length (slice_get k.trains t) ≡ Some (2 * next) → next ≤ n.label → n.label < next + labels → time_of (with_labels t labels k) n ≡ Some no_time
unfolding time_of
added-new t labels k n next e h l m = grind (arith, nat_tests, e, h, l, m, change-get, get-append, blank-get)

-- each label of a train has its times
pub held : (k : StoredTimes) (n : Node) (next : ℕ) → option_map length (slice_get k.trains n.train) ≡ Some (2 * next) → n.label < next → has_time k n ≡ true
unfolding time_of
held k n next h l = grind (arith, h, l, slice_get_cases)
