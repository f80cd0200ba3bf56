-- A search in a bucket, from both its ends, for the place of a departure.
use Rattle.std.specs.Prelude.{◌≡◌, ◌≢◌, ℕ, ◌<◌, Some, true}
use Rattle.dep_order.specs.declared.departure.Departure.{Departure}
use Rattle.dep_order.specs.declared.gap.Ends.{Ends}
use Rattle.dep_order.specs.declared.lists.Gap.{Gap}
use Rattle.dep_order.specs.declared.lists.Lists.{Lists}
use Rattle.dep_order.specs.Departing.{held, leaves_before}
use Rattle.dep_order.specs.Linked.{IsReached, left, leaves_after}
use Rattle.dep_order.specs.Slots.{nobody}
use Rattle.dep_order.specs.Stored.{IsNextIn, IsPreviousIn, bucket_count, bucket_of, entries_of}

-- either walk has come to a departure, and not past the place
pub record IsBetween (l : Lists) (d : Departure) (ends : Ends) : Type 0 where
  pub forward : IsReached leaves_before (bucket_of (bucket_count l)) (entries_of l) ends.bucket
      (leaves_before d) ends.front
  pub front_is : ends.front ≢ nobody
  pub backward : IsReached leaves_after (bucket_of (bucket_count l)) (entries_of l) ends.bucket
      (leaves_after d) ends.back
  pub back_is : ends.back ≢ nobody

-- a departure of the bucket comes after another
pub record IsFollowed (l : Lists) (d : Departure) (b : ℕ) : Type 0 where
  pub number : ℕ
  pub later : Departure
  pub there : held (entries_of l) number ≡ Some later
  pub mine : bucket_of (bucket_count l) later ≡ b
  pub is : leaves_before d later ≡ true

-- the walks went on in the same bucket, and did not come to its ends
pub record IsFurther (l : Lists) (d : Departure) (from to : Ends) : Type 0 where
  pub bucket : to.bucket ≡ from.bucket
  pub between : IsBetween l d to
  pub followed : IsFollowed l d to.bucket
  pub fewer : left leaves_before (entries_of l) to.front < left leaves_before (entries_of l) from.front

-- the departure belongs between these two
pub record IsGap (l : Lists) (d : Departure) (b : ℕ) (gap : Gap) : Type 0 where
  pub next : IsNextIn l b (Some d) gap.after
  pub previous : IsPreviousIn l b (Some d) gap.before

-- the departure of a number is of a bucket, and comes before another
pub record IsBeside (l : Lists) (d : Departure) (b number : ℕ) : Type 0 where
  pub sooner : Departure
  pub there : held (entries_of l) number ≡ Some sooner
  pub mine : bucket_of (bucket_count l) sooner ≡ b
  pub is : leaves_before sooner d ≡ true
