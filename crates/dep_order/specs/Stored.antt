-- How departures are stored: in slots by number, in buckets of eight seconds.
use Rattle.std.specs.Prelude.{◌≡◌, ◌≢◌, ℕ, ◌-◌, ◌/◌, ◌<◌, ◌≤◌, ◌^◌, All, min, List, Option}
use Rattle.std.specs.Prelude.{if◌then◌else◌, nat_eq, length, map, get_or, IsSome}
use Rattle.dep_order.specs.declared.departure.Departure.{Departure}
use Rattle.dep_order.specs.declared.departure.Onward.{Onward}
use Rattle.dep_order.specs.declared.lists.Bucket.{Bucket}
use Rattle.dep_order.specs.declared.lists.Lists.{Lists}
use Rattle.dep_order.specs.Departing.{held, leaves_before}
use Rattle.dep_order.specs.Held.{HaveDistinctCalls}
use Rattle.dep_order.specs.Linked.{AreLinked, IsNext, leaves_after}
use Rattle.dep_order.specs.Slots.{departure_in, nobody, onward_in, slot_at}

abbrev pub entries_of : Lists → List (Option Departure)
entries_of l = map departure_in l.slots

-- what stands beside the numbers
abbrev pub onwards_of : Lists → List Onward
onwards_of l = map onward_in l.slots

-- how many buckets there are
abbrev pub bucket_count : Lists → ℕ
bucket_count l = length l.buckets.items

-- the bucket of a departure, of so many: the last one is for all later times too
abbrev pub bucket_of : ℕ → Departure → ℕ
bucket_of count d = min (d.time / 8) (count - 1)

abbrev pub bucket_at : Lists → ℕ → Bucket
bucket_at l b = get_or l.buckets.items b (record { first = nobody; last = nobody })

-- the number after a departure in its bucket, or after nobody the first of the bucket
abbrev pub next_in : Lists → ℕ → ℕ → ℕ
next_in l b i = if nat_eq i nobody then (bucket_at l b).first else (slot_at l.slots i).after

-- the number before a departure in its bucket, or before nobody the last of the bucket
abbrev pub previous_in : Lists → ℕ → ℕ → ℕ
previous_in l b i = if nat_eq i nobody then (bucket_at l b).last else (slot_at l.slots i).before

-- of the departures of a bucket that come after a bound, the first has this number
abbrev pub IsNextIn : Lists → ℕ → Option Departure → ℕ → Type 0
IsNextIn l b bound number =
    IsNext leaves_before (bucket_of (bucket_count l)) (entries_of l) b bound number

-- of those that come before it, the last has
abbrev pub IsPreviousIn : Lists → ℕ → Option Departure → ℕ → Type 0
IsPreviousIn l b bound number =
    IsNext leaves_after (bucket_of (bucket_count l)) (entries_of l) b bound number

-- nobody, or the number of a departure that is there
abbrev pub IsLinkEnd : Lists → ℕ → Type 0
IsLinkEnd l number = number ≢ nobody → IsSome (held (entries_of l) number)

-- the departures are of different calls, and each is linked with those beside it in its bucket
pub record AreKept (l : Lists) : Type 0 where
  pub some : 0 < bucket_count l
  pub few : length l.slots ≤ 2 ^ 22
  pub calls : HaveDistinctCalls (entries_of l)
  pub nexts : AreLinked leaves_before (bucket_of (bucket_count l)) (bucket_count l) (entries_of l)
      (next_in l)
  pub previous : AreLinked leaves_after (bucket_of (bucket_count l)) (bucket_count l) (entries_of l)
      (previous_in l)
  pub past : All (λ o. o.next ≤ length l.slots) (onwards_of l)

-- the lists before and after one number got another beside it in a bucket, on the side of `set`
pub record IsLinkSet (set stays : Lists → ℕ → ℕ → ℕ) (b number beside : ℕ)
    (old new : Lists) : Type 0 where
  pub entries : entries_of new ≡ entries_of old
  pub onwards : onwards_of new ≡ onwards_of old
  pub buckets : bucket_count new ≡ bucket_count old
  pub is : set new b number ≡ beside
  pub others : (c i : ℕ) → (i ≡ number → (i ≡ nobody) × (c ≢ b)) → set new c i ≡ set old c i
  pub same : (c i : ℕ) → stays new c i ≡ stays old c i

-- the lists before and after two numbers got to follow each other in a bucket
pub record IsJoined (b before after : ℕ) (old new : Lists) : Type 0 where
  pub entries : entries_of new ≡ entries_of old
  pub onwards : onwards_of new ≡ onwards_of old
  pub buckets : bucket_count new ≡ bucket_count old
  pub next_is : next_in new b before ≡ after
  pub previous_is : previous_in new b after ≡ before
  pub nexts : (c i : ℕ) → (i ≡ before → (i ≡ nobody) × (c ≢ b))
      → next_in new c i ≡ next_in old c i
  pub previous : (c i : ℕ) → (i ≡ after → (i ≡ nobody) × (c ≢ b))
      → previous_in new c i ≡ previous_in old c i
