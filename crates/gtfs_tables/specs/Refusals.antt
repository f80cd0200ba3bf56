-- Why a feed is not read, beside what it holds.
use Rattle.std.specs.Prelude.{◌≡◌, Result, Ok, Err, ⊤}
use Rattle.gtfs_tables.specs.declared.faults.Table.{Table}
use Rattle.gtfs_tables.specs.declared.faults.TableError.{TableError}
use Rattle.gtfs_tables.specs.declared.faults.TableError.TheVariants as table
use Rattle.gtfs_tables.specs.declared.refusals.FeedRefusal.{FeedRefusal}
use Rattle.gtfs_tables.specs.declared.refusals.FeedRefusal.TheVariants.{Bad}
use Rattle.gtfs_tables.specs.declared.refusals.FeedError.{FeedError}
use Rattle.gtfs_tables.specs.declared.refusals.FeedError.TheVariants.{Refused, ReadFault, OutOfMemory}

-- an error is the refusal that the feed holds; a failed read and want of memory are free
abbrev pub IsErrorOf : {Y : Type 0} → FeedError → Result Y FeedRefusal → Type 0
IsErrorOf (Refused why) held = held ≡ Err why
IsErrorOf ReadFault held = ⊤
IsErrorOf OutOfMemory held = ⊤

-- what was made, as it is seen, is what the feed holds, or an error is the refusal that the feed
-- holds
abbrev pub Gives : {X Y : Type 0} → (X → Y) → Result X FeedError → Result Y FeedRefusal → Type 0
Gives view (Ok x) held = held ≡ Ok (view x)
Gives view (Err e) held = IsErrorOf e held

-- why a feed is not read, where one of its tables is not read
abbrev pub refusal_of : Table → TableError → FeedError
refusal_of t table.OutOfMemory = OutOfMemory
refusal_of t (table.Bad f) = Refused (Bad t f.row f.cause)

-- the same, of what reading a table gives
abbrev pub with_table : {X : Type 0} → Table → Result X TableError → Result X FeedError
with_table t (Ok x) = Ok x
with_table t (Err e) = Err (refusal_of t e)
