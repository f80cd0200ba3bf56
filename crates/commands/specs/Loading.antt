-- What is taken of the feed's folder behind the feed, and what a command makes of it.
use Rattle.std.specs.Prelude.{ℕ, ◌≡◌, ◌≤◌, List, true, false, length, option_map, IfSome, Result, Ok, Err, Some}
use Rattle.std.specs.declared.option.Option.{Option}
use Rattle.information_service.specs.ServiceState.{ServiceState}
use Rattle.information_service.specs.declared.fault.LinesFault.{LinesFault}
use Rattle.information_service.specs.declared.fault.LinesFault.TheVariants as faults
use Rattle.commands.specs.LineTasks.{Behind, Refuses, Start, is_long, long_line}
use Rattle.commands.specs.declared.loading.Begun.{Begun}
use Rattle.commands.specs.declared.loading.Fetched.{Fetched}
use Rattle.commands.specs.declared.loading.Fetched.TheVariants.{Table, TooLong}
use Rattle.commands.specs.declared.loading.LoadFault.{LoadFault}
use Rattle.commands.specs.declared.loading.LoadFault.TheVariants.{Refused, OutOfMemory}
use Rattle.commands.specs.declared.status.Stop.{Stop}
use Rattle.commands.specs.declared.status.Stop.TheVariants as stops

-- ---- its table

-- what was taken is this table, or it is too long
abbrev pub IsFetched : Option (List ℕ) → Fetched → Type 0
IsFetched table (Table bytes) = (table ≡ option_map (λ b. b.items) bytes) × (is_long table ≡ false)
IsFetched table (TooLong line) = is_long table ≡ true

-- a table that was taken has at most so many bytes
abbrev pub HasFewBytes : Fetched → Type 0
HasFewBytes (Table bytes) = IfSome bytes (λ b. length b.items ≤ 268435456)
HasFewBytes (TooLong line) = Unit {0}

-- a table that is too long is refused by the line with its name
abbrev pub HasLongLine : Option (List ℕ) → Fetched → Type 0
HasLongLine name (Table bytes) = Unit {0}
HasLongLine name (TooLong line) = (n : List ℕ) × (name ≡ Some n) × (line.items ≡ long_line n)

-- the fault is one of a feed: a read failed, or there was no memory
abbrev pub IsOfFeed : LinesFault → Type 0
IsOfFeed faults.ReadFault = Unit {0}
IsOfFeed faults.WriteFault = ⊥
IsOfFeed faults.OutOfMemory = Unit {0}
IsOfFeed faults.TooLong = ⊥

-- ---- what is made of it

-- the command begins as is due, with this service, or it refuses by the line that is due. Want of
-- memory may always come
abbrev pub IsLoaded : {C : Type 0} → Result (Start C) (List ℕ) → ServiceState → Result C LoadFault
    → Type 0
IsLoaded due service (Ok kept) = due ≡ Ok (record { service = service; kept = kept })
IsLoaded due service (Err (Refused line)) = due ≡ Err line.items
IsLoaded due service (Err OutOfMemory) = Unit {0}

-- where it refuses, it does so by a line by which it does
abbrev pub HasOwnLine : {C : Type 0} → Behind C → LoadFault → Type 0
HasOwnLine b (Refused line) = Refuses b line.items
HasOwnLine b OutOfMemory = Unit {0}

-- why a run stops then
abbrev pub load_stop : LoadFault → Stop
load_stop (Refused line) = stops.Refused line
load_stop OutOfMemory = stops.Fault faults.OutOfMemory

-- what it begins with, as it is held
abbrev pub start_of : {C : Type 0} → Begun C → Start C
start_of b = record { service = b.service; kept = b.kept }
